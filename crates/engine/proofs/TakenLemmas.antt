-- Why the state of a legal history is one that can be, and what it counts.
use Rattle.std.proofs.Common.{◌≡◌, ℕ, ◌+◌, ◌*◌, ◌≤◌, min, Bool, true, false, ◌&&◌, eqb, ltb, leb, List, [], ◌∷◌, length, refl, ap, sym, ◌∙◌, arith, inl, inr}
use Rattle.std.specs.List.{list_all}
use Rattle.std.proofs.lemmas.List.Elements.{filter_agree}
use Rattle.std.proofs.lemmas.Bool.{and_parts, and_from, or_cases, eqb-true, ltb-true, lt-ltb, le-leb}
use Rattle.fc_base.specs.declared.limits.TheConstants.{MAX_WINDOW, MAX_WRITES}
use Rattle.fc_base.specs.declared.numbers.Key.{Key}
use Rattle.fc_base.specs.declared.record.JobParts.{JobParts}
use Rattle.fc_base.specs.Counted.{has, numbers_below, is_counted, counted, uncounted, is_distinct}
use Rattle.fc_base.specs.Keys.{is_key}
use Rattle.fc_base.specs.Marks.{counted_by, is_possible_by}
use Rattle.fc_base.specs.NumberLaws.{has_counted}
use Rattle.engine.specs.History.{Event, issued, is_done, recent, done_marks}
use Rattle.engine.specs.Kept as window
use Rattle.engine.specs.WindowRules as rules
use Rattle.engine.specs.Counting.{CountsTheCompleted, ComesToPossible, MarksCountTheCompleted, ComesToPossibleMarks}
use Rattle.engine.specs.Running.{Running, StandsFor}
use Rattle.engine.specs.Taken.{state_now, state_after, CountsTheDone}
use Rattle.engine.proofs.RunningLemmas.{kept_is, in_window}
use Rattle.verify_state.specs.State.{state_of, state_by, has_come_by, field_faults_by}

-- ---- what counts was issued

all_has : (p : ℕ → Bool) (ks : List ℕ) (k : ℕ) → list_all p ks ≡ true → has ks k ≡ true → p k ≡ true
all_has p [] k all h = cc
all_has p (x ∷ ks) k all h =
    let parts = and_parts (p x) (list_all p ks) all in
    elim (or_cases (eqb x k) (has ks k) h) [
      | inl here ↦ ap p (sym (eqb-true x k here)) ∙ parts.0
      | inr there ↦ all_has p ks k parts.1 there
    ]

both_or_none : (a b : Bool) → (b ≡ true → a ≡ true) → (a && b) ≡ b
both_or_none true b e = refl
both_or_none false true e = e refl
both_or_none false false e = refl

counted_below : (window n k : ℕ) (ks : List ℕ) → list_all (λ j. ltb j n) ks ≡ true → is_counted window n ks k ≡ true → ltb k n ≡ true
counted_below window n k ks all c = elim (or_cases (has ks k) (ltb (k + window) n) c) [
  | inl listed ↦ all_has (λ j. ltb j n) ks k all listed
  | inr old ↦ lt-ltb k n (omega (arith, ltb-true (k + window) n old))
]

counted_where : (window n k : ℕ) (ks : List ℕ) → list_all (λ j. ltb j n) ks ≡ true → has (counted window n ks) k ≡ is_counted window n ks k
counted_where window n k ks all =
    has_counted window n ks k ∙ both_or_none (ltb k n) (is_counted window n ks k) (counted_below window n k ks all)

-- ---- the state of a legal history

abbrev listed_once : ℕ → List ℕ → Bool
listed_once n ks = is_distinct ks && list_all (λ j. ltb j n) ks

abbrev left_none_out : ℕ → ℕ → ℕ → List ℕ → Bool
left_none_out depth window n ks =
    leb (length (uncounted window n ks)) depth && eqb (length ks) (min (2 * window) (length (counted window n ks)))

-- it counts exactly the completed writes
pub counts_the_done : CountsTheCompleted → ComesToPossible → (depth window : ℕ) (h : List Event) → rules.IsLegal depth window h → (k : ℕ)
    → has (counted window (issued h) (recent window h)) k ≡ is_done h k
counts_the_done counts comes depth window h legal k =
    let once = and_parts (listed_once (issued h) (recent window h)) (left_none_out depth window (issued h) (recent window h)) (comes depth window h legal) in
    let all = and_parts (is_distinct (recent window h)) _ once.0 in
    counted_where window (issued h) k (recent window h) all.1 ∙ counts depth window h legal k

-- and so do its marks
marks_count : CountsTheCompleted → MarksCountTheCompleted → (depth window : ℕ) (h : List Event) → window ≤ MAX_WINDOW → rules.IsLegal depth window h
    → counted_by window (issued h) (done_marks window h) ≡ counted window (issued h) (recent window h)
marks_count counts marks depth window h narrow legal =
    marks depth window h narrow legal
    ∙ sym (filter_agree (is_counted window (issued h) (recent window h)) (is_done h) (counts depth window h legal) (numbers_below (issued h)))

-- ---- the state of an engine

-- nothing is wrong with the fields of marks that some job can have come to
pub no_faults : (key : Key) (job : JobParts) (n : ℕ) (marks : List ℕ) → is_key key ≡ true → n ≤ job.total → job.total ≤ MAX_WRITES
    → is_possible_by job.depth job.window n marks ≡ true → field_faults_by key job n marks ≡ []
unfolding has_come_by
no_faults key job n marks is_one fewer most possible =
    let come : has_come_by job n marks ≡ true = and_from _ _ (le-leb n job.total fewer) possible in
    rw (is_one, le-leb n MAX_WRITES (omega arith), come) refl

-- the marks of an engine's window are those of its history
marks_in : (r : Running) (marks : List ℕ) → window.EachHistory r.kept (λ depth window h. marks ≡ done_marks window h) → (h : List Event) → StandsFor r h
    → marks ≡ done_marks r.origin.job.window h
marks_in r marks each h s = each r.origin.job.depth r.origin.job.window h (in_window r h s)

pub possible_in : ComesToPossibleMarks → (r : Running) (marks : List ℕ) → r.origin.job.window ≤ MAX_WINDOW
    → window.EachHistory r.kept (λ depth window h. marks ≡ done_marks window h) → (h : List Event) → StandsFor r h
    → is_possible_by r.origin.job.depth r.origin.job.window r.kept.issued marks ≡ true
possible_in comes r marks narrow each h s =
    rw (kept_is r h s, marks_in r marks each h s) (comes r.origin.job.depth r.origin.job.window h narrow s.legal.by_window)

pub counted_in : CountsTheCompleted → MarksCountTheCompleted → (r : Running) (marks : List ℕ) → r.origin.job.window ≤ MAX_WINDOW
    → window.EachHistory r.kept (λ depth window h. marks ≡ done_marks window h) → (h : List Event) → StandsFor r h
    → counted_by r.origin.job.window r.kept.issued marks ≡ counted r.origin.job.window r.kept.issued r.kept.recent
counted_in counts by_marks r marks narrow each h s =
    rw (kept_is r h s, marks_in r marks each h s) (marks_count counts by_marks r.origin.job.depth r.origin.job.window h narrow s.legal.by_window)

pub state_with : (key : Key) (job : JobParts) (n : ℕ) (place marks completions : List ℕ) → counted_by job.window n marks ≡ counted job.window n completions
    → state_by key job n place marks ≡ state_of key job n place completions
state_with key job n place marks completions e = rw e refl

pub state_of_history : (r : Running) (h : List Event) → StandsFor r h → state_now r ≡ state_after r.origin h
state_of_history r h s = rw (kept_is r h s) refl

pub state_counts : CountsTheCompleted → ComesToPossible → (r : Running) (h : List Event) → StandsFor r h → CountsTheDone (state_now r) h
state_counts counts comes r h s k =
    rw (kept_is r h s) (counts_the_done counts comes r.origin.job.depth r.origin.job.window h s.legal.by_window k)
