-- Notices have one history, and more notices only add to it.
use Rattle.std.proofs.Common.{◌≡◌, ℕ, zero, suc, ◌+◌, ◌<◌, ◌≤◌, Bool, true, false, not, List, [], ◌∷◌, ◌++◌, length, length-append, map, filter}
use Rattle.std.proofs.Common.{append_assoc, append-nil, refl, sym, ap, ◌∙◌, subst, inl, inr, arith}
use Rattle.std.specs.List.{flat_map}
use Rattle.std.proofs.lemmas.Bool.{cases_Bool, cases_lt, false≢true, lt-leb, lt-ltb}
use Rattle.std.proofs.lemmas.Grind.{flat_map-append}
use Rattle.std.proofs.lemmas.List.{length_push}
use Rattle.fc_base.specs.Counted.{has}
use Rattle.fc_base.specs.declared.record.JobParts.{JobParts}
use Rattle.write_order.specs.Blocks.{block_of}
use Rattle.engine.specs.History.{Event, issue, done, fail, issues, completions, failures, issued, is_done, in_flight}
use Rattle.engine.specs.Kept.{is_held}
use Rattle.engine.specs.Sets.{InFlightIsNotDone, OpenIsNotFailed}
use Rattle.engine.specs.Legal.{IsLegal, any_goes_to}
use Rattle.engine.specs.Laws.{StatesCountTheDone}
use Rattle.engine.specs.Running.{Origin}
use Rattle.engine.specs.Answers.{answer_to, is_write}
use Rattle.targets.specs.declared.notice.Notice.{Notice}
use Rattle.targets.specs.declared.notice.Notice.TheVariants.{Done, Failed, Take}
use Rattle.targets.specs.Orders.{order_bytes, orders}
use Rattle.targets.specs.Runs.{Follows, IsHistory, Issues}
use Rattle.targets.specs.Examples.{three_writes, one_told, two_told}
use Rattle.targets.specs.Notices.{told_done, told_failed}
use Rattle.targets.specs.Fronts.{IsBehind, HistoriesAreOne, HistoriesGoOn, OrdersGoOn, OrderedAreIssued, ToldAreCounted, OrderedAreOpen}

-- ---- what may be issued is issued

-- No write in flight holds the next one where all that lie a window below it are done.
none_is_held : (window n : ℕ) (p : ℕ → Bool) (xs : List ℕ) → ((j : ℕ) → j + window ≤ n → p j ≡ true)
    → is_held window n (filter (λ k. not (p k)) xs) ≡ false
none_is_held window n p [] clear = refl
none_is_held window n p (x ∷ xs) clear = elim (cases_Bool (p x)) [
  | inl t ↦ rw t (none_is_held window n p xs clear)
  | inr f ↦ elim (cases_lt n (x + window)) [
    | inl near ↦ rw (f, lt-leb (x + window) n near) (none_is_held window n p xs clear)
    | inr far ↦ absurd (false≢true (sym f ∙ clear x far))
  ]
]

-- A write whose issue is legal is answered.
issue_is_answered : (origin : Origin) (k : ℕ) (h : List Event) → IsLegal origin.job (issue k ∷ h) → is_write (answer_to origin false h) ≡ true
issue_is_answered origin k h legal =
    let job = origin.job in
    let next : k ≡ issued h = legal.by_window.1 in
    let left : issued h < job.total = subst (λ i. i < job.total) next legal.by_job.1 in
    let apart : any_goes_to job (block_of job (issued h)) (in_flight h) ≡ false =
    subst (λ i. any_goes_to job (block_of job i) (in_flight h) ≡ false) next legal.by_job.2 in
    rw (
      legal.by_job.3,
      lt-leb job.total (issued h) left,
      lt-leb job.depth (length (in_flight h)) legal.by_window.2,
      none_is_held job.window (issued h) (is_done h) (issues h) legal.by_window.3,
      apart,
    )
    refl

-- ---- so the same are issued

-- Some numbers from this one on, the last first.
abbrev down : ℕ → ℕ → List ℕ
down i zero = []
down i (suc n) = (i + n) ∷ down i n

issued_more : (writes : List ℕ) (h : List Event) → issued (map issue writes ++ h) ≡ issued h + length writes
issued_more [] h = omega arith
issued_more (k ∷ writes) h = omega (arith, length_push (issues (map issue writes ++ h)) k, issued_more writes h)

pub older_is_legal : (job : JobParts) (e : Event) (h : List Event) → IsLegal job (e ∷ h) → IsLegal job h
older_is_legal job (issue k) h legal = record { by_window = legal.by_window.0; by_job = legal.by_job.0 }
older_is_legal job (done k) h legal = record { by_window = legal.by_window.0; by_job = legal.by_job }
older_is_legal job (fail k) h legal = record { by_window = legal.by_window.0; by_job = legal.by_job }

writes_are : (job : JobParts) (writes : List ℕ) (h : List Event) → IsLegal job (map issue writes ++ h) → writes ≡ down (issued h) (length writes)
writes_are job [] h legal = refl
writes_are job (k ∷ writes) h legal =
    let k_is : k ≡ issued h + length writes = omega (arith, legal.by_window.1, issued_more writes h) in
    ap (λ j. j ∷ writes) k_is
    ∙ ap (λ l. (issued h + length writes) ∷ l) (writes_are job writes h (older_is_legal job (issue k) (map issue writes ++ h) legal))

next_is_legal : (job : JobParts) (i n m : ℕ) (h : List Event) → n < m → IsLegal job (map issue (down i m) ++ h)
    → IsLegal job (issue (i + n) ∷ (map issue (down i n) ++ h))
next_is_legal job i n zero h less legal = absurd (omega arith)
next_is_legal job i n (suc m) h less legal = elim (cases_lt n m) [
  | inl lt ↦ next_is_legal job i n m h lt (older_is_legal job (issue (i + m)) (map issue (down i m) ++ h) legal)
  | inr ge ↦
      let same : m ≡ n = omega arith in
      subst (λ x. IsLegal job (issue (i + x) ∷ (map issue (down i x) ++ h))) same legal
]

-- None issue fewer than others, where all are issued that can be.
none_fewer : (origin : Origin) (v w : List ℕ) (h : List Event) → IsLegal origin.job (map issue v ++ h) → IsLegal origin.job (map issue w ++ h)
    → is_write (answer_to origin false (map issue v ++ h)) ≡ false → length v < length w → ⊥
none_fewer origin v w h v_legal w_legal all less =
    let down_legal : IsLegal origin.job (map issue (down (issued h) (length w)) ++ h) =
    subst (λ l. IsLegal origin.job (map issue l ++ h)) (writes_are origin.job w h w_legal) w_legal in
    let next = next_is_legal origin.job (issued h) (length v) (length w) h less down_legal in
    let answered = issue_is_answered origin (issued h + length v) (map issue (down (issued h) (length v)) ++ h) next in
    let also : is_write (answer_to origin false (map issue v ++ h)) ≡ true =
    ap (λ l. is_write (answer_to origin false (map issue l ++ h))) (writes_are origin.job v h v_legal) ∙ answered in
    false≢true (sym all ∙ also)

one_issued : (origin : Origin) (before a b : List Event) → Issues origin before a → Issues origin before b → a ≡ b
one_issued origin before a b x y =
    let x_legal : IsLegal origin.job (map issue x.writes ++ before) = subst (IsLegal origin.job) x.events x.legal in
    let y_legal : IsLegal origin.job (map issue y.writes ++ before) = subst (IsLegal origin.job) y.events y.legal in
    let x_all : is_write (answer_to origin false (map issue x.writes ++ before)) ≡ false =
    subst (λ h. is_write (answer_to origin false h) ≡ false) x.events x.all in
    let y_all : is_write (answer_to origin false (map issue y.writes ++ before)) ≡ false =
    subst (λ h. is_write (answer_to origin false h) ≡ false) y.events y.all in
    let long : length x.writes ≡ length y.writes = elim (cases_lt (length x.writes) (length y.writes)) [
      | inl less ↦ absurd (none_fewer origin x.writes y.writes before x_legal y_legal x_all less)
      | inr most ↦ elim (cases_lt (length y.writes) (length x.writes)) [
        | inl less ↦ absurd (none_fewer origin y.writes x.writes before y_legal x_legal y_all less)
        | inr least ↦ omega arith
      ]
    ] in
    let same : x.writes ≡ y.writes =
    writes_are origin.job x.writes before x_legal ∙ ap (down (issued before)) long ∙ sym (writes_are origin.job y.writes before y_legal) in
    x.events ∙ ap (λ l. map issue l ++ before) same ∙ sym y.events

one_follows : (origin : Origin) (n : Notice) (before a b : List Event) → Follows origin n before a → Follows origin n before b → a ≡ b
one_follows origin (Done k) before a b x y = one_issued origin (done k ∷ before) a b x y
one_follows origin (Failed k) before a b x y = one_issued origin (fail k ∷ before) a b x y
one_follows origin Take before a b x y = absurd x

pub histories_are_one : HistoriesAreOne
histories_are_one origin [] a b x y = one_issued origin [] a b x y
histories_are_one origin (n ∷ ns) a b x y =
    let same : x.0 ≡ y.0 = histories_are_one origin ns x.0 y.0 x.1 y.1 in
    one_follows origin n y.0 a b (subst (λ h. Follows origin n h a) same x.2) y.2

-- ---- and a history goes on from an older one

newer_by : (origin : Origin) (n : Notice) (before h : List Event) → Follows origin n before h → (newer : List Event) × (h ≡ newer ++ before)
newer_by origin (Done k) before h x =
    (map issue x.writes ++ done k ∷ [], x.events ∙ sym (append_assoc (map issue x.writes) (done k ∷ []) before))
newer_by origin (Failed k) before h x =
    (map issue x.writes ++ fail k ∷ [], x.events ∙ sym (append_assoc (map issue x.writes) (fail k ∷ []) before))
newer_by origin Take before h x = absurd x

goes_on_by : (origin : Origin) (first more : List Notice) (behind ahead : List Event) → IsHistory origin first behind → IsHistory origin (more ++ first) ahead
    → (newer : List Event) × (ahead ≡ newer ++ behind)
goes_on_by origin first [] behind ahead x y = ([], histories_are_one origin first ahead behind y x)
goes_on_by origin first (n ∷ more) behind ahead x y =
    let old = goes_on_by origin first more behind y.0 x y.1 in
    let new = newer_by origin n y.0 ahead y.2 in
    (new.0 ++ old.0, new.1 ∙ ap (λ l. new.0 ++ l) old.1 ∙ sym (append_assoc new.0 old.0 behind))

pub histories_go_on : HistoriesGoOn
histories_go_on origin first notices behind ahead b =
    goes_on_by origin first b.more behind ahead b.first_history (subst (λ l. IsHistory origin l ahead) b.front b.history)

issues_go_on : (newer behind : List Event) → issues (newer ++ behind) ≡ issues behind ++ issues newer
issues_go_on [] behind = sym (append-nil (issues behind))
issues_go_on (issue k ∷ newer) behind =
    ap (λ l. l ++ k ∷ []) (issues_go_on newer behind) ∙ append_assoc (issues behind) (issues newer) (k ∷ [])
issues_go_on (done k ∷ newer) behind = issues_go_on newer behind
issues_go_on (fail k ∷ newer) behind = issues_go_on newer behind

pub orders_go_on : OrdersGoOn
orders_go_on origin first notices behind ahead b =
    let more = histories_go_on origin first notices behind ahead b in
    let order = order_bytes origin.key origin.job in (
      flat_map order (issues more.0),
      ap (orders origin.key origin.job) more.1
          ∙ ap (flat_map order) (issues_go_on more.0 behind)
          ∙ flat_map-append order (issues behind) (issues more.0),
    )

pub ordered_are_issued : OrderedAreIssued
ordered_are_issued origin first notices behind ahead b k below =
    let more = histories_go_on origin first notices behind ahead b in
    omega (arith, below, ap length (ap issues more.1 ∙ issues_go_on more.0 behind), length-append (issues behind) (issues more.0))

-- ---- what was told

issues_end_none : (writes : List ℕ) (h : List Event) → (completions (map issue writes ++ h) ≡ completions h) × (failures (map issue writes ++ h) ≡ failures h)
issues_end_none [] h = (refl, refl)
issues_end_none (k ∷ writes) h = issues_end_none writes h

ended_by : (origin : Origin) (n : Notice) (ns : List Notice) (before h : List Event)
    → (completions before ≡ told_done ns) × (failures before ≡ told_failed ns) → Follows origin n before h
    → (completions h ≡ told_done (n ∷ ns)) × (failures h ≡ told_failed (n ∷ ns))
ended_by origin (Done k) ns before h old x =
    let none = issues_end_none x.writes (done k ∷ before) in
    (ap completions x.events ∙ none.0 ∙ ap (λ l. l ++ k ∷ []) old.0, ap failures x.events ∙ none.1 ∙ old.1)
ended_by origin (Failed k) ns before h old x =
    let none = issues_end_none x.writes (fail k ∷ before) in
    (ap completions x.events ∙ none.0 ∙ old.0, ap failures x.events ∙ none.1 ∙ ap (λ l. l ++ k ∷ []) old.1)
ended_by origin Take ns before h old x = absurd x

-- The writes that have ended are those that were told.
pub told_are_ended : (origin : Origin) (notices : List Notice) (h : List Event) → IsHistory origin notices h
    → (completions h ≡ told_done notices) × (failures h ≡ told_failed notices)
told_are_ended origin [] h x =
    let none = issues_end_none x.writes [] in
    (ap completions x.events ∙ none.0, ap failures x.events ∙ none.1)
told_are_ended origin (n ∷ ns) h x = ended_by origin n ns x.0 h (told_are_ended origin ns x.0 x.1) x.2

pub history_is_legal : (origin : Origin) (notices : List Notice) (h : List Event) → IsHistory origin notices h → IsLegal origin.job h
history_is_legal origin [] h x = x.legal
history_is_legal origin (n ∷ ns) h x = by n x.2
  where
    by : (n : Notice) → Follows origin n x.0 h → IsLegal origin.job h
    by (Done k) follows = follows.legal
    by (Failed k) follows = follows.legal
    by Take follows = absurd follows

pub told_are_counted : StatesCountTheDone → ToldAreCounted
told_are_counted taken origin notices h is k =
    taken origin h (history_is_legal origin notices h is) k ∙ ap (λ l. has l k) (told_are_ended origin notices h is).0

pub ordered_are_open : InFlightIsNotDone → OpenIsNotFailed → OrderedAreOpen
ordered_are_open flying opened origin first notices behind ahead b k below not_done not_failed =
    let ended = told_are_ended origin notices ahead b.history in
    let legal = history_is_legal origin notices ahead b.history in
    let below_all : k < issued ahead = ordered_are_issued origin first notices behind ahead b k below in
    let undone : is_done ahead k ≡ false = ap (λ l. has l k) ended.0 ∙ not_done in
    let unfailed : has (failures ahead) k ≡ false = ap (λ l. has l k) ended.1 ∙ not_failed in
    opened ahead k ∙ (rw (flying origin.job.depth origin.job.window ahead legal.by_window k, lt-ltb k (issued ahead) below_all, undone, unfailed) refl)

-- ---- an example

two_have_ended : (j : ℕ) → j + 1 ≤ 2 → is_done (done 1 ∷ one_told) j ≡ true
two_have_ended zero less = refl
two_have_ended (suc zero) less = refl
two_have_ended (suc (suc j)) less = absurd (omega (arith, less))

one_has_ended : (j : ℕ) → j + 1 ≤ 1 → is_done (done 0 ∷ issue 0 ∷ []) j ≡ true
one_has_ended zero less = refl
one_has_ended (suc j) less = absurd (omega (arith, less))

pub one_is_begun : IsHistory three_writes [] (issue 0 ∷ [])
one_is_begun = record {
  writes = 0 ∷ [];
  events = refl;
  legal = record {
    by_window = (tt, refl, omega arith, λ j less. absurd (omega (arith, less)));
    by_job = (tt, omega arith, refl, refl);
  };
  all = refl;
}

pub one_is_behind : IsBehind three_writes (Done 0 ∷ []) (Done 1 ∷ Done 0 ∷ []) one_told two_told
one_is_behind =
    let job = three_writes.job in
    let first : IsLegal job (issue 0 ∷ []) = one_is_begun.legal in
    let second : IsLegal job one_told = record {
      by_window = ((first.by_window, refl), refl, omega arith, one_has_ended);
      by_job = (first.by_job, omega arith, refl, refl);
    } in
    let third : IsLegal job two_told = record {
      by_window = ((second.by_window, refl), refl, omega arith, two_have_ended);
      by_job = (second.by_job, omega arith, refl, refl);
    } in
    let once : IsHistory three_writes (Done 0 ∷ []) one_told =
    (issue 0 ∷ [], one_is_begun, record { writes = 1 ∷ []; events = refl; legal = second; all = refl }) in
    let twice : IsHistory three_writes (Done 1 ∷ Done 0 ∷ []) two_told =
    (one_told, once, record { writes = 2 ∷ []; events = refl; legal = third; all = refl }) in
    record { more = Done 1 ∷ []; front = refl; first_history = once; history = twice }
