-- Each run and attempt that the client has given a number is seen to be.
use Rattle.std.proofs.Common.{◌≡◌, refl, sym, ◌∙◌, ap, subst, inl, inr, ℕ, ◌≤◌, Bool, true, false, ◌==◌, ◌||◌, List, [], ◌∷◌, ◌++◌}
use Rattle.std.proofs.Common.{Option, Some, None}
use Rattle.std.specs.Prelude.{if◌then◌else◌, not, Contains}
use Rattle.std.specs.List.{flat_map}
use Rattle.std.specs.Option.{option_or}
use Rattle.std.proofs.lemmas.Bool.{eq-eqb, ne_eqb, and_parts}
use Rattle.std.proofs.lemmas.List.Elements.{Contains-append_cases}
use Rattle.fc_base.specs.Counted.{has, is_distinct}
use Rattle.fc_base.specs.declared.limits.TheConstants.{MAX_SERVERS}
use Rattle.fc_base.proofs.ListLemmas.{each_of, first_or_behind, none_in}
use Rattle.client_core.specs.History.{Opening}
use Rattle.client_core.specs.Life.{Deed, Begins, Verifies, deeds_done}
use Rattle.client_core.specs.Numbering.{run_in, attempt_in, runs_in, attempts_in}
use Rattle.net_world.specs.Setup.{Setup}
use Rattle.net_world.specs.Happenings.{Happening}
use Rattle.net_world.specs.Trace.{first_entry, client_opening}
use Rattle.net_world.specs.Changes.{trace}
use Rattle.net_world.specs.Outcomes.{outcome}
use Rattle.net_world.specs.World.{world}
use Rattle.seen.specs.Texts.{Asked, text_of, asked_of}
use Rattle.seen.specs.Watching.{observations}
use Rattle.seen.proofs.ClientLemmas.{TextLaws, deeds_by, all_done, all_with, IsPlain, IsCalm, Shows, ShowsRun, ShowsAttempt, ShowsNone}
use Rattle.seen.proofs.NumberLemmas.{shows}

has_behind : (xs ys : List ℕ) (k : ℕ) → has ys k ≡ true → has (xs ++ ys) k ≡ true
has_behind [] ys k h = h
has_behind (x ∷ xs) ys k h = either (x == k) (has (xs ++ ys) k) (has_behind xs ys k h)
  where
    either : (a b : Bool) → b ≡ true → (a || b) ≡ true
    either true b h = refl
    either false b h = h

has_first : (k : ℕ) (ys : List ℕ) → has (k ∷ ys) k ≡ true
has_first k ys = ap (λ b. b || has ys k) (eq-eqb k k refl)

-- The number of a deed is among those of the deeds.
is_given : (pick : Deed → List ℕ) (deeds : List Deed) (d : Deed) (k : ℕ) → Contains deeds d → pick d ≡ k ∷ [] → has (flat_map pick deeds) k ≡ true
is_given pick [] d k h is = absurd (none_in d h)
is_given pick (x ∷ deeds) d k h is = elim (first_or_behind x deeds d h) [
  | inl same ↦ subst (λ l. has (l ++ flat_map pick deeds) k ≡ true) (sym (ap pick same ∙ is)) (has_first k (flat_map pick deeds))
  | inr old ↦ has_behind (pick x) (flat_map pick deeds) k (is_given pick deeds d k old is)
]

-- Where the numbers are distinct, the first deed's is none of the others'.
pub is_new : (pick : Deed → List ℕ) (x d : Deed) (deeds : List Deed) (k : ℕ) → is_distinct (flat_map pick (x ∷ deeds)) ≡ true → pick x ≡ k ∷ [] → pick d ≡ k ∷ []
    → Contains deeds d → ⊥
is_new pick x d deeds k once here there h =
    let rest = flat_map pick deeds in
    let first : is_distinct (k ∷ rest) ≡ true = subst (λ l. is_distinct (l ++ rest) ≡ true) here once in
    both (has rest k) (and_parts (not (has rest k)) (is_distinct rest) first).0 (is_given pick deeds d k h there)
  where
    both : (b : Bool) → not b ≡ true → b ≡ true → ⊥
    both true a b = cc
    both false a b = cc

-- ---- what is begun is seen

first_shown : {X : Type 0} (b : Bool) (x : X) (rest : Option X) → b ≡ true → option_or (if b then Some x else None) rest ≡ Some x
first_shown true x rest h = refl
first_shown false x rest h = absurd cc

passed_by : {X : Type 0} (b : Bool) (x : X) (rest : Option X) → b ≡ false → option_or (if b then Some x else None) rest ≡ rest
passed_by true x rest h = absurd cc
passed_by false x rest h = refl

none_done : (o : Opening) (b : Bool) → deeds_done o (first_entry b ∷ []) ≡ []
none_done o true = refl
none_done o false = refl

nothing_done : (w : Setup) (d : Deed) → Contains (all_done w []) d → ⊥
nothing_done w d h = none_in d (subst (λ l. Contains l d) (none_done (client_opening w) w.mirror) h)

-- A deed that a calm outcome leaves was done before.
done_before : (w : Setup) (evs : List Happening) (e : Happening) (d : Deed) → IsCalm w (world w evs) (outcome w (world w evs) e) → (IsPlain d → ⊥)
    → Contains (all_done w (e ∷ evs)) d → Contains (all_done w evs) d
done_before w evs e d calm numbers h =
    let here = deeds_by w (world w evs) (outcome w (world w evs) e) in
    elim (Contains-append_cases here (all_done w evs) d (subst (λ l. Contains l d) (all_with w evs e) h)) [
      | inl new ↦ absurd (numbers (each_of IsPlain here d calm new))
      | inr old ↦ old
    ]

-- What is done with one deed more.
pub one_done : (w : Setup) (evs : List Happening) (e : Happening) (x : Deed) → deeds_by w (world w evs) (outcome w (world w evs) e) ≡ x ∷ []
    → all_done w (e ∷ evs) ≡ x ∷ all_done w evs
one_done w evs e x is = all_with w evs e ∙ ap (λ l. l ++ all_done w evs) is

text_more : (w : Setup) (evs : List Happening) (e : Happening) (run : ℕ) (text : List ℕ)
    → Shows w (world w evs) e (outcome w (world w evs) e) → is_distinct (runs_in (all_done w (e ∷ evs))) ≡ true
    → (Contains (all_done w evs) (Begins run text) → text_of run (observations w evs) ≡ Some text)
    → Contains (all_done w (e ∷ evs)) (Begins run text) → text_of run (observations w (e ∷ evs)) ≡ Some text
text_more w evs e run text (ShowsRun n now texts asks does) once before h =
    let rest = text_of run (observations w evs) in
    let all = one_done w evs e (Begins n now) does in
    let shown = ap (λ x. option_or x rest) (texts run) in
    elim (first_or_behind (Begins n now) (all_done w evs) (Begins run text) (subst (λ l. Contains l (Begins run text)) all h)) [
      | inl same ↦ shown ∙ first_shown (n == run) now rest (eq-eqb n run (run_is n run now text same)) ∙ ap Some (text_is n run now text same)
      | inr old ↦ shown
          ∙ passed_by (n == run) now rest (ne_eqb n run (λ k.
          is_new run_in (Begins n now) (Begins run text) (all_done w evs) run (subst (λ l. is_distinct (runs_in l) ≡ true) all once)
          (ap (λ m. m ∷ []) k) refl old))
          ∙ before old
    ]
  where
    run_is : (a b : ℕ) (x y : List ℕ) → Begins a x ≡ Begins b y → a ≡ b
    run_is a b x y h = cc

    text_is : (a b : ℕ) (x y : List ℕ) → Begins a x ≡ Begins b y → x ≡ y
    text_is a b x y h = cc
text_more w evs e run text (ShowsAttempt r n now texts asks does) once before h =
    let rest = text_of run (observations w evs) in
    let all = one_done w evs e (Verifies r n now) does in
    elim (first_or_behind (Verifies r n now) (all_done w evs) (Begins run text) (subst (λ l. Contains l (Begins run text)) all h)) [
      | inl same ↦ absurd cc
      | inr old ↦ ap (λ x. option_or x rest) (texts run) ∙ before old
    ]
text_more w evs e run text (ShowsNone texts asks calm) once before h =
    ap (λ x. option_or x (text_of run (observations w evs))) (texts run)
    ∙ before (done_before w evs e (Begins run text) calm (λ k. k) h)

-- The job file of a run that was begun is seen.
pub begun_is_seen : TextLaws → (w : Setup) (evs : List Happening) → w.servers ≤ MAX_SERVERS → (run : ℕ) (text : List ℕ)
    → Contains (all_done w evs) (Begins run text) → text_of run (observations w evs) ≡ Some text
begun_is_seen laws w [] few run text h = absurd (nothing_done w (Begins run text) h)
begun_is_seen laws w (e ∷ evs) few run text h =
    text_more w evs e run text (shows w (world w evs) e) (laws.runs w (trace w (world w (e ∷ evs))) (laws.traces w (e ∷ evs) few))
    (λ k. begun_is_seen laws w evs few run text k) h

asked_more : (w : Setup) (evs : List Happening) (e : Happening) (run attempt : ℕ) (text : List ℕ)
    → Shows w (world w evs) e (outcome w (world w evs) e) → is_distinct (attempts_in (all_done w (e ∷ evs))) ≡ true
    → (Contains (all_done w evs) (Verifies run attempt text) → asked_of attempt (observations w evs) ≡ Some (record { run = run; text = text }))
    → Contains (all_done w (e ∷ evs)) (Verifies run attempt text)
    → asked_of attempt (observations w (e ∷ evs)) ≡ Some (record { run = run; text = text })
asked_more w evs e run attempt text (ShowsRun n now texts asks does) once before h =
    let rest = asked_of attempt (observations w evs) in
    let all = one_done w evs e (Begins n now) does in
    elim (first_or_behind (Begins n now) (all_done w evs) (Verifies run attempt text) (subst (λ l. Contains l (Verifies run attempt text)) all h)) [
      | inl same ↦ absurd cc
      | inr old ↦ ap (λ x. option_or x rest) (asks attempt) ∙ before old
    ]
asked_more w evs e run attempt text (ShowsAttempt r n now texts asks does) once before h =
    let rest = asked_of attempt (observations w evs) in
    let all = one_done w evs e (Verifies r n now) does in
    let shown = ap (λ x. option_or x rest) (asks attempt) in
    elim (first_or_behind (Verifies r n now) (all_done w evs) (Verifies run attempt text) (subst (λ l. Contains l (Verifies run attempt text)) all h)) [
      | inl same ↦ shown ∙ first_shown (n == attempt) (record { run = r; text = now }) rest (eq-eqb n attempt (number_is r run n attempt now text same))
          ∙ asked_is r run n attempt now text same
      | inr old ↦ shown
          ∙ passed_by (n == attempt) (record { run = r; text = now }) rest (ne_eqb n attempt (λ k.
          is_new attempt_in (Verifies r n now) (Verifies run attempt text) (all_done w evs) attempt
          (subst (λ l. is_distinct (attempts_in l) ≡ true) all once) (ap (λ m. m ∷ []) k) refl old))
          ∙ before old
    ]
  where
    number_is : (a b m k : ℕ) (x y : List ℕ) → Verifies a m x ≡ Verifies b k y → m ≡ k
    number_is a b m k x y h = cc

    make_asked : ℕ → List ℕ → Option Asked
    make_asked a x = Some (record { run = a; text = x })

    asked_is : (a b m k : ℕ) (x y : List ℕ) → Verifies a m x ≡ Verifies b k y → make_asked a x ≡ make_asked b y
    asked_is a b m k x y h = let run : a ≡ b = cc in let text : x ≡ y = cc in ap (λ r. make_asked r x) run ∙ ap (make_asked b) text
asked_more w evs e run attempt text (ShowsNone texts asks calm) once before h =
    ap (λ x. option_or x (asked_of attempt (observations w evs))) (asks attempt)
    ∙ before (done_before w evs e (Verifies run attempt text) calm (λ k. k) h)

-- The run and the job file of an attempt that was made are seen.
pub attempt_is_seen : TextLaws → (w : Setup) (evs : List Happening) → w.servers ≤ MAX_SERVERS → (run attempt : ℕ) (text : List ℕ)
    → Contains (all_done w evs) (Verifies run attempt text) → asked_of attempt (observations w evs) ≡ Some (record { run = run; text = text })
attempt_is_seen laws w [] few run attempt text h = absurd (nothing_done w (Verifies run attempt text) h)
attempt_is_seen laws w (e ∷ evs) few run attempt text h =
    asked_more w evs e run attempt text (shows w (world w evs) e) (laws.attempts w (trace w (world w (e ∷ evs))) (laws.traces w (e ∷ evs) few))
    (λ k. attempt_is_seen laws w evs few run attempt text k) h
