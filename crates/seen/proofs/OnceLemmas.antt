-- No number of a run or an attempt is seen to be told twice.
use Rattle.std.proofs.Common.{◌≡◌, refl, sym, ◌∙◌, ap, subst, ℕ, ◌≤◌, Bool, true, false, ◌==◌, List, [], ◌∷◌}
use Rattle.std.proofs.Common.{Option, Some, None}
use Rattle.std.specs.Prelude.{if◌then◌else◌, Contains}
use Rattle.std.specs.Option.{option_or}
use Rattle.std.proofs.lemmas.Bool.{eqb-true}
use Rattle.std.proofs.lemmas.List.Elements.{Contains-append_right}
use Rattle.fc_base.specs.Counted.{is_distinct}
use Rattle.fc_base.specs.declared.limits.TheConstants.{MAX_SERVERS}
use Rattle.fc_base.proofs.ListLemmas.{first_of}
use Rattle.client_core.specs.Life.{Deed, Begins, Verifies}
use Rattle.client_core.specs.Numbering.{run_in, attempt_in, runs_in, attempts_in}
use Rattle.net_world.specs.Setup.{Setup}
use Rattle.net_world.specs.Happenings.{Happening}
use Rattle.net_world.specs.Changes.{trace}
use Rattle.net_world.specs.Outcomes.{outcome}
use Rattle.net_world.specs.World.{world, told_of_happening}
use Rattle.seen.specs.Observations.{Observation}
use Rattle.seen.specs.Texts.{Asked, text_with, text_of, asked_with, asked_of}
use Rattle.seen.specs.Claims.{NumbersAreGivenOnce, RunsAreGivenOnce, AttemptsAreGivenOnce}
use Rattle.seen.specs.Watching.{observations, OfAllThatIsSeen}
use Rattle.seen.proofs.PlaceLemmas.{seen_in}
use Rattle.seen.proofs.ClientLemmas.{TextLaws, deeds_by, all_done, all_with, Shows, ShowsRun, ShowsAttempt, ShowsNone}
use Rattle.seen.proofs.NumberLemmas.{shows}
use Rattle.seen.proofs.BeginLemmas.{is_new, one_done}

-- What was done before is done with one event more.
done_still : (w : Setup) (evs : List Happening) (e : Happening) (d : Deed) → Contains (all_done w evs) d → Contains (all_done w (e ∷ evs)) d
done_still w evs e d h =
    subst (λ l. Contains l d) (sym (all_with w evs e))
    (Contains-append_right (deeds_by w (world w evs) (outcome w (world w evs) e)) (all_done w evs) d h)

-- What is done now is done.
done_now : (w : Setup) (evs : List Happening) (e : Happening) (d : Deed) → deeds_by w (world w evs) (outcome w (world w evs) e) ≡ d ∷ []
    → Contains (all_done w (e ∷ evs)) d
done_now w evs e d is = subst (λ l. Contains l d) (sym (one_done w evs e d is)) (first_of d (all_done w evs))

-- ---- what is seen to be begun was begun

-- It is this one, or it is one of before.
picked : {X : Type 0} (P : Type 0) (b : Bool) (x y : X) (rest : Option X) → (b ≡ true → x ≡ y → P) → (rest ≡ Some y → P)
    → option_or (if b then Some x else None) rest ≡ Some y → P
picked P true x y rest now old h = now refl (let same : Some x ≡ Some y = h in cc)
picked P false x y rest now old h = old h

begun_before : (w : Setup) (evs : List Happening) (run : ℕ) (text : List ℕ) → text_of run (observations w evs) ≡ Some text
    → Contains (all_done w evs) (Begins run text)
begun_before w [] run text h = absurd cc
begun_before w (e ∷ evs) run text h = by (λ k. done_still w evs e (Begins run text) (begun_before w evs run text k)) (shows w (world w evs) e)
  where
    rest : Option (List ℕ)
    rest = text_of run (observations w evs)

    by : (rest ≡ Some text → Contains (all_done w (e ∷ evs)) (Begins run text)) → Shows w (world w evs) e (outcome w (world w evs) e)
        → Contains (all_done w (e ∷ evs)) (Begins run text)
    by old (ShowsRun n now texts asks does) =
        picked (Contains (all_done w (e ∷ evs)) (Begins run text)) (n == run) now text rest
        (λ b same. done_now w evs e (Begins run text) (does ∙ ap (λ m. Begins m now ∷ []) (eqb-true n run b) ∙ ap (λ x. Begins run x ∷ []) same))
        old (ap (λ x. option_or x rest) (sym (texts run)) ∙ h)
    by old (ShowsAttempt r n now texts asks does) = old (ap (λ x. option_or x rest) (sym (texts run)) ∙ h)
    by old (ShowsNone texts asks calm) = old (ap (λ x. option_or x rest) (sym (texts run)) ∙ h)

asked : ℕ → List ℕ → Asked
asked run text = record { run = run; text = text }

asked_before : (w : Setup) (evs : List Happening) (attempt : ℕ) (a : Asked) → asked_of attempt (observations w evs) ≡ Some a
    → Contains (all_done w evs) (Verifies a.run attempt a.text)
unfolding asked
asked_before w [] attempt a h = absurd cc
asked_before w (e ∷ evs) attempt a h =
    by (λ k. done_still w evs e (Verifies a.run attempt a.text) (asked_before w evs attempt a k)) (shows w (world w evs) e)
  where
    rest : Option Asked
    rest = asked_of attempt (observations w evs)

    d : Deed
    d = Verifies a.run attempt a.text

    by : (rest ≡ Some a → Contains (all_done w (e ∷ evs)) d) → Shows w (world w evs) e (outcome w (world w evs) e) → Contains (all_done w (e ∷ evs)) d
    by old (ShowsRun n now texts asks does) = old (ap (λ x. option_or x rest) (sym (asks attempt)) ∙ h)
    by old (ShowsAttempt r n now texts asks does) =
        picked (Contains (all_done w (e ∷ evs)) d) (n == attempt) (asked r now) a rest
        (λ b same. done_now w evs e d
        (does ∙ ap (λ m. Verifies r m now ∷ []) (eqb-true n attempt b) ∙ ap (λ (x : Asked). Verifies x.run attempt x.text ∷ []) same))
        old (ap (λ x. option_or x rest) (sym (asks attempt)) ∙ h)
    by old (ShowsNone texts asks calm) = old (ap (λ x. option_or x rest) (sym (asks attempt)) ∙ h)

-- ---- what is given is new

given_now : {X : Type 0} (b : Bool) (x y : X) → (if b then Some x else None) ≡ Some y → b ≡ true
given_now true x y h = refl
given_now false x y h = absurd cc

run_is_new : TextLaws → (w : Setup) (evs : List Happening) (e : Happening) (run : ℕ) (text other : List ℕ) → w.servers ≤ MAX_SERVERS
    → text_with run e (told_of_happening w (world w evs) e) ≡ Some text → text_of run (observations w evs) ≡ Some other → ⊥
run_is_new laws w evs e run text other few h before = by (shows w (world w evs) e)
  where
    once : is_distinct (runs_in (all_done w (e ∷ evs))) ≡ true
    once = laws.runs w (trace w (world w (e ∷ evs))) (laws.traces w (e ∷ evs) few)

    by : Shows w (world w evs) e (outcome w (world w evs) e) → ⊥
    by (ShowsRun n now texts asks does) =
        let same : n ≡ run = eqb-true n run (given_now (n == run) now text (sym (texts run) ∙ h)) in
        is_new run_in (Begins n now) (Begins run other) (all_done w evs) run
        (subst (λ l. is_distinct (runs_in l) ≡ true) (one_done w evs e (Begins n now) does) once)
        (ap (λ m. m ∷ []) same) refl (begun_before w evs run other before)
    by (ShowsAttempt r n now texts asks does) = let no : None ≡ Some text = sym (texts run) ∙ h in cc
    by (ShowsNone texts asks calm) = let no : None ≡ Some text = sym (texts run) ∙ h in cc

attempt_is_new : TextLaws → (w : Setup) (evs : List Happening) (e : Happening) (attempt : ℕ) (a b : Asked) → w.servers ≤ MAX_SERVERS
    → asked_with attempt e (told_of_happening w (world w evs) e) ≡ Some a → asked_of attempt (observations w evs) ≡ Some b → ⊥
unfolding asked
attempt_is_new laws w evs e attempt a b few h before = by (shows w (world w evs) e)
  where
    once : is_distinct (attempts_in (all_done w (e ∷ evs))) ≡ true
    once = laws.attempts w (trace w (world w (e ∷ evs))) (laws.traces w (e ∷ evs) few)

    by : Shows w (world w evs) e (outcome w (world w evs) e) → ⊥
    by (ShowsRun n now texts asks does) = let no : None ≡ Some a = sym (asks attempt) ∙ h in cc
    by (ShowsAttempt r n now texts asks does) =
        let same : n ≡ attempt = eqb-true n attempt (given_now (n == attempt) (asked r now) a (sym (asks attempt) ∙ h)) in
        is_new attempt_in (Verifies r n now) (Verifies b.run attempt b.text) (all_done w evs) attempt
        (subst (λ l. is_distinct (attempts_in l) ≡ true) (one_done w evs e (Verifies r n now) does) once)
        (ap (λ m. m ∷ []) same) refl (asked_before w evs attempt b before)
    by (ShowsNone texts asks calm) = let no : None ≡ Some a = sym (asks attempt) ∙ h in cc

-- ---- at each place

none_unless : {X : Type 0} (x : Option X) → ((y : X) → x ≡ Some y → ⊥) → x ≡ None
none_unless None h = refl
none_unless (Some y) h = absurd (h y refl)

runs_once : TextLaws → OfAllThatIsSeen RunsAreGivenOnce
runs_once laws w events few newer older o run text split h =
    let k = seen_in w events newer o older split in
    let now = subst (λ (x : Observation). text_with run x.event x.told ≡ Some text) (sym k.here) h in
    subst (λ l. text_of run l ≡ None) k.before
    (none_unless (text_of run (observations w k.earlier)) (λ other is. run_is_new laws w k.earlier k.event run text other few now is))

attempts_once : TextLaws → OfAllThatIsSeen AttemptsAreGivenOnce
attempts_once laws w events few newer older o attempt a split h =
    let k = seen_in w events newer o older split in
    let now = subst (λ (x : Observation). asked_with attempt x.event x.told ≡ Some a) (sym k.here) h in
    subst (λ l. asked_of attempt l ≡ None) k.before
    (none_unless (asked_of attempt (observations w k.earlier)) (λ other is. attempt_is_new laws w k.earlier k.event attempt a other few now is))

pub numbers_are_given_once : TextLaws → OfAllThatIsSeen NumbersAreGivenOnce
numbers_are_given_once laws w events few = (runs_once laws w events few, attempts_once laws w events few)
