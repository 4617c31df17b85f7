-- What is due is above the last run, so a server starts each run once.
use Rattle.std.proofs.Common.{◌≡◌, refl, sym, subst, ℕ, ◌<◌, ◌≤◌, arith, Bool, true, false, ◌&&◌, ◌==◌, List, [], ◌∷◌, ◌++◌, Option, None, Some}
use Rattle.std.specs.Prelude.{not, nat_lt, if◌then◌else◌}
use Rattle.std.specs.List.{AllByRecursion}
use Rattle.std.proofs.lemmas.Bool.{eqb-true, ltb-true, and_parts}
use Rattle.std.proofs.lemmas.Bool.Decides.{nat_tests}
use Rattle.fc_base.specs.Counted.{has, is_distinct}
use Rattle.disk_model.specs.declared.save_outcome.SaveOutcome.{SaveOutcome}
use Rattle.disk_model.specs.declared.save_outcome.SaveOutcome.TheVariants.{NoSave, Saved, LostNew, LostOld}
use Rattle.server_core.specs.Inputs.{PacketInput}
use Rattle.server_core.specs.History.{Opening, Entry, Met, Cut, Restart}
use Rattle.server_core.specs.Request.{Request, ToStage, ToStart, ToTrigger, ToMark, ToStop, ToVerify}
use Rattle.server_core.specs.Request.{ToHold, ToPassFully, ToIssue, ToEnd, ToReport, ToNobody, request_of}
use Rattle.server_core.specs.Run.{Work, is_open}
use Rattle.server_core.specs.Words.{Staged, for_run, is_on, due_by, last_run, work, staged_run, due}
use Rattle.server_core.specs.Laws.{NumbersGrow}
use Rattle.net_world.specs.Started.{started_by, started_runs}
use Rattle.net_world.specs.Claims.{OfEachList}
use Rattle.net_world.specs.Headline.{StartsAreAcceptedOnce}
use Rattle.net_world.specs.Trace.{opening_of, of_server}

-- Both tests hold where the whole gives something.
both : {X : Type 0} (a b : Bool) (y : Option X) (s : X) → (if a && b then y else None) ≡ Some s → (b ≡ true) × (y ≡ Some s)
both true true y s h = (refl, h)
both true false y s h = cc
both false b y s h = cc

run_if : (t : Bool) (s found : Staged) → (if t then Some s else None) ≡ Some found → (t ≡ true) × (s ≡ found)
run_if true s found h = (refl, cc)
run_if false s found h = cc

of_run : (r : ℕ) (x : Option Staged) (s : Staged) → for_run r x ≡ Some s → s.run ≡ r
of_run r None s h = cc
of_run r (Some t) s h =
    let p = run_if (t.run == r) t s h in
    subst (λ (u : Staged). u.run ≡ r) p.1 (eqb-true t.run r p.0)

above_last : (on : Bool) (last : ℕ) (x : Option Staged) (now : Option Work) (q : Request) (s : Staged) → due_by on last x now q ≡ Some s → last < s.run
above_last on last x now (ToStart r) s h =
    let p = both on (nat_lt last r && not (is_open now)) (for_run r x) s h in
    let tests = and_parts (nat_lt last r) (not (is_open now)) p.0 in
    subst (λ m. last < m) (sym (of_run r x s p.1)) (ltb-true last r tests.0)
above_last on last x now (ToStage r text) s h = cc
above_last on last x now (ToTrigger r act) s h = cc
above_last on last x now (ToMark r j) s h = cc
above_last on last x now (ToStop r) s h = cc
above_last on last x now (ToVerify r a text) s h = cc
above_last on last x now (ToHold a state) s h = cc
above_last on last x now (ToPassFully a j) s h = cc
above_last on last x now (ToIssue j) s h = cc
above_last on last x now (ToEnd ticket end) s h = cc
above_last on last x now (ToReport b a j report) s h = cc
above_last on last x now ToNobody s h = cc

-- A run that is due is above the last one, and is the last one once it is saved.
pub due_above : (o : Opening) (past : List Entry) (e : PacketInput) (s : Staged) → due o past e ≡ Some s → last_run o past < s.run
due_above o past e s h = above_last (is_on past) (last_run o past) (staged_run o past) (work o past) (request_of o.me e) s h

pub recorded_now : (o : Opening) (past : List Entry) (e : PacketInput) (s : Staged) → due o past e ≡ Some s → last_run o (Met e Saved ∷ past) ≡ s.run
recorded_now o past e s is = rw is refl

-- The runs that were started are up to the last one, so a run that is due is none of them.

weaker : (a b : ℕ) (xs : List ℕ) → a ≤ b → AllByRecursion (λ r. r ≤ a) xs → AllByRecursion (λ r. r ≤ b) xs
weaker a b [] l h = tt
weaker a b (x ∷ xs) l h = (let p = h.0 in omega (arith, l), weaker a b xs l h.1)

started_now : (o : Opening) (past : List Entry) (e : PacketInput) (left : SaveOutcome) (d : Option Staged) → NumbersGrow → due o past e ≡ d
    → AllByRecursion (λ r. r ≤ last_run o past) (started_runs o past)
    → AllByRecursion (λ r. r ≤ last_run o (Met e left ∷ past)) (started_by left d ++ started_runs o past)
started_now o past e Saved (Some s) grow is h = (
  let now = recorded_now o past e s is in omega (arith, now),
  weaker (last_run o past) (last_run o (Met e Saved ∷ past)) (started_runs o past) (grow o (Met e Saved) past).0 h,
)
started_now o past e Saved None grow is h = weaker (last_run o past) (last_run o (Met e Saved ∷ past)) (started_runs o past) (grow o (Met e Saved) past).0 h
started_now o past e NoSave d grow is h = weaker (last_run o past) (last_run o (Met e NoSave ∷ past)) (started_runs o past) (grow o (Met e NoSave) past).0 h
started_now o past e LostNew d grow is h = weaker (last_run o past) (last_run o (Met e LostNew ∷ past)) (started_runs o past) (grow o (Met e LostNew) past).0 h
started_now o past e LostOld d grow is h = weaker (last_run o past) (last_run o (Met e LostOld ∷ past)) (started_runs o past) (grow o (Met e LostOld) past).0 h

started_below : NumbersGrow → (o : Opening) (past : List Entry) → AllByRecursion (λ r. r ≤ last_run o past) (started_runs o past)
started_below grow o [] = tt
started_below grow o (Met e left ∷ past) = started_now o past e left (due o past e) grow refl (started_below grow o past)
started_below grow o (Cut ∷ past) = started_below grow o past
started_below grow o (Restart left ∷ past) = started_below grow o past

not_has : (xs : List ℕ) (a r : ℕ) → a < r → AllByRecursion (λ x. x ≤ a) xs → has xs r ≡ false
not_has [] a r l h = refl
not_has (x ∷ xs) a r l h =
    let p = h.0 in
    let other : (x == r) ≡ false = grind (arith, nat_tests) in
    rw (other, not_has xs a r l h.1) refl

distinct_after : (o : Opening) (past : List Entry) (e : PacketInput) (left : SaveOutcome) (d : Option Staged) → NumbersGrow → due o past e ≡ d
    → is_distinct (started_runs o past) ≡ true → is_distinct (started_by left d ++ started_runs o past) ≡ true
distinct_after o past e Saved (Some s) grow is h =
    rw (not_has (started_runs o past) (last_run o past) s.run (due_above o past e s is) (started_below grow o past), h) refl
distinct_after o past e Saved None grow is h = h
distinct_after o past e NoSave d grow is h = h
distinct_after o past e LostNew d grow is h = h
distinct_after o past e LostOld d grow is h = h

started_distinct : NumbersGrow → (o : Opening) (past : List Entry) → is_distinct (started_runs o past) ≡ true
started_distinct grow o [] = refl
started_distinct grow o (Met e left ∷ past) = distinct_after o past e left (due o past e) grow refl (started_distinct grow o past)
started_distinct grow o (Cut ∷ past) = started_distinct grow o past
started_distinct grow o (Restart left ∷ past) = started_distinct grow o past

pub starts_are_accepted_once : NumbersGrow → OfEachList StartsAreAcceptedOnce
starts_are_accepted_once grow w t s = started_distinct grow (opening_of s) (of_server s t)
