-- What is due is a Start of a run above the last one.
use Rattle.std.proofs.Common.{◌≡◌, refl, sym, ap, subst, ℕ, ◌<◌, ◌≤◌, arith, Bool, true, false, ◌&&◌, ◌==◌, List, ◌∷◌, Option, None, Some}
use Rattle.std.specs.Prelude.{not, nat_lt, if◌then◌else◌}
use Rattle.std.proofs.lemmas.Bool.{eqb-true, ltb-true}
use Rattle.disk_model.specs.declared.save_outcome.SaveOutcome.{SaveOutcome}
use Rattle.disk_model.specs.SaveOutcome.{has_new}
use Rattle.server_core.specs.DueStart.{IsDueStart}
use Rattle.server_core.specs.History.{Opening, Entry, Met, Cut, Restart}
use Rattle.server_core.specs.Request.{Request, ToStage, ToStart, ToTrigger, ToMark, ToStop, ToVerify}
use Rattle.server_core.specs.Request.{ToHold, ToPassFully, ToIssue, ToEnd, ToReport, ToNobody, request_of}
use Rattle.server_core.specs.Run.{Work, is_open}
use Rattle.server_core.specs.Inputs.{PacketInput}
use Rattle.server_core.specs.Words.{Staged, for_run, is_on, due_by, last_run_after, last_run, work, staged_run, due}

-- What is due: a Start of the staged run, which is above the last one.
pub record IsStart (last : ℕ) (x : Request) (s : Staged) : Type 0 where
  pub start : x ≡ ToStart s.run
  pub above : last < s.run

-- All tests hold where the whole gives something.
all_hold : {X : Type 0} (a b c : Bool) (y : Option X) (s : X) → (if a && (b && not c) then y else None) ≡ Some s
    → (a ≡ true) × (b ≡ true) × (c ≡ false) × (y ≡ Some s)
all_hold true true false y s h = (refl, refl, refl, h)
all_hold true true true y s h = cc
all_hold true false c y s h = cc
all_hold false b c y s h = cc

same_run : (t : Bool) (s found : Staged) → (if t then Some s else None) ≡ Some found → (t ≡ true) × (s ≡ found)
same_run true s found h = (refl, cc)
same_run false s found h = cc

of_run : (r : ℕ) (staged : Option Staged) (s : Staged) → for_run r staged ≡ Some s → (staged ≡ Some s) × (s.run ≡ r)
of_run r None s h = cc
of_run r (Some t) s h =
    let p = same_run (t.run == r) t s h in
    (ap Some p.1, subst (λ (u : Staged). u.run ≡ r) p.1 (eqb-true t.run r p.0))

pub rests : (on : Bool) (last : ℕ) (staged : Option Staged) (now : Option Work) (x : Request) (s : Staged) → due_by on last staged now x ≡ Some s
    → IsDueStart on last staged now x s
rests on last staged now (ToStart r) s h =
    let p = all_hold on (nat_lt last r) (is_open now) (for_run r staged) s h in
    let q = of_run r staged s p.3 in
    record {
      is_up = p.0;
      start = ap ToStart (sym q.1);
      staged_is = q.0;
      above = subst (λ n. last < n) (sym q.1) (ltb-true last r p.1);
      none_open = p.2;
    }
rests on last staged now (ToStage r text) s h = cc
rests on last staged now (ToTrigger r act) s h = cc
rests on last staged now (ToMark r j) s h = cc
rests on last staged now (ToStop r) s h = cc
rests on last staged now (ToVerify r a text) s h = cc
rests on last staged now (ToHold a state) s h = cc
rests on last staged now (ToPassFully a j) s h = cc
rests on last staged now (ToIssue j) s h = cc
rests on last staged now (ToEnd ticket end) s h = cc
rests on last staged now (ToReport b a j report) s h = cc
rests on last staged now ToNobody s h = cc

pub due_is_start : (o : Opening) (past : List Entry) (e : PacketInput) (s : Staged) → due o past e ≡ Some s
    → IsDueStart (is_on past) (last_run o past) (staged_run o past) (work o past) (request_of o.me e) s
due_is_start o past e s h = rests (is_on past) (last_run o past) (staged_run o past) (work o past) (request_of o.me e) s h

pub due_start : (on : Bool) (last : ℕ) (staged : Option Staged) (now : Option Work) (x : Request) (s : Staged) → due_by on last staged now x ≡ Some s
    → IsStart last x s
due_start on last staged now x s h = let r = rests on last staged now x s h in record { start = r.start; above = r.above }

raises : (b : Bool) (n last : ℕ) → last ≤ n → last ≤ (if b then n else last)
raises true n last h = h
raises false n last h = omega arith

recorded_grows : (left : SaveOutcome) (d : Option Staged) (last : ℕ) (x : Request) → ((s : Staged) → d ≡ Some s → IsStart last x s) → last ≤ last_run_after left d last
recorded_grows left None last x f = omega arith
recorded_grows left (Some s) last x f = let above = (f s refl).above in raises (has_new left) s.run last (omega arith)

-- The last run never falls.
pub last_grows : (o : Opening) (e : Entry) (past : List Entry) → last_run o past ≤ last_run o (e ∷ past)
last_grows o (Met e left) past =
    recorded_grows left (due o past e) (last_run o past) (request_of o.me e)
    (due_start (is_on past) (last_run o past) (staged_run o past) (work o past) (request_of o.me e))
last_grows o Cut past = omega arith
last_grows o (Restart left) past = omega arith
