-- Requests that mark no job ask for nothing, and a Start that records no run changes nothing of what is kept.
use Rattle.std.proofs.Common.{◌≡◌, refl, sym, ap, subst, ◌∙◌, ◌<◌, ℕ, Bool, true, false, ◌&&◌, [], ◌++◌, length, Option, None, Some}
use Rattle.std.specs.Prelude.{if◌then◌else◌, not, Err}
use Rattle.std.specs.List.{list_all}
use Rattle.fc_base.specs.declared.limits.TheConstants.{MAX_SERVERS}
use Rattle.fc_base.specs.Counted.{has, numbers_below}
use Rattle.messages.specs.declared.refusal.Act.TheVariants as acts
use Rattle.server_core.specs.declared.machine.Machine.{Machine}
use Rattle.server_core.specs.Request.{Request, ToStart}
use Rattle.server_core.specs.Run.{Work, Halt, Triggered, Stopped, halt_of, goes_on}
use Rattle.server_core.specs.Check.{check_goes_on}
use Rattle.server_core.specs.Kept.{Kept}
use Rattle.server_core.specs.Replies.{Now}
use Rattle.server_core.specs.Answers.{marks_by, marks, is_marked, wants_cut, act_of}
use Rattle.fc_base.specs.declared.fault.Fault.{Fault}
use Rattle.server_core.specs.Stands.{WorkIs, MachineIs}
use Rattle.server_core.specs.WordsAfter.{words_after}
use Rattle.server_core.specs.InnerCalls.{ok_unless_refused}
use Rattle.server_core.proofs.IdleLemmas.{IsUnchecked, work_elsewhere, check_elsewhere}

-- A request that stages nothing and opens no check, and is of none, changes at most what is kept of the run.
pub of_run : (old : Machine) {few : old.me < MAX_SERVERS} (now : Now) (x : Request) (run : Option Kept) → MachineIs old now
    → words_after now x ≡ record now { run = goes_on x now.run; check = check_goes_on x now.check } → IsUnchecked x
    → WorkIs now.server now.boot run (goes_on x now.run) → MachineIs (record old { run = run; few = few }) (words_after now x)
of_run old {few} now x run h same unchecked w =
    subst (λ n. MachineIs (record old { run = run; few = few }) n) (sym same)
    (record {
      me = h.me;
      boot_is = h.boot_is;
      last_is = h.last_is;
      staged_is = h.staged_is;
      run_is = w;
      check_is = check_elsewhere now.server now.boot old.check now.check x h.check_is unchecked;
    })

pub start_stays : (machine : Machine) (now : Now) (r : ℕ) → MachineIs machine now → MachineIs machine (words_after now (ToStart r))
start_stays machine now r h =
    of_run machine now (ToStart r) machine.run h refl tt (work_elsewhere now.server now.boot machine.run now.run (ToStart r) h.run_is tt)

unmarked : (b : Option Halt) (run r : ℕ) → marks_by b run (ToStart r) ≡ []
unmarked None run r = refl
unmarked (Some (Triggered act before)) run r = refl
unmarked (Some Stopped) run r = refl

never : (a b : Bool) → acts.None ≡ (if a && (not b && b) then acts.Cut else acts.None)
never true true = refl
never true false = refl
never false b = refl

-- A request that marks no job asks for nothing.
pub asks_nothing : (w : Option Work) (x : Request) → ((b : Option Halt) (run : ℕ) → marks_by b run x ≡ []) → acts.None ≡ act_of w x
asks_nothing None x none = refl
asks_nothing (Some w) x none =
    never (wants_cut (halt_of w.run w.since)) (is_marked w)
    ∙ ap (λ ms. if wants_cut (halt_of w.run w.since) && (not (is_marked w) && list_all (has (ms ++ marks w.run w.since)) (numbers_below (length w.jobs)))
    then acts.Cut else acts.None) (sym (none (halt_of w.run w.since) w.run))

pub no_act : (w : Option Work) (r : ℕ) → acts.None ≡ act_of w (ToStart r)
no_act w r = asks_nothing w (ToStart r) (λ b run. unmarked b run r)

-- A refusal is told for its reason.
pub reason_told : (reason : Option Fault) (fault : Fault) → Err fault ≡ ok_unless_refused reason → reason ≡ Some fault
reason_told None fault e = cc
reason_told (Some f) fault e = cc
