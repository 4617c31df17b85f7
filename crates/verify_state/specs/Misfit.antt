-- Whether a state is one of a job that is to be checked.
use Rattle.std.specs.Prelude.{◌≡◌, Bool, not, ◌&&◌, nat_le, bytes_eq, Option, Some, None, if◌then◌else◌, Result, Ok, Err}
use Rattle.fc_base.specs.declared.numbers.Key.{Key}
use Rattle.fc_base.specs.declared.record.JobParts.{JobParts}
use Rattle.fc_base.specs.declared.fault.Fault.{Fault}
use Rattle.fc_base.specs.declared.fault.Fault.TheVariants.{OtherKey, OtherJob, OtherPlace}
use Rattle.fc_base.specs.Keys.{is_same_key}
use Rattle.write_order.specs.Places.{place}
use Rattle.verify_state.specs.State.{State}
use Rattle.verify_state.specs.Same.{is_of_kind, is_of_region}

-- The job writes the same bytes to the same blocks as the state's, and at least as often. Depth and
-- window may differ.
abbrev pub is_of_job : State → JobParts → Bool
is_of_job s job = is_of_kind s.job job && is_of_region s.job job && nat_le s.issued job.total

-- Why a state doesn't fit: the first of key, job and place that differs. The place has to be that
-- of the job after as many writes.
unfoldable pub misfit : State → Key → JobParts → Option Fault
misfit s key job =
    if not (is_same_key s.key key) then Some OtherKey
    else (if not (is_of_job s job) then Some OtherJob
    else (if not (bytes_eq s.place (place job s.issued)) then Some OtherPlace else None))

-- No fault is good, and a fault is told.
abbrev pub fit_answer : Option Fault → Result (Unit {0}) Fault
fit_answer None = Ok tt
fit_answer (Some fault) = Err fault

-- A state fits a key and a job, or the misfit is told.
abbrev pub Fits : State → Key → JobParts → Result (Unit {0}) Fault → Type 0
Fits s key job answer = answer ≡ fit_answer (misfit s key job)
