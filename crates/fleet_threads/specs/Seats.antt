-- What a worker does to its seat.
use Rattle.std.specs.Prelude.{◌≡◌, ◌<◌, ◌≤◌, Bool, true, false, Option, None, Some, Result, Ok, Err}
use Rattle.fc_base.specs.declared.fault.Fault.{Fault}
use Rattle.fc_base.specs.declared.fault.Fault.TheVariants.{NoMemory, WrongSeat, TurnsSpent, NodeOff}
use Rattle.engine.specs.declared.issue.Issue.{Issue}
use Rattle.engine.specs.declared.issue.Issue.TheVariants.{Finished, Stopped}
use Rattle.cells.specs.declared.answer.Answer.{Answer}
use Rattle.cells.specs.declared.answer.Answer.TheVariants.{Issued}
use Rattle.cells.specs.declared.answer.Reply.{Reply}
use Rattle.cells.specs.Seated.{Seated}

-- A seat is the same, and may have applied more.
pub record IsSeatOf (seat back : Seated) : Type 0 where
  pub server : back.server ≡ seat.server
  pub number : back.number ≡ seat.number
  pub grown : seat.applied ≤ back.applied

-- The job issues no more writes.
abbrev pub is_final : Issue → Bool
is_final Finished = true
is_final Stopped = true
is_final _ = false

-- An answer says that the job issues no more writes.
abbrev pub says_final : Answer → Bool
says_final (Issued issue) = is_final issue
says_final _ = false

-- The server is off, or down.
abbrev pub is_off : Fault → Bool
is_off NodeOff = true
is_off _ = false

-- The last answer is that of a job that is over, or that the server is off.
abbrev pub ends_with : Option (Result Reply Fault) → Bool
ends_with None = false
ends_with (Some (Ok said)) = says_final said.answer
ends_with (Some (Err fault)) = is_off fault

-- The seat has applied at least one event more, and its last answer ends a worker.
pub record HasWorked (seat back : Seated) : Type 0 where
  pub same : IsSeatOf seat back
  pub more : seat.applied < back.applied
  pub ended : ends_with back.last ≡ true

-- A worker may end so whatever its server answers: memory ran out, it has no right seat, or a gate
-- stays shut.
abbrev pub is_own : Fault → Bool
is_own NoMemory = true
is_own WrongSeat = true
is_own TurnsSpent = true
is_own _ = false

-- The worker has failed so: it is the same seat, which may have applied more, and a fault that
-- isn't the worker's own is the last answer to it.
pub record HasFailed (seat back : Seated) (fault : Fault) : Type 0 where
  pub same : IsSeatOf seat back
  pub told : is_own fault ≡ false → back.last ≡ Some (Err fault)
