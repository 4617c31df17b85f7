-- How the calls of a worker leave its seat.
use Rattle.std.specs.Prelude.{◌≡◌, ◌<◌, ℕ, Bool, true, false, List, Option, Some, Result, Ok, Err, IfSome}
use Rattle.std.specs.Option.{option_map}
use Rattle.fc_base.specs.declared.fault.Fault.{Fault}
use Rattle.fc_base.specs.declared.fault.Fault.TheVariants.{OldBoot}
use Rattle.fc_base.specs.declared.record.JobParts.{JobParts}
use Rattle.job_file.specs.declared.job.Job.{Job}
use Rattle.engine.specs.declared.issue.Issue.TheVariants.{Write}
use Rattle.cells.specs.declared.answer.Answer.{Answer}
use Rattle.cells.specs.declared.answer.Answer.TheVariants.{Issued}
use Rattle.cells.specs.declared.answer.Reply.{Reply}
use Rattle.server_core.specs.Answers.{run_job, shown_entries}
use Rattle.server_core.specs.Hearing.{FrameEntry, packets_heard}
use Rattle.cells.specs.ServerCells.{ServerLog, IsReplay}
use Rattle.cells.specs.Seated.{Seated}
use Rattle.fleet_threads.specs.declared.asking.NextWrite.{NextWrite}
use Rattle.fleet_threads.specs.declared.asking.NextWrite.TheVariants as asks
use Rattle.fleet_threads.specs.declared.turn.TurnEnd.{TurnEnd}
use Rattle.fleet_threads.specs.declared.turn.TurnEnd.TheVariants as turns
use Rattle.fleet_threads.specs.declared.worker.Round.{Round}
use Rattle.fleet_threads.specs.declared.worker.Round.TheVariants as rounds
use Rattle.fleet_threads.specs.Seats.{IsSeatOf, HasWorked, HasFailed}

-- The seat is the same, and has worked where this is true.
abbrev pub WorkedIf : Bool → Seated → Seated → Type 0
WorkedIf true seat back = HasWorked seat back
WorkedIf false seat back = IsSeatOf seat back

-- The job issues no more writes, or the server is off.
abbrev pub is_last_asked : NextWrite → Bool
is_last_asked asks.Never = true
is_last_asked asks.Off = true
is_last_asked _ = false

-- The server is on, as far as the answer tells.
abbrev pub is_on : NextWrite → Bool
is_on asks.Off = false
is_on _ = true

-- The write is the one that the server issued; and no answer is a refusal.
abbrev pub IsIssued : NextWrite → Answer → Type 0
IsIssued (asks.Write order) answer = answer ≡ Issued (Write order.ticket)
IsIssued (asks.Refused fault) answer = ⊥
IsIssued _ answer = Unit {0}

-- These are the settings of the job, in the run that the server is at.
abbrev pub AreSettings : ServerLog → ℕ → JobParts → Type 0
AreSettings cell job rec =
    (past : List FrameEntry) × IsReplay cell past
    × (option_map (λ (j : Job). j.rec)
    (run_job cell.opening (shown_entries (packets_heard cell.opening past)) job)
    ≡ Some rec)

-- A write comes with the settings of its job.
abbrev pub HasSettings : ServerLog → ℕ → NextWrite → Type 0
HasSettings cell job (asks.Write order) = IfSome order.rec (AreSettings cell job)
HasSettings cell job _ = Unit {0}

-- How asking for writes leaves a worker's seat, by the last answer.
abbrev pub HasAsked : Seated → Seated → Result NextWrite Fault → Type 0
HasAsked seat back (Ok (asks.Refused fault)) = HasFailed seat back fault
HasAsked seat back (Ok answer) = WorkedIf (is_last_asked answer) seat back
HasAsked seat back (Err fault) = HasFailed seat back fault

-- The server has taken the end of a write, or it is nothing to its boot.
abbrev pub is_taken : Option (Result Reply Fault) → Bool
is_taken (Some (Ok said)) = true
is_taken (Some (Err OldBoot)) = true
is_taken _ = false

-- The seat has applied one event more at least, and its last answer is that an end was taken.
pub record IsTaken (seat back : Seated) : Type 0 where
  pub same : IsSeatOf seat back
  pub more : seat.applied < back.applied
  pub taken : is_taken back.last ≡ true

-- How telling the end of a write leaves a worker's seat: the end was taken; or the server is off,
-- and that is its last answer.
abbrev pub HasTold : Seated → Seated → Result Bool Fault → Type 0
HasTold seat back (Ok true) = IsTaken seat back
HasTold seat back (Ok false) = HasWorked seat back
HasTold seat back (Err fault) = HasFailed seat back fault

-- How telling the ends of several writes leaves a worker's seat: the server knows of all; or it is
-- off, and that is its last answer.
abbrev pub HasToldAll : Seated → Seated → Result Bool Fault → Type 0
HasToldAll seat back (Ok true) = IsSeatOf seat back
HasToldAll seat back (Ok false) = HasWorked seat back
HasToldAll seat back (Err fault) = HasFailed seat back fault

-- A job's turn ended with no write any more, or with the server off.
abbrev pub is_last_turn : TurnEnd → Bool
is_last_turn turns.Never = true
is_last_turn turns.Off = true
is_last_turn _ = false

-- How a job's turn leaves a worker's seat.
abbrev pub HasTaken : Seated → Seated → Result TurnEnd Fault → Type 0
HasTaken seat back (Ok turn) = WorkedIf (is_last_turn turn) seat back
HasTaken seat back (Err fault) = HasFailed seat back fault

-- A round ended with no write of any job any more, or with the server off.
abbrev pub is_over : Round → Bool
is_over rounds.Over = true
is_over _ = false

-- How a round leaves a worker's seat.
abbrev pub HasGone : Seated → Seated → Result Round Fault → Type 0
HasGone seat back (Ok round) = WorkedIf (is_over round) seat back
HasGone seat back (Err fault) = HasFailed seat back fault
