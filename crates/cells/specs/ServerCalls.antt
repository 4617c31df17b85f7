-- How what is asked from a seat ends.
use Rattle.std.specs.Prelude.{◌≡◌, ◌+◌, ◌&&◌, ◌==◌, Bool, true, false, [], ◌∷◌, Some, Result, Err}
use Rattle.fc_base.specs.declared.fault.Fault.{Fault}
use Rattle.fc_base.specs.declared.fault.Fault.TheVariants.{NoMemory, WrongSeat}
use Rattle.cells.specs.declared.answer.Reply.{Reply}
use Rattle.cells.specs.declared.answer.Receipt.{Receipt}
use Rattle.cells.specs.declared.input.NodeInput.{NodeInput}
use Rattle.cells.specs.declared.entry.HistoryEntry.{HistoryEntry}
pub use Rattle.cells.specs.AtHub.{lacks_memory, told_by}
use Rattle.cells.specs.Failures.{Counts}
use Rattle.cells.specs.Seats.{times}
use Rattle.cells.specs.declared.server_cell.task.ServerTask.{ServerTask}
use Rattle.cells.specs.Seated.{Seated}
use Rattle.cells.specs.ServerCells.{ServerLog}
use Rattle.cells.specs.ServerTasks.{came_by, loads_note}

-- The seat is of this server, and the history has just as many events of it as it has applied.
abbrev pub is_right : ServerLog → Seated → Bool
is_right cell seat =
    (seat.server == cell.opening.me) && (seat.applied == times seat.number cell.history)

-- The entry of what came from a seat: it has the seat's next number, and sends nothing.
abbrev pub logged_by : Seated → NodeInput → Result Reply Fault → HistoryEntry
logged_by seat came answer = record {
  by = Some (record { seat = seat.number; number = seat.applied });
  came = came;
  answer = answer;
  sent = [];
}

-- The entry of a task.
abbrev pub entry_of : Seated → ServerTask → Result Reply Fault → HistoryEntry
entry_of seat task answer = logged_by seat (came_by task) answer

-- The history has one entry more, a fault of the device has been counted, and the seat has applied
-- one event more and keeps its answer.
pub record IsAdded (old : ServerLog) (seat : Seated) (task : ServerTask)
    (answer : Result Reply Fault) (new : ServerLog) (after : Seated) : Type 0 where
  pub opening : new.opening ≡ old.opening
  pub history : new.history ≡ entry_of seat task answer ∷ old.history
  pub failures : Counts (loads_note task) old.failures new.failures answer
  pub seat_is : after ≡ record {
    server = seat.server;
    number = seat.number;
    applied = seat.applied + 1;
    last = Some answer;
  }

-- Neither the cell of a server nor the seat changes.
pub record IsSame (old : ServerLog) (seat : Seated) (new : ServerLog)
    (after : Seated) : Type 0 where
  pub cell : new ≡ old
  pub seat_is : after ≡ seat

-- How what is asked from a right seat ends, with this answer: for want of memory nothing changes,
-- and any other answer is entered.
abbrev pub Enters : Bool → ServerLog → Seated → ServerTask → ServerLog → Seated → Result Reply Fault
    → Type 0
Enters true old seat task new after answer = IsSame old seat new after × (answer ≡ Err NoMemory)
Enters false old seat task new after answer = IsAdded old seat task answer new after

-- How what is asked ends: a wrong seat is refused, and nothing changes; else the answer is told,
-- and sends nothing.
abbrev pub AppliesBy : Bool → ServerLog → Seated → ServerTask → ServerLog → Seated
    → Result Receipt Fault → Type 0
AppliesBy false old seat task new after result =
    IsSame old seat new after × (result ≡ Err WrongSeat)
AppliesBy true old seat task new after result =
    (answer : Result Reply Fault) × (result ≡ told_by answer)
    × Enters (lacks_memory answer) old seat task new after answer

-- How a task ends that is asked for with a seat.
abbrev pub Applies : ServerLog → Seated → ServerTask → ServerLog → Seated
    → Result Receipt Fault → Type 0
Applies old seat task new after result =
    AppliesBy (is_right old seat) old seat task new after result
