-- How what is asked of the client's cell ends.
use Rattle.std.specs.Prelude.{◌≡◌, Bool, true, false, [], ◌∷◌, None, Result, Err}
use Rattle.fc_base.specs.declared.fault.Fault.{Fault}
use Rattle.fc_base.specs.declared.fault.Fault.TheVariants.{NoMemory}
use Rattle.cells.specs.declared.answer.Reply.{Reply}
use Rattle.cells.specs.declared.answer.Receipt.{Receipt}
use Rattle.cells.specs.declared.input.NodeInput.{NodeInput}
use Rattle.cells.specs.declared.entry.HistoryEntry.{HistoryEntry}
use Rattle.cells.specs.AtHub.{lacks_memory, told_by}
use Rattle.cells.specs.Failures.{Counts}
use Rattle.cells.specs.declared.client_cell.task.ClientTask.{ClientTask}
use Rattle.cells.specs.ClientCells.{ClientLog}
use Rattle.cells.specs.ClientTasks.{came_by, loads_note}

-- The entry of what came from no seat and was answered so, which sends nothing.
abbrev pub logged_by : NodeInput → Result Reply Fault → HistoryEntry
logged_by came answer = record { by = None; came = came; answer = answer; sent = [] }

-- The history has one entry more, and a fault of the device has been counted.
pub record IsAdded (old : ClientLog) (task : ClientTask) (answer : Result Reply Fault)
    (new : ClientLog) : Type 0 where
  pub opening : new.opening ≡ old.opening
  pub history : new.history ≡ logged_by (came_by task) answer ∷ old.history
  pub failures : Counts (loads_note task) old.failures new.failures answer

-- What a task leaves that has this answer: for want of memory nothing changes, and any other answer
-- is entered.
abbrev pub Enters : Bool → ClientLog → ClientTask → ClientLog → Result Reply Fault → Type 0
Enters true old task new answer = (new ≡ old) × (answer ≡ Err NoMemory)
Enters false old task new answer = IsAdded old task answer new

-- How a task ends: its answer is told, and sends nothing.
abbrev pub Applies : ClientLog → ClientTask → ClientLog → Result Receipt Fault → Type 0
Applies old task new result =
    (answer : Result Reply Fault) × (result ≡ told_by answer)
    × Enters (lacks_memory answer) old task new answer
