-- What a seat asks of a server, as what comes to it.
use Rattle.std.specs.Prelude.{Bool, true, false}
use Rattle.cells.specs.declared.input.NodeInput.{NodeInput}
use Rattle.cells.specs.declared.input.NodeInput.TheVariants as came
use Rattle.cells.specs.declared.server_cell.task.ServerTask.{ServerTask}
use Rattle.cells.specs.declared.server_cell.task.ServerTask.TheVariants.{Issue, WriteDone, Cut, Restart}

-- What comes to a server by a task.
abbrev pub came_by : ServerTask → NodeInput
came_by (Issue j) = came.Issue j
came_by (WriteDone ticket end) = came.WriteDone ticket end
came_by Cut = came.Cut
came_by Restart = came.Restart

-- A task of a server loads its note: a restart does, and no other.
abbrev pub loads_note : ServerTask → Bool
loads_note (Issue j) = false
loads_note (WriteDone ticket end) = false
loads_note Cut = false
loads_note Restart = true
