-- What is asked of the client, as what comes to it.
use Rattle.std.specs.Prelude.{Bool, true, false}
use Rattle.client_core.specs.Inputs.{FrameInput}
use Rattle.client_core.specs.Inputs as inputs
use Rattle.cells.specs.declared.input.NodeInput.{NodeInput}
use Rattle.cells.specs.declared.input.NodeInput.TheVariants as came
use Rattle.cells.specs.declared.client_cell.task.ClientTask.{ClientTask}
use Rattle.cells.specs.declared.client_cell.task.ClientTask.TheVariants.{Cut, Restart}
use Rattle.cells.specs.declared.client_cell.request.ClientRequest.{ClientRequest}
use Rattle.cells.specs.declared.client_cell.request.ClientRequest.TheVariants.{Begin, Trigger, Stop, Verify}
use Rattle.cells.specs.declared.client_cell.incoming.Incoming.{Incoming}
use Rattle.cells.specs.declared.client_cell.incoming.Incoming.TheVariants.{Frame, Request}

-- What comes to the client by a task.
abbrev pub came_by : ClientTask → NodeInput
came_by Cut = came.Cut
came_by Restart = came.Restart

-- A task of the client loads its note: a restart does, and a cut doesn't.
abbrev pub loads_note : ClientTask → Bool
loads_note Cut = false
loads_note Restart = true

-- What its core meets by a request.
abbrev pub input_of : ClientRequest → FrameInput
input_of (Begin text) = inputs.Begin text
input_of (Trigger run act) = inputs.Trigger run act
input_of (Stop run) = inputs.Stop run
input_of (Verify run text) = inputs.Verify run text

-- What comes to the client at the hub.
abbrev pub came_in : Incoming → NodeInput
came_in (Frame came frame) = came
came_in (Request request) = came.Request request

-- What its core meets of that.
abbrev pub input_in : Incoming → FrameInput
input_in (Frame came frame) = inputs.Deliver frame
input_in (Request request) = input_of request
