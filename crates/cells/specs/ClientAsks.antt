-- What a command asks of the client, and as what it comes.
use Rattle.client_core.specs.Inputs.{FrameInput}
use Rattle.client_core.specs.Inputs as inputs
use Rattle.cells.specs.Rules.{Ask, Meets}
use Rattle.cells.specs.ClientTasks.{input_of}
use Rattle.cells.specs.declared.client_cell.command.ClientCommand.{ClientCommand}
use Rattle.cells.specs.declared.client_cell.command.ClientCommand.TheVariants.{Request, Tick}

-- A command has the client take a request, or a tick.
abbrev pub asks_of : ClientCommand → Ask FrameInput
asks_of (Request request) = Meets (input_of request)
asks_of Tick = Meets inputs.Tick
