-- A window, and an engine with it, may go from one thread to another.
use denote.Param.Send.{IsSend, sendable}
use Rattle.std.proofs.Crossing.{crosses}
use Rattle.std.proofs.MapsCrossing.{crosses as maps}
use Rattle.circular_buffer.proofs.Crosses.{Cells-send, Deed-send}
use Rattle.engine.specs.contracts.engine.Engine as engine
use Rattle.engine.specs.contracts.window.Window as window

pub window_sent : IsSend (window.the_field).row
window_sent = search (Cells-send, Deed-send, sendable, crosses) depth 60 fits 20000

pub engine_sent : IsSend (engine.the_field).row
engine_sent = search (window_sent, sendable, crosses, maps) depth 100 fits 20000
