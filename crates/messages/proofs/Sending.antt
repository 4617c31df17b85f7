-- Frames, and a hub of them, may go from one thread to another.
use denote.Param.Send.{IsSend, sendable}
use Rattle.std.proofs.Crossing.{crosses}
use Rattle.std.proofs.MapsCrossing.{crosses as maps}
use Rattle.messages.specs.contracts.frames.Frames as frames
use Rattle.messages.specs.contracts.hub.Hub as hub

pub frames_sent : IsSend frames.the_row
frames_sent = search (sendable, crosses) depth 60 fits 20000

pub hub_sent : IsSend (hub.the_field).row
hub_sent = search (sendable, crosses, maps) depth 60 fits 20000
