-- A client may go from one thread to another, where its notes may.
use denote.RattleType.{RattleType}
use denote.Param.Send.{IsSend, sendable}
use Rattle.std.proofs.Crossing.{crosses}
use Rattle.std.proofs.MapsCrossing.{crosses as maps}
use Rattle.client_core.specs.contracts.client.Client as client

pub client_sent : (T : RattleType) → IsSend T → IsSend (client.the_row T)
client_sent T s = search (sendable, crosses, maps) depth 60 fits 20000
