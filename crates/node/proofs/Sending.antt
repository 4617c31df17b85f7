-- A node, with power or without, may go from one thread to another, where its core and its notes may.
use denote.RattleType.{RattleType}
use denote.Param.Send.{IsSend, sendable}
use Rattle.std.proofs.Crossing.{crosses}
use Rattle.node.specs.contracts.power.Power as power

pub power_sent : (C N : RattleType) → IsSend C → IsSend N → IsSend (power.the_field C N).row
power_sent C N c n = search (sendable, crosses) depth 60 fits 20000
