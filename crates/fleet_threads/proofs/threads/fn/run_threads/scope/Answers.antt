use denote.Param.Send.{sendable}
use Rattle.std.proofs.Crossing.{crosses}
use Rattle.cells.proofs.Sending.{seat_sent}
use Rattle.fleet_threads.proofs.Sending.{hand_sent, nodes_sync, flags_sync}
use Rattle.fleet_threads.proofs.threads.fn.run_threads.scope.Goals as goal

pub spawn-requires-send-F : goal.spawn-requires-send-F
spawn-requires-send-F g c κs within = search (seat_sent, nodes_sync, flags_sync, sendable, crosses) depth 60 fits 20000

pub spawn-requires-2-send-F : goal.spawn-requires-2-send-F
spawn-requires-2-send-F g c κs within = search (hand_sent, nodes_sync, flags_sync, sendable, crosses) depth 60 fits 20000
