use denote.Param.Send.{sendable}
use Rattle.std.proofs.Crossing.{crosses}
use Rattle.fleet_threads.proofs.Sending.{nodes_sync, flags_sync}
use Rattle.fleet_threads.proofs.crew.work_all.Goals as goal

pub for_each_mut-requires-sync-F : goal.for_each_mut-requires-sync-F
for_each_mut-requires-sync-F g c κs within =
    let runs = c.type_bounds.sync-R in
    let gates = c.type_bounds.sync-G in
    search (nodes_sync, flags_sync, sendable, crosses) depth 60 fits 20000
