-- A disk in memory may go from one thread to another.
use denote.Param.Send.{IsSend, sendable}
use Rattle.std.proofs.Crossing.{crosses}
use Rattle.std.proofs.MapsCrossing.{crosses as maps}
use Rattle.disk_model.specs.contracts.mem_disk.MemDisk as disk

pub disk_sent : IsSend (disk.the_field).row
disk_sent = search (sendable, crosses, maps) depth 60 fits 20000
