use Rattle.net_world.proofs.OpenedLemmas.{one_blank}
use Rattle.net_world.proofs.world.open.open_files.Goals as goal

pub loop-preserved : goal.loop-preserved
loop-preserved c =
    one_blank c.loop.counter c.loop.disks.items c.push.new.self.items c.blank_disk.result c.loop.invariant c.blank_disk.ensures c.in-Ok.ensures.items
