use Rattle.targets.proofs.map_sectors.write_stamp.Goals as goal

pub returns : goal.returns
returns g c = rw (← c.stamp.view_is) c.write.ensures.bytes
