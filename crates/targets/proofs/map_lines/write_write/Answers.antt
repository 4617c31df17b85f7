use Rattle.targets.proofs.map_lines.write_write.Goals as goal

pub returns : goal.returns
returns g c = rw (← c.write.view_is) c.write-2.ensures.bytes
