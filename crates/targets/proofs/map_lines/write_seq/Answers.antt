use Rattle.targets.proofs.map_lines.write_seq.Goals as goal

pub returns : goal.returns
returns g c = rw (← c.seq.view_is) c.write.ensures.bytes
