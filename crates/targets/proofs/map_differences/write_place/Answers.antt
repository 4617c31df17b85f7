use Rattle.targets.proofs.map_differences.write_place.Goals as goal

pub returns : goal.returns
returns g c = rw (← c.seq.view_is) c.write.ensures.bytes
