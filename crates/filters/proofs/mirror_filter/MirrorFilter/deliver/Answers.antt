use Rattle.std.proofs.Common.{refl}
use Rattle.filters.proofs.mirror_filter.MirrorFilter.deliver.Goals as goal

pub returns : goal.returns
returns c o past stands =
    let h = c.in_ok-frames.ensures o past stands in
    record {
      free = h.free;
      saves = c.would_save-saves.ensures o past stands;
      number = refl;
      frames = h.sends;
      act = refl;
      leaves = h.leaves;
      stands = h.stands;
    }
