use Rattle.targets.proofs.TellLemmas.{hears}
use Rattle.targets.proofs.tour_tiles.hear_at.Goals as goal

pub returns : goal.returns
returns g c =
    hears c.hear.result c.args.place c.args.notice c.args.tiles.now c.index-tiles-place.result c.hear.new.self (g.W.Write.contents c.args.writer.now)
    (g.W.Write.contents c.hear.new.writer) c.requires c.hear.ensures.number c.hear.ensures.step
