use Rattle.targets.specs.MapSectors.{sector_words}
use Rattle.targets.proofs.MapLineLemmas.{edges_more}
use Rattle.targets.proofs.map_sectors.write_extents.Goals as goal

pub loop-number-preserved : goal.loop-number-preserved
loop-number-preserved g c =
    edges_more (sector_words c.args.expected.now c.args.bytes.now c.args.sectors) c.loop-number.number (g.W.Write.contents c.args.writer.now)
    (g.W.Write.contents c.loop-number.writer) (g.W.Write.contents c.write_sector.new.writer) c.loop-number.invariant c.in_ok-write_sector.ensures
