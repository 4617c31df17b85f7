use Rattle.targets.specs.MapDifferences.{differs_from_placed}
use Rattle.targets.proofs.MapLineLemmas.{items_more}
use Rattle.targets.proofs.map_differences.write_from_in_flight.Goals as goal

pub loop-write-preserved : goal.loop-write-preserved
loop-write-preserved g c =
    items_more (differs_from_placed c.args.expected.now c.args.block c.args.bytes.now) c.args.writes.now c.loop-write.write-index c.write-item.result
    (g.W.Write.contents c.args.writer.now) (g.W.Write.contents c.loop-write.writer) (g.W.Write.contents c.write_from_placed.new.writer)
    c.loop-write-test.true c.write-item.is c.loop-write.invariant c.in_ok-write_from_placed.ensures
