use Rattle.std.proofs.Common.{length}
use Rattle.ledger.specs.Ranges.{IsRanged}
use Rattle.ledger.proofs.WritingLemmas.{words_more, all_more}
use Rattle.ledger.proofs.spelling.put_entry.Goals as goal

pub loop-write-preserved : goal.loop-write-preserved
loop-write-preserved c = record {
  bytes = words_more c.args.table.now c.args.writes.now c.loop-write.write-index (length c.args.writes.now) c.write-item.result c.args.out.now.items
      c.loop-write.out.items _ c.loop-write-test.true c.write-item.is c.in_ok-put_write.ensures.bytes c.loop-write.invariant.bytes;
  ranged = all_more IsRanged c.args.writes.now c.loop-write.write-index c.write-item.result c.loop-write-test.true c.write-item.is
      c.in_ok-put_write.ensures.ranged c.loop-write.invariant.ranged;
}
