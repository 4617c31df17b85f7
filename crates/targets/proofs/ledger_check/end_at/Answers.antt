use Rattle.std.proofs.Common.{refl}
use Rattle.targets.proofs.LedgerLemmas.{cut_written}
use Rattle.targets.proofs.ledger_check.end_at.Goals as goal

pub returns : goal.returns
returns g c = (
  cut_written c.args.map.asked c.args.sums.now _ _ (g.W.Write.contents c.args.writer.now) (g.W.Write.contents c.write_unasked.new.writer)
      (g.W.Write.contents c.write_last.new.writer) (g.W.Write.contents c.flush.new.self) c.in_ok-write_unasked.ensures
      c.in_ok-write_last.ensures c.finish_at.ensures c.in_ok-flush.ensures.bytes,
  refl,
)
