use Rattle.ledger.proofs.WritingLemmas.{runs_more}
use Rattle.ledger.proofs.spelling.add_runs.Goals as goal

pub loop-write-preserved : goal.loop-write-preserved
loop-write-preserved c =
    runs_more c.args.writes.now c.loop-write.write-index c.write-item.result c.loop-write.table _ _ c.loop-write-test.true c.write-item.is
    c.in_ok-add_run.ensures c.loop-write.invariant
