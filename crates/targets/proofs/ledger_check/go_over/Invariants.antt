use Rattle.std.specs.Prelude.{◌≤◌}
use Rattle.targets.specs.LedgerSteps.{GoesOn, all_told}
use Rattle.targets.proofs.LedgerLemmas.{HasChecked}
use Rattle.targets.proofs.ledger_check.go_over.Given as goal

abbrev pub invariant-loop-block : goal.invariant-loop-block
invariant-loop-block g l = record {
  goes_on : GoesOn l.fn.map.since l.fn.map.recheck.expected l.fn.map.asked l.map l.block;
  few : all_told l.sums ≤ l.block;
  checked : HasChecked l.fn.map.since l.fn.map.recheck.expected l.fn.map.asked l.map.check l.map.unread l.sums l.block (g.R.Read.remaining l.fn.reader)
      (g.R.Read.remaining l.reader) (g.W.Write.contents l.fn.writer) (g.W.Write.contents l.writer);
}
