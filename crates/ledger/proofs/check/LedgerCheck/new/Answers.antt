use Rattle.ledger.proofs.CheckLemmas.{starts}
use Rattle.ledger.proofs.check.LedgerCheck.new.Goals as goal

pub returns-clause-seen : goal.returns-clause-seen
returns-clause-seen c held = rw c.new.ensures (starts c.args.ledger held)
