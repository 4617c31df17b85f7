use Rattle.targets.proofs.LedgerLawLemmas.{whole_checks}
use Rattle.targets.proofs.law.ledger_law.Goals as goal

pub returns : goal.returns
returns c place held cells are read = whole_checks place held cells are read
