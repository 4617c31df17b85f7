use Rattle.ledger.proofs.EntryLemmas.{one_run}
use Rattle.ledger.proofs.law.one_run.Goals as goal

pub returns : goal.returns
returns c = one_run
