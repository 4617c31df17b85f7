use Rattle.ledger.proofs.EntryLemmas.{stays}
use Rattle.ledger.proofs.law.stays.Goals as goal

pub returns : goal.returns
returns c = stays
