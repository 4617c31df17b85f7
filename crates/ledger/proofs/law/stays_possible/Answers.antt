use Rattle.ledger.proofs.PossibleLemmas.{stays_possible}
use Rattle.ledger.proofs.law.stays_possible.Goals as goal

pub returns : goal.returns
returns c = stays_possible
