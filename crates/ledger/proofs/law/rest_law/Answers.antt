use Rattle.ledger.proofs.StoryLemmas.{nothing_told, loss_told, old_loss_told}
use Rattle.ledger.proofs.law.rest_law.Goals as goal

pub returns-clause-kept : goal.returns-clause-kept
returns-clause-kept c = nothing_told

pub returns-clause-lost : goal.returns-clause-lost
returns-clause-lost c = loss_told

pub returns-clause-old_loss : goal.returns-clause-old_loss
returns-clause-old_loss c = old_loss_told
