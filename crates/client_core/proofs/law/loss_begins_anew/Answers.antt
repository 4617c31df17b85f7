use Rattle.client_core.proofs.LossLemmas.{loss_begins_anew}
use Rattle.client_core.proofs.law.loss_begins_anew.Goals as goal

pub returns : goal.returns
returns c = loss_begins_anew
