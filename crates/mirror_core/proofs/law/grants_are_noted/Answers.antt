use Rattle.mirror_core.proofs.SentLemmas.{grants_are_noted}
use Rattle.mirror_core.proofs.law.grants_are_noted.Goals as goal

pub returns : goal.returns
returns c = grants_are_noted
