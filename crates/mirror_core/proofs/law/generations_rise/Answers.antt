use Rattle.mirror_core.proofs.KeptLemmas.{generations_rise}
use Rattle.mirror_core.proofs.law.generations_rise.Goals as goal

pub returns : goal.returns
returns c = generations_rise
