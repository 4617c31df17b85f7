use Rattle.server_core.proofs.RefusedLemmas.{refused_stays}
use Rattle.server_core.proofs.law.refused_stays.Goals as goal

pub returns : goal.returns
returns c = refused_stays
