use Rattle.mirror_core.proofs.KeptLemmas.{first_kept_stays}
use Rattle.mirror_core.proofs.law.first_kept_stays.Goals as goal

pub returns : goal.returns
returns c = first_kept_stays c.found_states.ensures.stays
