use Rattle.client_core.proofs.SentLemmas.{saved_is_kept}
use Rattle.client_core.proofs.law.saved_is_kept.Goals as goal

pub returns : goal.returns
returns c = saved_is_kept c.found_states.ensures.key
