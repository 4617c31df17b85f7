use Rattle.client_core.proofs.SentLemmas.{acks_are_for}
use Rattle.client_core.proofs.law.acks_are_for_kept_states.Goals as goal

pub returns : goal.returns
returns c = acks_are_for c.found_after_a_push.ensures.last
