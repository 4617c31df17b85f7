use Rattle.mirror_core.proofs.SentLemmas.{copy_oks_are_for}
use Rattle.mirror_core.proofs.law.copy_oks_are_for_kept_states.Goals as goal

pub returns : goal.returns
returns c = copy_oks_are_for c.found_after_a_push.ensures.last
