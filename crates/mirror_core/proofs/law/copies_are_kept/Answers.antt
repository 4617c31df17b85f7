use Rattle.mirror_core.proofs.SentLemmas.{copies_are_kept, copies_are_noted}
use Rattle.mirror_core.proofs.law.copies_are_kept.Goals as goal

pub returns-clause-kept : goal.returns-clause-kept
returns-clause-kept c = copies_are_kept c.found_states.ensures.key c.found_after_a_push.ensures.last c.found_after_a_push.ensures.apart

pub returns-clause-noted : goal.returns-clause-noted
returns-clause-noted c = copies_are_noted
