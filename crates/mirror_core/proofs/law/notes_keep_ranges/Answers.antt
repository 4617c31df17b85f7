use Rattle.mirror_core.proofs.NotedLemmas.{notes_keep_ranges}
use Rattle.mirror_core.proofs.law.notes_keep_ranges.Goals as goal

pub returns : goal.returns
returns c = notes_keep_ranges c.found_after_a_push.ensures.apart
