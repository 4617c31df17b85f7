use Rattle.mirror_core.proofs.RangeLemmas.{frames_are_short}
use Rattle.mirror_core.proofs.law.frames_are_short.Goals as goal

pub returns : goal.returns
returns c = frames_are_short c.notes_keep_ranges.ensures c.lengths_are_bounded.ensures
