use Rattle.mirror_core.proofs.RangeLemmas.{packets_are_in_range}
use Rattle.mirror_core.proofs.law.packets_are_in_range.Goals as goal

pub returns : goal.returns
returns c = packets_are_in_range c.notes_keep_ranges.ensures
