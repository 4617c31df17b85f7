use Rattle.client_core.proofs.RangeLemmas.{packets_are_in_range}
use Rattle.client_core.proofs.law.packets_are_in_range.Goals as goal

pub returns : goal.returns
returns c = packets_are_in_range c.notes_keep_ranges.ensures
