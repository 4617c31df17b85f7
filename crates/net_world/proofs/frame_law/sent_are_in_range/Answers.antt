use Rattle.net_world.proofs.RangeLemmas as lemmas
use Rattle.net_world.proofs.frame_law.sent_are_in_range.Goals as goal

pub returns : goal.returns
returns c = lemmas.sent_are_in_range c.packets_are_in_range-2.ensures c.packets_are_in_range.ensures c.packets_are_in_range-3.ensures
