use Rattle.client_core.proofs.FewLemmas.{frames_are_short}
use Rattle.client_core.proofs.law.frames_are_short.Goals as goal

pub returns : goal.returns
returns c = frames_are_short c.packets_are_few.ensures c.packets_are_in_range.ensures c.frames_are_few.ensures c.lengths_are_bounded.ensures
