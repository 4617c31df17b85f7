use Rattle.server_core.proofs.ShortLemmas.{frames_are_short}
use Rattle.server_core.proofs.law.frames_are_short.Goals as goal

pub returns : goal.returns
returns c = frames_are_short c.few_packets.ensures c.packets_are_in_range.ensures c.packets_go_to_client.ensures c.frames_are_few.ensures
    c.lengths_are_bounded.ensures
