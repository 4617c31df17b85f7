use Rattle.net_world.proofs.OnlySentLemmas as lemmas
use Rattle.net_world.proofs.frame_law.only_sent_is_heard.Goals as goal

pub returns : goal.returns
returns c = lemmas.only_sent_is_heard c.only_sent_comes_together.ensures.step c.frames_are_of_packets.ensures.frames c.tags_name_one_body.ensures
    c.sent_are_in_range.ensures
