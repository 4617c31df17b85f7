use Rattle.net_world.proofs.PieceLemmas as lemmas
use Rattle.net_world.proofs.frame_law.frames_hold_the_taken.Goals as goal

pub returns-clause-held : goal.returns-clause-held
returns-clause-held c = lemmas.heard_is_the_taken c.only_sent_is_heard.ensures c.one_state_of_each_job.ensures.held

pub returns-clause-together : goal.returns-clause-together
returns-clause-together c = lemmas.pieces_hold_the_taken c.only_sent_comes_together.ensures.step c.frames_are_of_packets.ensures.frames
    c.tags_name_one_body.ensures c.sent_are_in_range.ensures c.only_sent_is_heard.ensures c.one_state_of_each_job.ensures.held
