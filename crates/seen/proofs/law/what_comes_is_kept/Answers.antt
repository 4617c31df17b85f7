use Rattle.seen.proofs.KeptLemmas as lemmas
use Rattle.seen.proofs.law.what_comes_is_kept.Goals as goal

pub returns : goal.returns
returns c = lemmas.what_comes_is_kept (record {
  seen = record {
    read = c.sent_frames_are_read.ensures;
    frames = c.frames_are_of_packets.ensures.frames;
    traces = c.each_world_is_a_trace.ensures.packets;
    held = c.one_state_of_each_job.ensures.held;
    once = c.one_taking.ensures;
  };
  has = c.found_states.ensures.key;
  last = c.found_after_a_push.ensures.last;
  stays = c.first_kept_stays.ensures;
})
