use Rattle.seen.proofs.EndedLemmas as lemmas
use Rattle.seen.proofs.law.ended_is_kept.Goals as goal

pub returns : goal.returns
returns c = lemmas.ended_is_kept (record {
  seen = record {
    read = c.sent_frames_are_read.ensures;
    frames = c.frames_are_of_packets.ensures.frames;
    traces = c.each_world_is_a_trace.ensures.packets;
    held = c.one_state_of_each_job.ensures.held;
    once = c.one_taking.ensures;
  };
  has = c.found_states.ensures.key;
  last = c.found_after_a_push.ensures.last;
  stays = c.first_kept_stays.ensures;
}) (record {
  grow = c.numbers_grow.ensures;
  present = c.starts.ensures.last;
  sends = c.the_taken.ensures.sent;
  jobs = c.the_untaken.ensures.states;
  none = c.the_untaken.ensures.no_states;
  stay = c.the_untaken.ensures.stay;
  to_client = c.packets_go_to_client.ensures;
  to_peers = c.packets_go_to_peers.ensures;
  over = c.packets_go_to_the_client.ensures;
})
