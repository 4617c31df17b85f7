use Rattle.seen.proofs.AckLemmas as lemmas
use Rattle.seen.proofs.law.acks_are_of_kept.Goals as goal

pub returns : goal.returns
returns c = lemmas.acks_are_of_kept (record {
  frames = record {
    own = c.frames_are_of_packets.ensures.own;
    read = c.sent_frames_are_read.ensures;
    to_client = c.packets_go_to_client.ensures;
    to_peers = c.packets_go_to_peers.ensures;
    over = c.packets_go_to_the_client.ensures;
  };
  arriving = record {
    traces = c.each_world_is_a_trace.ensures.frames;
    read = c.sent_frames_are_read.ensures;
    frames = c.frames_are_of_packets.ensures.frames;
    together = c.only_sent_comes_together.ensures.step;
    tags = c.tags_name_one_body.ensures;
    ranges = c.sent_are_in_range.ensures;
    reports = record { fit = c.reports_fit.ensures; sets = c.legal_histories.ensures.checks };
  };
  traces = c.each_world_is_a_trace.ensures.packets;
  lengths = c.lengths_are_bounded.ensures;
  acks = c.acks_are_for_kept_states.ensures;
  seen = record {
    read = c.sent_frames_are_read.ensures;
    frames = c.frames_are_of_packets.ensures.frames;
    traces = c.each_world_is_a_trace.ensures.packets;
    held = c.one_state_of_each_job.ensures.held;
    once = c.one_taking.ensures;
  };
  sayings = record {
    grow = c.numbers_grow.ensures;
    present = c.starts.ensures.last;
    sends = c.the_taken.ensures.sent;
    jobs = c.the_untaken.ensures.states;
    none = c.the_untaken.ensures.no_states;
    stay = c.the_untaken.ensures.stay;
    to_client = c.packets_go_to_client.ensures;
    to_peers = c.packets_go_to_peers.ensures;
    over = c.packets_go_to_the_client.ensures;
  };
})
