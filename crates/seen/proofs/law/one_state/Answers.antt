use Rattle.seen.proofs.SeenLemmas as lemmas
use Rattle.seen.proofs.law.one_state.Goals as goal

pub returns : goal.returns
returns c = lemmas.one_state (record {
  read = c.sent_frames_are_read.ensures;
  frames = c.frames_are_of_packets.ensures.frames;
  traces = c.each_world_is_a_trace.ensures.packets;
  held = c.one_state_of_each_job.ensures.held;
  once = c.one_taking.ensures;
})
