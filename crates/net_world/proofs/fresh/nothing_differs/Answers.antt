use Rattle.net_world.proofs.ConflictLemmas.{no_copy_conflicts, no_packet_conflicts, state_packets_are_equal}
use Rattle.net_world.proofs.fresh.nothing_differs.Goals as goal

pub returns-clause-kept : goal.returns-clause-kept
returns-clause-kept c = no_packet_conflicts (record {
  taken = c.sent_states_were_taken.ensures;
  in_packets = c.held_states_were_sent.ensures.carried;
  at_client = c.held_states_were_sent.ensures.kept;
  at_mirror =
      c.held_states_were_sent.ensures.copied;
  has = c.found_states.ensures.key;
  once = c.one_state_of_each_job.ensures.once;
})

pub returns-clause-copied : goal.returns-clause-copied
returns-clause-copied c = no_copy_conflicts (record {
  taken = c.sent_states_were_taken.ensures;
  in_packets = c.held_states_were_sent.ensures.carried;
  at_client = c.held_states_were_sent.ensures.kept;
  at_mirror =
      c.held_states_were_sent.ensures.copied;
  has = c.found_states.ensures.key;
  once = c.one_state_of_each_job.ensures.once;
})

pub returns-clause-packets : goal.returns-clause-packets
returns-clause-packets c = state_packets_are_equal (record {
  grow = c.numbers_grow.ensures;
  present = c.starts.ensures.last;
  sends = c.the_taken.ensures.sent;
  jobs = c.the_untaken.ensures.states;
  none = c.the_untaken.ensures.no_states;
  stay = c.the_untaken.ensures.stay;
  to_client = c.packets_go_to_client.ensures;
  to_peers =
      c.packets_go_to_peers.ensures;
  over = c.packets_go_to_the_client.ensures;
}) c.sent_states_were_taken.ensures c.one_state_of_each_job.ensures.once
