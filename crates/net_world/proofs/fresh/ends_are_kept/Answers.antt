use Rattle.net_world.proofs.EndedLemmas.{kept_where_served, kept_where_cut}
use Rattle.net_world.proofs.fresh.ends_are_kept.Goals as goal

pub returns-clause-served : goal.returns-clause-served
returns-clause-served c = kept_where_served (record {
  sayings =
      record {
        grow = c.numbers_grow.ensures;
        present = c.starts.ensures.last;
        sends = c.the_taken.ensures.sent;
        jobs = c.the_untaken.ensures.states;
        none = c.the_untaken.ensures.no_states;
        stay = c.the_untaken.ensures.stay;
        to_client = c.packets_go_to_client.ensures;
        to_peers = c.packets_go_to_peers.ensures;
        over = c.packets_go_to_the_client.ensures;
      };
  taken = c.sent_states_were_taken.ensures;
  has = c.found_states.ensures.key;
  kept_sent =
      c.held_states_were_sent.ensures.kept;
  once = c.one_state_of_each_job.ensures.once;
}) c.triggers_end_well.ensures

pub returns-clause-cut : goal.returns-clause-cut
returns-clause-cut c = kept_where_cut (record {
  sayings =
      record {
        grow = c.numbers_grow.ensures;
        present = c.starts.ensures.last;
        sends = c.the_taken.ensures.sent;
        jobs = c.the_untaken.ensures.states;
        none = c.the_untaken.ensures.no_states;
        stay = c.the_untaken.ensures.stay;
        to_client = c.packets_go_to_client.ensures;
        to_peers = c.packets_go_to_peers.ensures;
        over = c.packets_go_to_the_client.ensures;
      };
  taken = c.sent_states_were_taken.ensures;
  has = c.found_states.ensures.key;
  kept_sent =
      c.held_states_were_sent.ensures.kept;
  once = c.one_state_of_each_job.ensures.once;
}) c.acks_are_for_kept_states.ensures c.cuts_when_kept.ensures
