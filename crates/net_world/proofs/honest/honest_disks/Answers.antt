use Rattle.net_world.proofs.HonestLaws as laws
use Rattle.net_world.proofs.honest.honest_disks.Goals as goal

pub returns-clause-few : goal.returns-clause-few
returns-clause-few c = laws.few_faults (record {
  passes =
      record {
        sent_taken = c.sent_states_were_taken.ensures;
        has = c.found_states.ensures.key;
        in_packets = c.held_states_were_sent.ensures.carried;
        at_client = c.held_states_were_sent.ensures.kept;
        at_mirror = c.held_states_were_sent.ensures.copied;
        checked_sent = c.checked_states_were_sent.ensures;
      };
  heard = c.with_was_heard.ensures;
  check_is = c.open_check_is_last.ensures;
  ground = record {
    takings = c.counts_the_done.ensures;
    starts = c.starts.ensures.once;
    present = c.starts.ensures.last;
    sets = c.legal_histories.ensures.runs;
    legal = c.legal_histories.ensures.histories;
    counts = c.taken_law.ensures;
    waits = c.overlap_law.ensures.later;
    flying = c.sets_law.ensures.in_flight;
    opened = c.sets_law.ensures.open_writes;
    issued = c.sets_law.ensures.completed;
    whole = c.block_law.ensures.lands_whole;
    others = c.block_law.ensures.keeps_other_blocks;
    fill =
        c.writes_fill_their_blocks.ensures;
    region = c.writes_stay_in_the_region.ensures;
  };
  traces = c.each_world_is_a_trace.ensures.packets;
})

pub returns-clause-none : goal.returns-clause-none
returns-clause-none c = laws.no_faults (record {
  passes =
      record {
        sent_taken = c.sent_states_were_taken.ensures;
        has = c.found_states.ensures.key;
        in_packets = c.held_states_were_sent.ensures.carried;
        at_client = c.held_states_were_sent.ensures.kept;
        at_mirror = c.held_states_were_sent.ensures.copied;
        checked_sent = c.checked_states_were_sent.ensures;
      };
  heard = c.with_was_heard.ensures;
  check_is = c.open_check_is_last.ensures;
  ground = record {
    takings = c.counts_the_done.ensures;
    starts = c.starts.ensures.once;
    present = c.starts.ensures.last;
    sets = c.legal_histories.ensures.runs;
    legal = c.legal_histories.ensures.histories;
    counts = c.taken_law.ensures;
    waits = c.overlap_law.ensures.later;
    flying = c.sets_law.ensures.in_flight;
    opened = c.sets_law.ensures.open_writes;
    issued = c.sets_law.ensures.completed;
    whole = c.block_law.ensures.lands_whole;
    others = c.block_law.ensures.keeps_other_blocks;
    fill =
        c.writes_fill_their_blocks.ensures;
    region = c.writes_stay_in_the_region.ensures;
  };
  traces = c.each_world_is_a_trace.ensures.packets;
})
