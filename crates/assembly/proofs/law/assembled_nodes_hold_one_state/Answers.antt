use Rattle.assembly.proofs.HeldLemmas.{assembled_are_heard, hold_one_state}
use Rattle.assembly.proofs.law.assembled_nodes_hold_one_state.Goals as goal

pub returns-clause-heard : goal.returns-clause-heard
returns-clause-heard c = assembled_are_heard c.only_sent_is_heard.ensures c.frames_are_of_packets.ensures.own

pub returns-clause-state : goal.returns-clause-state
returns-clause-state c =
    hold_one_state
    (record {
      once = c.one_state_of_each_job.ensures.once;
      held = c.one_state_of_each_job.ensures.held;
      counted = c.one_state_of_each_job.ensures.counted;
      quiet = c.one_state_of_each_job.ensures.quiet;
    })
    (assembled_are_heard c.only_sent_is_heard.ensures c.frames_are_of_packets.ensures.own)
