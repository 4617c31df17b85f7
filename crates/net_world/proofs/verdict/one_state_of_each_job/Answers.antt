use Rattle.net_world.proofs.VerdictLemmas as lemmas
use Rattle.net_world.proofs.verdict.one_state_of_each_job.Goals as goal

pub returns-clause-once : goal.returns-clause-once
returns-clause-once c = lemmas.one_taking c.one_taking.ensures

pub returns-clause-held : goal.returns-clause-held
returns-clause-held c = lemmas.held_is_the_taken (record {
  sent_taken = c.sent_states_were_taken.ensures;
  has = c.found_states.ensures.key;
  in_packets = c.held_states_were_sent.ensures.carried;
  at_client = c.held_states_were_sent.ensures.kept;
  at_mirror =
      c.held_states_were_sent.ensures.copied;
  checked_sent = c.checked_states_were_sent.ensures;
}) c.one_taking.ensures

pub returns-clause-counted : goal.returns-clause-counted
returns-clause-counted c = lemmas.counts_the_completed (record {
  sent_taken = c.sent_states_were_taken.ensures;
  has = c.found_states.ensures.key;
  in_packets = c.held_states_were_sent.ensures.carried;
  at_client = c.held_states_were_sent.ensures.kept;
  at_mirror =
      c.held_states_were_sent.ensures.copied;
  checked_sent = c.checked_states_were_sent.ensures;
}) c.counts_the_done.ensures

pub returns-clause-quiet : goal.returns-clause-quiet
returns-clause-quiet c = lemmas.quiet_until_the_check (record {
  sent_taken = c.sent_states_were_taken.ensures;
  has = c.found_states.ensures.key;
  in_packets = c.held_states_were_sent.ensures.carried;
  at_client = c.held_states_were_sent.ensures.kept;
  at_mirror = c.held_states_were_sent.ensures.copied;
  checked_sent =
      c.checked_states_were_sent.ensures;
}) c.counts_the_done.ensures c.with_was_heard.ensures c.quiet.ensures.until_checked
