use Rattle.seen.proofs.OnceLemmas as lemmas
use Rattle.seen.proofs.law.numbers_are_given_once.Goals as goal

pub returns : goal.returns
returns c = lemmas.numbers_are_given_once (record {
  traces = c.each_world_is_a_trace.ensures.packets;
  goes = c.packets_go_to_client.ensures;
  over = c.packets_go_to_the_client.ensures;
  runs = c.numbers_are_given_once.ensures.runs;
  attempts = c.numbers_are_given_once.ensures.attempts;
})
