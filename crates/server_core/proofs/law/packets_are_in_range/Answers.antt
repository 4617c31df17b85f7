use Rattle.server_core.proofs.ReplyLemmas as lemmas
use Rattle.server_core.proofs.law.packets_are_in_range.Goals as goal

pub returns : goal.returns
returns c = lemmas.packets_are_in_range (record {
  texts = c.legal_histories.ensures.texts;
  legal = c.legal_histories.ensures.histories;
  possible = c.counting_law.ensures.comes_to_possible;
})
