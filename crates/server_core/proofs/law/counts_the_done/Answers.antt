use Rattle.server_core.proofs.CountLemmas.{taking_of}
use Rattle.server_core.proofs.law.counts_the_done.Goals as goal

pub returns : goal.returns
returns c = taking_of (record {
  runs = c.legal_histories.ensures.runs;
  legal = c.legal_histories.ensures.histories;
  counted = c.taken_law.ensures;
})
