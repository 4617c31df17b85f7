use Rattle.net_world.proofs.PassLemmas as lemmas
use Rattle.net_world.proofs.passes.checked_states_were_sent.Goals as goal

pub returns : goal.returns
returns c = lemmas.checked_states_were_sent c.with_was_heard.ensures
