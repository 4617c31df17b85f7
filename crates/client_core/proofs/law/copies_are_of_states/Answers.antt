use Rattle.client_core.proofs.SentLemmas.{copies_are_of_states}
use Rattle.client_core.proofs.law.copies_are_of_states.Goals as goal

pub returns : goal.returns
returns c = copies_are_of_states
