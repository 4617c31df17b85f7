use Rattle.client_core.proofs.SentLemmas as lemmas
use Rattle.client_core.proofs.law.no_saved_is_of_none.Goals as goal

pub returns : goal.returns
returns c = lemmas.no_saved_is_of_none
