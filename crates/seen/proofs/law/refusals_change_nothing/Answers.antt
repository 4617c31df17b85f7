use Rattle.seen.proofs.RefusalLemmas as lemmas
use Rattle.seen.proofs.law.refusals_change_nothing.Goals as goal

pub returns : goal.returns
returns c = lemmas.refusals_change_nothing
