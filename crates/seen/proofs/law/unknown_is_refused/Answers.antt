use Rattle.seen.proofs.UnknownLemmas as lemmas
use Rattle.seen.proofs.law.unknown_is_refused.Goals as goal

pub returns : goal.returns
returns c = lemmas.unknown_is_refused
