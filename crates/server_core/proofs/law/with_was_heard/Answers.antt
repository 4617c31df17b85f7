use Rattle.server_core.proofs.HeardLemmas as lemmas
use Rattle.server_core.proofs.law.with_was_heard.Goals as goal

pub returns : goal.returns
returns c = lemmas.with_was_heard
