use Rattle.attempt_ends.proofs.LawLemmas as laws
use Rattle.attempt_ends.proofs.law.sound_checks_all.Goals as goal

pub returns : goal.returns
returns c = laws.sound_checks_all
