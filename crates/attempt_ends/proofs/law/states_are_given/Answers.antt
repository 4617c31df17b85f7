use Rattle.attempt_ends.proofs.LawLemmas as laws
use Rattle.attempt_ends.proofs.law.states_are_given.Goals as goal

pub returns : goal.returns
returns c = laws.states_are_given c.first_kept_stays.ensures
