use Rattle.diagnosis.proofs.KindLemmas.{named_is_held}
use Rattle.diagnosis.proofs.law.named_writes_are_held.Goals as goal

pub returns : goal.returns
returns c e block bytes kind h = named_is_held e block bytes kind h
