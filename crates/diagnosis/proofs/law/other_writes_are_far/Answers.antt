use Rattle.diagnosis.proofs.FarLemmas.{other_is_far}
use Rattle.diagnosis.proofs.law.other_writes_are_far.Goals as goal

pub returns : goal.returns
returns c e one block bytes kind other h = other_is_far e one block bytes kind other h
