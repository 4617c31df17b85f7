use Rattle.client_core.proofs.MirroredLemmas.{numbers_are_given_once}
use Rattle.client_core.proofs.law.numbers_are_given_once.Goals as goal

pub returns : goal.returns
returns c = numbers_are_given_once
