use Rattle.targets.proofs.FrontLemmas.{one_is_behind}
use Rattle.targets.proofs.TourExample.{two_tiles_are_toured}
use Rattle.targets.proofs.law.examples.Goals as goal

pub returns-clause-behind : goal.returns-clause-behind
returns-clause-behind c = one_is_behind

pub returns-clause-tour : goal.returns-clause-tour
returns-clause-tour c = two_tiles_are_toured
