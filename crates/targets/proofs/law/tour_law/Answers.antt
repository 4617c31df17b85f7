use Rattle.targets.proofs.TourLawLemmas.{tiles_are_runs}
use Rattle.targets.proofs.law.tour_law.Goals as goal

pub returns : goal.returns
returns c = tiles_are_runs
