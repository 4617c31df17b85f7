use Rattle.engine.proofs.CountingLemmas.{counts_the_completed, comes_to_possible}
use Rattle.engine.proofs.window_law.counting_law.Goals as goal

pub returns-clause-counts_the_completed : goal.returns-clause-counts_the_completed
returns-clause-counts_the_completed c = counts_the_completed

pub returns-clause-comes_to_possible : goal.returns-clause-comes_to_possible
returns-clause-comes_to_possible c = comes_to_possible
