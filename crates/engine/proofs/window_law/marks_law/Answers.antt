use Rattle.engine.proofs.CountingLemmas.{marks_count_the_completed, comes_to_possible_marks}
use Rattle.engine.proofs.window_law.marks_law.Goals as goal

pub returns-clause-counts_the_completed : goal.returns-clause-counts_the_completed
returns-clause-counts_the_completed c = marks_count_the_completed

pub returns-clause-comes_to_possible : goal.returns-clause-comes_to_possible
returns-clause-comes_to_possible c = comes_to_possible_marks
