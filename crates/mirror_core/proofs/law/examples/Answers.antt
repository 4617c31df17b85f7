use Rattle.mirror_core.proofs.ExampleLemmas.{keeps_the_first}
use Rattle.mirror_core.proofs.law.examples.Goals as goal

pub returns-clause-keeps : goal.returns-clause-keeps
returns-clause-keeps c = keeps_the_first
