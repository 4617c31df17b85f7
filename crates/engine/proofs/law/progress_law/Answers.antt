use Rattle.engine.proofs.ProgressLemmas.{always_goes_on}
use Rattle.engine.proofs.law.progress_law.Goals as goal

pub returns : goal.returns
returns c = always_goes_on
