use Rattle.engine.proofs.LegalLemmas.{stays_stopped, stays_finished}
use Rattle.engine.proofs.law.ended_law.Goals as goal

pub returns-clause-stopped : goal.returns-clause-stopped
returns-clause-stopped c = stays_stopped

pub returns-clause-finished : goal.returns-clause-finished
returns-clause-finished c = stays_finished
