use Rattle.engine.proofs.LegalLemmas.{later_waits, fly_apart}
use Rattle.engine.proofs.law.overlap_law.Goals as goal

pub returns-clause-later : goal.returns-clause-later
returns-clause-later c = later_waits c.sets_law.ensures.in_flight

pub returns-clause-apart : goal.returns-clause-apart
returns-clause-apart c = fly_apart c.sets_law.ensures.in_flight
