use Rattle.engine.proofs.LegalLemmas.{writes_are_legal, ends_are_legal}
use Rattle.engine.proofs.law.legal_law.Goals as goal

pub returns-clause-writes : goal.returns-clause-writes
returns-clause-writes c = writes_are_legal c.room_law.ensures

pub returns-clause-ends : goal.returns-clause-ends
returns-clause-ends c = ends_are_legal
