use Rattle.disk_model.specs.Singles.{IsSameOutsideRun}
use Rattle.disk_model.proofs.singles.Singles.forget.Given as goal

abbrev pub invariant-loop-i : goal.invariant-loop-i
invariant-loop-i l = IsSameOutsideRun l.initial.self l.self l.run
