use Rattle.assembly.specs.Ran.{ran_of}
use Rattle.assembly.proofs.OpenedLemmas.{AreFit}
use Rattle.assembly.proofs.opened.wrongly_seated.Given as goal

abbrev pub invariant-loop-seat : goal.invariant-loop-seat
invariant-loop-seat g l = AreFit (ran_of l.client l.servers) l.seats l.seat-index
