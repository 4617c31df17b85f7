use Rattle.assembly.specs.Ran.{ran_of}
use Rattle.assembly.proofs.RestLemmas.{AreAdded}
use Rattle.assembly.proofs.told.follow_rest.Given as goal

abbrev pub invariant-loop-number : goal.invariant-loop-number
invariant-loop-number g l = AreAdded (ran_of l.client l.servers) l.hub.net l.fn.order l.number l.order
