use Rattle.node_threads.specs.Ends.{AreEnds}
use Rattle.node_threads.proofs.ends.ends_of.Given as goal

abbrev pub invariant-loop-number : goal.invariant-loop-number
invariant-loop-number l = AreEnds l.left.servers.items l.reports l.attempt l.number l.ends.items
