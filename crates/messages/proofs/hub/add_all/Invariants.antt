use Rattle.std.proofs.Common.{◌-◌, length}
use Rattle.messages.proofs.NoteLemmas.{IsNoted}
use Rattle.messages.proofs.hub.add_all.Given as goal

abbrev pub invariant-loop-frame : goal.invariant-loop-frame
invariant-loop-frame l = IsNoted l.sent l.i l.fn.store l.fn.queues l.store l.queues

abbrev pub decreases-loop-frame : goal.decreases-loop-frame
decreases-loop-frame l = length l.sent - l.i
