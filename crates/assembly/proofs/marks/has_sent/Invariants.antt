use Rattle.std.proofs.Common.{◌-◌, length}
use Rattle.assembly.proofs.SentLemmas.{AreSame}
use Rattle.assembly.proofs.marks.has_sent.Given as goal

abbrev pub invariant-loop-bytes : goal.invariant-loop-bytes
invariant-loop-bytes l = AreSame l.hub.net.frames l.before l.sent l.i

abbrev pub decreases-loop-bytes : goal.decreases-loop-bytes
decreases-loop-bytes l = length l.sent - l.i
