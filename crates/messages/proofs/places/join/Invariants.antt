use Rattle.std.proofs.Common.{◌-◌}
use Rattle.messages.specs.Assemblies.{fill}
use Rattle.messages.proofs.Joining.{IsJoining}
use Rattle.messages.proofs.places.join.Given as goal

abbrev pub invariant-loop-at : goal.invariant-loop-at
invariant-loop-at l = IsJoining (fill l.piece l.filled) l.piece.tag.length l.at l.bytes.items

abbrev pub decreases-loop-at : goal.decreases-loop-at
decreases-loop-at l = l.length - l.at
