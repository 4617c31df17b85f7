use Rattle.std.proofs.Common.{◌-◌}
use Rattle.messages.specs.Assemblies.{fill}
use Rattle.messages.proofs.Joining.{IsLooking}
use Rattle.messages.proofs.places.is_completed.Given as goal

abbrev pub invariant-loop-at : goal.invariant-loop-at
invariant-loop-at l = IsLooking (fill l.piece l.filled) l.piece.tag.length l.at

abbrev pub decreases-loop-at : goal.decreases-loop-at
decreases-loop-at l = l.length - l.at
