use Rattle.std.proofs.Common.{◌≡◌, drop}
use Rattle.messages.specs.Assemblies.{filled_at}
use Rattle.messages.proofs.places.bytes_at.Given as goal

abbrev pub invariant-loop-filled : goal.invariant-loop-filled
invariant-loop-filled l = filled_at l.fn.filled l.at ≡ filled_at (drop l.filled-index l.fn.filled) l.at
