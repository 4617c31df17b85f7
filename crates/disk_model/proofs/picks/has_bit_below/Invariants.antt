use Rattle.std.proofs.Common.{◌≡◌, ℕ, ◌<◌, false}
use Rattle.disk_model.specs.File.{has_bit}
use Rattle.disk_model.proofs.picks.has_bit_below.Given as goal

abbrev pub invariant-loop-i : goal.invariant-loop-i
invariant-loop-i l = (j : ℕ) → j < l.i → has_bit l.mask j ≡ false
