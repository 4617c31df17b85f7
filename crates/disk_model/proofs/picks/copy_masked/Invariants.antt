use Rattle.std.proofs.Common.{◌≡◌, ℕ, ◌/◌, ◌<◌, ◌&&◌, ltb, length, if◌then◌else◌}
use Rattle.disk_model.specs.File.{sector_of, has_bit}
use Rattle.disk_model.proofs.picks.copy_masked.Given as goal

abbrev pub invariant-loop-i : goal.invariant-loop-i
invariant-loop-i l = (j : ℕ) → j < length l.from / 512 →
    sector_of l.to j ≡ (if ltb j l.i && has_bit l.mask j then sector_of l.from j else sector_of l.initial.to j)
