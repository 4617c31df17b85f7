use Rattle.std.proofs.Common.{◌≡◌, ℕ, ◌+◌, ◌/◌, ◌<◌, ltb, length, if◌then◌else◌}
use Rattle.disk_model.specs.File.{sector_of, zeros}
use Rattle.disk_model.specs.Singles.{single_of}
use Rattle.disk_model.proofs.singles.Singles.read.Given as goal

abbrev pub invariant-loop-i : goal.invariant-loop-i
invariant-loop-i l = (j : ℕ) → j < length l.bytes / 512 →
    sector_of l.bytes j ≡ (if ltb j l.i then single_of l.self (l.first + j) else zeros)
