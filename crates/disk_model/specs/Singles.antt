-- Sectors that lie by themselves. No public contract cites this.
use Rattle.std.specs.Prelude.{◌≡◌, ◌≢◌, ℕ, ◌/◌, List, unwrap_or}
use Rattle.std.specs.Ordering.{nat_cmp}
use Rattle.std.specs.BTreeMap.{get}
use Rattle.disk_model.specs.File.{zeros}
use Rattle.disk_model.specs.declared.singles.Singles.{Singles}

-- The sector of this number, or zeros where none lies there.
abbrev pub single_of : Singles → ℕ → List ℕ
single_of singles s = unwrap_or (get nat_cmp singles.sectors s) zeros

-- The sectors are these.
abbrev pub AreSingles : Singles → (ℕ → List ℕ) → Type 0
AreSingles singles content = (s : ℕ) → single_of singles s ≡ content s

-- Outside a run of 128 the sectors are the same.
abbrev pub IsSameOutsideRun : Singles → Singles → ℕ → Type 0
IsSameOutsideRun old new run = (s : ℕ) → s / 128 ≢ run → single_of new s ≡ single_of old s
