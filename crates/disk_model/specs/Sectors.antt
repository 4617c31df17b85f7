-- The content that sectors in memory have. No public contract cites how they lie.
use Rattle.std.specs.Prelude.{◌≡◌, ℕ, ◌/◌, ◌%◌, List, IsSome}
use Rattle.std.specs.Ordering.{nat_cmp}
use Rattle.std.specs.BTreeMap.{get}
use Rattle.disk_model.specs.Run.{run_sector}
use Rattle.disk_model.specs.Singles.{single_of}
use Rattle.disk_model.specs.declared.sectors.Sectors.{Sectors}

-- A sector lies in its run of 128 where that run is there, and else by itself. Where nothing lies
-- there are zeros.
abbrev pub content_of : Sectors → ℕ → List ℕ
content_of sectors s =
    run_sector (get nat_cmp sectors.runs (s / 128)) (single_of sectors.singles s) (s % 128)

-- The sectors have this content.
abbrev pub HasContent : Sectors → (ℕ → List ℕ) → Type 0
HasContent sectors content = (s : ℕ) → content_of sectors s ≡ content s

-- There is a run of this number.
abbrev pub HasRun : Sectors → ℕ → Type 0
HasRun sectors r = IsSome (get nat_cmp sectors.runs r)

-- No run is gone.
abbrev pub KeepsRuns : Sectors → Sectors → Type 0
KeepsRuns old new = (r : ℕ) → HasRun old r → HasRun new r
