-- How sectors lie in memory. No public contract cites this.
use Rattle.std.specs.Prelude.{ℕ, List, Option, Some, None}
use Rattle.disk_model.specs.File.{sector_of}

-- Sector i of a run, or the sector that lies by itself where there is no such run.
abbrev pub run_sector : Option (List ℕ) → List ℕ → ℕ → List ℕ
run_sector None single i = single
run_sector (Some run) single i = sector_of run i
