-- How the last write to a block is kept: as one more than its number, and 0 for none.
use Rattle.std.specs.Prelude.{ℕ, zero, suc, Option, Some, None}

-- The write that is kept.
abbrev pub kept_write : ℕ → Option ℕ
kept_write zero = None
kept_write (suc k) = Some k

-- How a write is kept.
abbrev pub keeping : Option ℕ → ℕ
keeping None = 0
keeping (Some k) = suc k
