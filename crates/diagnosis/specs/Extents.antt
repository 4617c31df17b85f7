-- Sectors of a block that go together.
use Rattle.std.specs.Prelude.{◌≡◌, ◌⊎◌, ◌<◌, ◌≤◌, ℕ, ◌+◌, ◌-◌, List}
use Rattle.recheck.specs.Expected.{Expected}
use Rattle.diagnosis.specs.declared.extent.Extent.{Extent}
use Rattle.diagnosis.specs.declared.piece.Piece.{Piece}
use Rattle.diagnosis.specs.declared.piece.Piece.TheVariants as pieces
use Rattle.diagnosis.specs.Pieces.{piece_at}

-- What a sector holds goes together with what one so many sectors before it does: both are alike,
-- or of one write, and as far apart there.
abbrev pub GoesOn : Piece → ℕ → Piece → Type 0
GoesOn pieces.Zeros behind pieces.Zeros = Unit {0}
GoesOn pieces.Pattern behind pieces.Pattern = Unit {0}
GoesOn pieces.Unknown behind pieces.Unknown = Unit {0}
GoesOn (pieces.Stamp first) behind (pieces.Stamp stamp) =
    (stamp.write ≡ first.write) × (stamp.sector ≡ first.sector + behind)
GoesOn first behind piece = ⊥

-- The sector goes together with an earlier one.
abbrev pub GoesWith : Expected → List ℕ → ℕ → ℕ → Type 0
GoesWith e bytes from number =
    GoesOn (piece_at e bytes from) (number - from) (piece_at e bytes number)

-- The sectors from one on that go together with it, of the first so many of a block: all up to one
-- that doesn't, or up to the last.
pub record IsExtent (e : Expected) (bytes : List ℕ) (from sectors : ℕ)
    (extent : Extent) : Type 0 where
  pub begins : extent.from ≡ from
  pub holds : extent.piece ≡ piece_at e bytes from
  pub some : from < extent.end
  pub within : extent.end ≤ sectors
  pub together : (number : ℕ) → from < number → number < extent.end
      → GoesWith e bytes from number
  pub all : (extent.end ≡ sectors) ⊎ (GoesWith e bytes from extent.end → ⊥)
