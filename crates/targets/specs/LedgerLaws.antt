-- What a check by a ledger says of the place, in the words of the ledger.
use Rattle.std.specs.Prelude.{◌≡◌, ℕ, List, [], ◌∷◌, length, map, Some}
use Rattle.std.specs.List.{range_with_len}
use Rattle.ledger.specs.Places.{Place, after_check}
use Rattle.ledger.specs.Reports.{report}
use Rattle.targets.specs.Ledgers.{Cell, place_behind, report_of_cells}

-- These blocks were read, and hold what the content does.
abbrev pub AreRead : (ℕ → List ℕ) → List Cell → Type 0
AreRead held [] = Unit {0}
AreRead held (cell ∷ cells) = (cell.bytes ≡ Some (held cell.block)) × AreRead held cells

-- Where each block of the place was read, the report is that of the check of this content by the
-- ledger, and the new ledger is the one behind that check.
pub record WholeChecksAreTheLedgers (place : Place) (held : ℕ → List ℕ)
    (cells : List Cell) : Type 0 where
  pub report : report_of_cells place cells ≡ report place held
  pub behind : place_behind place cells ≡ after_check held place

abbrev pub WholeChecks : Type 0
WholeChecks =
    (place : Place) (held : ℕ → List ℕ) (cells : List Cell) →
    map (λ c. c.block) cells ≡ range_with_len 0 (length place.entries) → AreRead held cells →
    WholeChecksAreTheLedgers place held cells
