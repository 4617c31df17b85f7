-- A check by a ledger that needs to read one of two blocks, which can be followed by hand.
use Rattle.std.specs.Prelude.{◌≡◌, ℕ, List, [], ◌∷◌, map, None, Option, Some, replicate}
use Rattle.ledger.specs.Examples.{second_run}
use Rattle.ledger.specs.Places.{Place, after_run, empty}
use Rattle.targets.specs.declared.command.Since.TheVariants.{Run}
use Rattle.targets.specs.declared.ledger_found.Found.TheVariants.{Sound, Unchecked}
use Rattle.targets.specs.Ledgers.{Cell, HasCome}
use Rattle.targets.specs.Wanted.{wanted_bytes}
use Rattle.targets.specs.WantedLaws.{AskedSuffice, as_asked}

-- One run has written eights to the first of two blocks of which nothing was asked.
abbrev pub first_asked : Place
first_asked = after_run second_run (empty 512 2)

-- Block 0 holds its eights, and block 1 comes so.
abbrev pub two_cells : Option (List ℕ) → List Cell
two_cells bytes =
    record { block = 0; bytes = Some (replicate 512 8); found = Sound }
    ∷ record { block = 1; bytes = bytes; found = Unchecked } ∷ []

-- Block 1 holds zeros, and needn't be read.
pub record OneBlockSuffices : Type 0 where
  pub told : wanted_bytes first_asked ≡ 1 ∷ []
  pub come : HasCome Run second_run first_asked 2 (two_cells (Some (replicate 512 0)))
  pub as_asked_is : map (as_asked first_asked) (two_cells (Some (replicate 512 0))) ≡ two_cells None
  pub suffice : AskedSuffice Run second_run first_asked 2 (two_cells (Some (replicate 512 0)))
