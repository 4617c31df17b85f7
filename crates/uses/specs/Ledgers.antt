-- Behind two runs and the check between them block 0 holds what the second run wrote, and block 1,
-- which the check had found to hold what the first run wrote, holds zeros: an instance of the law
-- of `targets` of checks by a ledger.
use Rattle.std.specs.Prelude.{◌≡◌, ℕ, List, [], ◌∷◌, length, map, replicate, Some}
use Rattle.std.specs.List.{range_with_len}
use Rattle.fc_base.specs.declared.report.ReportEnd.TheVariants.{Whole}
use Rattle.ledger.specs.Examples.{two_runs, eights_and_zeros}
use Rattle.ledger.specs.Places.{after_check}
use Rattle.targets.specs.Ledgers.{Cell, place_behind, report_of_cells}
use Rattle.targets.specs.LedgerLaws.{AreRead}

-- Both blocks, as they came, whatever is found at each.
abbrev pub cells : (first second : Cell) → List Cell
cells first second =
    record first { block = 0; bytes = Some (replicate 512 8) }
    ∷ record second { block = 1; bytes = Some (replicate 512 0) } ∷ []

-- Both were read, and block 1 is reported; the new ledger is the one behind that check.
pub record ALossAtRestIsReported (first second : Cell) : Type 0 where
  pub blocks : map (λ c. c.block) (cells first second) ≡ range_with_len 0 (length two_runs.entries)
  pub read : AreRead eights_and_zeros (cells first second)
  pub report : report_of_cells two_runs (cells first second)
      ≡ record { checked = 2; faults = 1; first = 1 ∷ []; end = Whole }
  pub behind : place_behind two_runs (cells first second) ≡ after_check eights_and_zeros two_runs
