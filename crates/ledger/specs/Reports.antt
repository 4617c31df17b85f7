-- The report of a check by a ledger, over all blocks of the place.
use Rattle.std.specs.Prelude.{ℕ, List, filter, length, take}
use Rattle.fc_base.specs.declared.limits.TheConstants.{MAX_LISTED}
use Rattle.fc_base.specs.declared.report.ReportParts.{ReportParts}
use Rattle.fc_base.specs.declared.report.ReportEnd.TheVariants.{Whole}
use Rattle.ledger.specs.Places.{Place, blocks_of, is_checked, is_lost}

-- How many blocks are checked, how many of them are lost, and the first 32 that are.
abbrev pub report : Place → (ℕ → List ℕ) → ReportParts
report place held = record {
  checked = length (filter (is_checked place) (blocks_of place));
  faults = length (filter (is_lost place held) (blocks_of place));
  first = take MAX_LISTED (filter (is_lost place held) (blocks_of place));
  end = Whole;
}
