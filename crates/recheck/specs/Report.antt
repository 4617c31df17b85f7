-- The report of a check over the whole content, block by block in ascending order.
use Rattle.std.specs.Prelude.{ℕ, Bool, true, ◌&&◌, ◌==◌, nat_lt, List, [], ◌∷◌, filter, length, take, if◌then◌else◌}
use Rattle.fc_base.specs.declared.limits.TheConstants.{MAX_LISTED}
use Rattle.fc_base.specs.Ascending.{is_block}
use Rattle.fc_base.specs.declared.report.ReportParts.{ReportParts}
use Rattle.fc_base.specs.declared.report.ReportEnd.{ReportEnd}
use Rattle.fc_base.specs.declared.report.ReportEnd.TheVariants.{Whole, AtFault, ReadFault}
use Rattle.recheck.specs.Expected.{Expected}
use Rattle.recheck.specs.Faults.{is_checked, is_fault}

-- How many of some blocks are checked, how many of them are faulty, and the first 32 that are.
pub record Tally : Type 0 where
  pub checked : ℕ
  pub faults : ℕ
  pub first : List ℕ

-- The tally of these blocks.
abbrev pub tally : Expected → (ℕ → List ℕ) → List ℕ → Tally
tally e held blocks = record {
  checked = length (filter (is_checked e) blocks);
  faults = length (filter (is_fault e held) blocks);
  first = take MAX_LISTED (filter (is_fault e held) blocks);
}

-- The numbers up to and with the first that passes, or all where none does.
abbrev pub up_to_first : (ℕ → Bool) → List ℕ → List ℕ
up_to_first test [] = []
up_to_first test (n ∷ ns) = if test n then n ∷ [] else n ∷ up_to_first test ns

-- The blocks that are looked at: where a fault is fatal, none behind the first fault.
abbrev pub looked_at : Bool → Expected → (ℕ → List ℕ) → List ℕ → List ℕ
looked_at fatal e held blocks = if fatal then up_to_first (is_fault e held) blocks else blocks

-- A check ends at a fault where that is fatal.
abbrev pub end_of : Bool → Tally → ReportEnd
end_of fatal found = if fatal && nat_lt 0 found.faults then AtFault else Whole

-- The report that tells this tally and this end.
abbrev pub report_with : Tally → ReportEnd → ReportParts
report_with found end =
    record { checked = found.checked; faults = found.faults; first = found.first; end = end }

-- The report of a tally.
abbrev pub report_of : Bool → Tally → ReportParts
report_of fatal found = report_with found (end_of fatal found)

-- The report of these blocks.
abbrev pub report : Bool → Expected → (ℕ → List ℕ) → List ℕ → ReportParts
report fatal e held blocks = report_of fatal (tally e held (looked_at fatal e held blocks))

-- An end that a report of this tally may tell: a check ends at its only fault, and a block that
-- could not be read is one.
abbrev pub can_end : Tally → ReportEnd → Bool
can_end found Whole = true
can_end found AtFault = found.faults == 1
can_end found (ReadFault block) = is_block block
