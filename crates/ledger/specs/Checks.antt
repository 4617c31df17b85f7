-- A check by a ledger under way.
use Rattle.std.specs.Prelude.{◌≡◌, ◌≤◌, ℕ, ◌+◌, Bool, true, false, List, filter, length, take, map, nat_lt, if◌then◌else◌}
use Rattle.std.specs.List.{range_with_len}
use Rattle.fc_base.specs.declared.limits.TheConstants.{MAX_LISTED}
use Rattle.fc_base.specs.declared.report.ReportParts.{ReportParts}
use Rattle.fc_base.specs.declared.report.ReportEnd.{ReportEnd}
use Rattle.fc_base.specs.declared.report.ReportEnd.TheVariants.{Whole, AtFault, ReadFault}
use Rattle.fc_base.specs.Ascending.{is_block}
use Rattle.recheck.specs.Report.{Tally, report_with}
use Rattle.recheck.specs.Check.{nothing, with_verdict}
use Rattle.ledger.specs.Entries.{behind_check}
use Rattle.ledger.specs.Places.{Place, entry_of, blocks_of, is_checked, is_lost, verdict_at, with_block_checked}

-- What is known of the place, the first block that may come next, and the tally of those that came.
pub record Check : Type 0 where
  pub place : Place
  pub next : ℕ
  pub found : Tally

-- A check at its start.
abbrev pub start : Place → Check
start place = record { place = place; next = 0; found = nothing }

-- The check once a block that holds these bytes came to it.
abbrev pub with_block_fed : Check → ℕ → List ℕ → Check
with_block_fed check block bytes = record {
  place = with_block_checked check.place block bytes;
  next = block + 1;
  found = with_verdict check.found block (verdict_at check.place block bytes);
}

-- The report of a tally.
abbrev pub report_of : Tally → ReportParts
report_of found = report_with found Whole

-- The report of a tally, where the check ended before a block that could not be read.
abbrev pub report_at : Tally → ℕ → ReportParts
report_at found block = report_with found (ReadFault block)

-- A check by a ledger ends so: with the last block, or before one that could not be read.
abbrev pub is_end : ReportEnd → Bool
is_end Whole = true
is_end (ReadFault block) = is_block block
is_end AtFault = false

-- What is known of a place once its first n blocks were checked, of which this was found.
abbrev pub checked_to : (ℕ → List ℕ) → ℕ → Place → Place
checked_to held n place = record place {
  entries = map
      (λ b. if nat_lt b n then behind_check held b (entry_of place b) else entry_of place b)
      (blocks_of place);
}

-- The tally of the first n blocks of a place.
abbrev pub tally_to : Place → (ℕ → List ℕ) → ℕ → Tally
tally_to place held n = record {
  checked = length (filter (is_checked place) (range_with_len 0 n));
  faults = length (filter (is_lost place held) (range_with_len 0 n));
  first = take MAX_LISTED (filter (is_lost place held) (range_with_len 0 n));
}

-- A check by what was known of a place has seen its first n blocks, of this content: each of them
-- that is wanted came to it, in their order.
pub record HasSeen (check : Check) (place : Place) (held : ℕ → List ℕ) (n : ℕ) : Type 0 where
  pub left : check.place ≡ checked_to held n place
  pub next : check.next ≤ n
  pub found : check.found ≡ tally_to place held n
