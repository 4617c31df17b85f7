-- Blocks that are sound unit by unit, for a target that writes less than a block whole.
use Rattle.std.specs.Prelude.{◌≡◌, ℕ, ◌*◌, ◌/◌, ◌%◌, ◌==◌, Bool, true, not, ◌&&◌, nat_lt, List, filter, length, take, drop, Option, Some, None, IsTrue}
use Rattle.std.specs.List.{list_all, list_any, range_with_len}
use Rattle.std.specs.Str.{bytes_eq}
use Rattle.fc_base.specs.declared.limits.TheConstants.{MAX_LISTED}
use Rattle.fc_base.specs.declared.report.ReportParts.{ReportParts}
use Rattle.fc_base.specs.declared.report.ReportEnd.TheVariants.{Whole}
use Rattle.fc_base.specs.JobParts.{is_within_limits}
use Rattle.write_order.specs.Stamps.{written_bytes}
use Rattle.recheck.specs.Expected.{Expected}
use Rattle.recheck.specs.Faults.{expected_writes, is_checked, is_expected}

-- A unit fits blocks of this size: it is a multiple of 512 bytes, and divides a block.
abbrev pub fits_blocks : ℕ → ℕ → Bool
fits_blocks unit size = nat_lt 0 unit && (unit % 512 == 0 && size % unit == 0)

-- Without a unit nothing has to fit.
abbrev pub unit_fits : Option ℕ → ℕ → Bool
unit_fits None size = true
unit_fits (Some unit) size = fits_blocks unit size

-- The unit of this number in a block.
abbrev pub unit_in : ℕ → List ℕ → ℕ → List ℕ
unit_in unit bytes number = take unit (drop (number * unit) bytes)

-- A unit of these bytes is that of what write k puts into the block.
abbrev pub is_unit_of : Expected → ℕ → ℕ → List ℕ → ℕ → ℕ → Bool
is_unit_of e unit block bytes number k =
    bytes_eq (unit_in unit bytes number) (unit_in unit (written_bytes e.key e.job k block) number)

-- A unit is sound where it is that of an expected write: the last completed one, or one in flight
-- to the block.
abbrev pub is_sound_unit : Expected → ℕ → ℕ → List ℕ → ℕ → Bool
is_sound_unit e unit block bytes number =
    list_any (is_unit_of e unit block bytes number) (expected_writes e block)

-- Each unit is sound.
abbrev pub has_sound_units : Expected → ℕ → ℕ → List ℕ → Bool
has_sound_units e unit block bytes =
    list_all (is_sound_unit e unit block bytes) (range_with_len 0 (e.job.bs / unit))

-- A block is sound by units, or without one where it holds an expected write whole.
abbrev pub is_sound_by : Option ℕ → Expected → ℕ → List ℕ → Bool
is_sound_by None e block bytes = is_expected e block bytes
is_sound_by (Some unit) e block bytes = has_sound_units e unit block bytes

-- A fault is a checked block that isn't sound.
abbrev pub is_fault_by : Option ℕ → Expected → (ℕ → List ℕ) → ℕ → Bool
is_fault_by unit e held block = is_checked e block && not (is_sound_by unit e block (held block))

-- The report of these blocks. Without a unit it is that of the exact check.
abbrev pub report_by : Option ℕ → Expected → (ℕ → List ℕ) → List ℕ → ReportParts
report_by unit e held blocks = record {
  checked = length (filter (is_checked e) blocks);
  faults = length (filter (is_fault_by unit e held) blocks);
  first = take MAX_LISTED (filter (is_fault_by unit e held) blocks);
  end = Whole;
}

-- A block that holds an expected write has sound units, whatever the unit is: so none is a fault by
-- units that isn't one of the check.
abbrev pub SoundBlocksHaveSoundUnits : Type 0
SoundBlocksHaveSoundUnits =
    (e : Expected) (unit block : ℕ) (bytes : List ℕ) → IsTrue (is_expected e block bytes) →
    IsTrue (has_sound_units e unit block bytes)

-- Where the unit is the block, it is sound by units just where it holds an expected write.
abbrev pub BlocksAreUnits : Type 0
BlocksAreUnits =
    (e : Expected) → IsTrue (is_within_limits e.job) → (block : ℕ) (bytes : List ℕ) →
    length bytes ≡ e.job.bs →
    has_sound_units e e.job.bs block bytes ≡ is_expected e block bytes
