-- Why a check by a ledger needs to read no other blocks than those that are told, and a map none but
-- those that are checked.
use Rattle.std.specs.Prelude.{◌≡◌, ◌<◌, ℕ, ◌/◌, ◌%◌, List, length, map, Option, None, cond, slice_index, if◌then◌else◌}
use Rattle.std.specs.Int.{bit_at}
use Rattle.recheck.specs.Expected.{Expected}
use Rattle.recheck.specs.Faults as checks
use Rattle.ledger.specs.Places.{Place, after_run, empty, is_checked}
use Rattle.fc_base.specs.declared.report.ReportParts.{ReportParts}
use Rattle.targets.specs.declared.command.Since.{Since}
use Rattle.targets.specs.Ledgers.{Cell, HasCome, ledger_status, lines_of, place_behind, report_of_cells, sums_of}
use Rattle.targets.specs.Maps as maps
use Rattle.targets.specs.Units.{report_by}
use Rattle.targets.specs.Wanted.{wanted_bytes}

-- Digit b % 8 of byte b / 8 says whether the entry of block b asks for something.
abbrev pub DigitsSayWhatIsAsked : Type 0
DigitsSayWhatIsAsked =
    (place : Place) (block : ℕ) → block / 8 < length (wanted_bytes place) →
    bit_at (slice_index (wanted_bytes place) (block / 8)) (block % 8)
    ≡ cond (is_checked place block) 1 0

-- Behind one run over a place of which nothing was asked, those blocks are asked for that the check of
-- the run by its state looks at.
abbrev pub OneRunAsksForItsBlocks : Type 0
OneRunAsksForItsBlocks =
    (e : Expected) (bs blocks block : ℕ) → block < blocks →
    is_checked (after_run e (empty bs blocks)) block ≡ checks.is_checked e block

-- A block as it comes where none is read but those that are asked for.
abbrev pub as_asked : Place → Cell → Cell
as_asked place cell =
    record cell { bytes = if is_checked place cell.block then cell.bytes else None }

-- Where the first n blocks have come, all that a check by a ledger writes of them is the same where
-- none was read but those that are asked for.
pub record AskedSuffice (since : Since) (e : Expected) (place : Place) (n : ℕ)
    (cells : List Cell) : Type 0 where
  pub come : HasCome since e place n (map (as_asked place) cells)
  pub lines : lines_of e place (map (as_asked place) cells) ≡ lines_of e place cells
  pub report : report_of_cells place (map (as_asked place) cells) ≡ report_of_cells place cells
  pub sums : sums_of (map (as_asked place) cells) ≡ sums_of cells
  pub status : ledger_status place (map (as_asked place) cells) ≡ ledger_status place cells
  pub behind : place_behind place (map (as_asked place) cells) ≡ place_behind place cells

abbrev pub AskedBlocksSuffice : Type 0
AskedBlocksSuffice =
    (since : Since) (e : Expected) (place : Place) (n : ℕ) (cells : List Cell) →
    HasCome since e place n cells → AskedSuffice since e place n cells

-- A block as it comes for a map where none is read but those that are checked.
abbrev pub as_checked : Expected → maps.Cell → maps.Cell
as_checked e cell =
    record cell { bytes = if checks.is_checked e cell.block then cell.bytes else None }

-- Where the first n blocks have come, all that a map writes of them is the same where none was read
-- but those that are checked.
pub record CheckedSuffice (unit : Option ℕ) (e : Expected) (n : ℕ)
    (cells : List maps.Cell) : Type 0 where
  pub come : maps.HasCome unit e n (map (as_checked e) cells)
  pub lines : maps.lines_of unit e (map (as_checked e) cells) ≡ maps.lines_of unit e cells
  pub report : (held : ℕ → List ℕ)
      → report_by unit e held (maps.read_blocks (map (as_checked e) cells))
      ≡ report_by unit e held (maps.read_blocks cells)
  pub kinds : maps.kinds_of unit e (map (as_checked e) cells) ≡ maps.kinds_of unit e cells
  pub status : (r : ReportParts)
      → maps.map_status e (map (as_checked e) cells) r ≡ maps.map_status e cells r

abbrev pub CheckedBlocksSuffice : Type 0
CheckedBlocksSuffice =
    (unit : Option ℕ) (e : Expected) (n : ℕ) (cells : List maps.Cell) →
    maps.HasCome unit e n cells → CheckedSuffice unit e n cells
