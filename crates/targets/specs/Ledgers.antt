-- A check of a target by its ledger: what is found at each of its blocks, and what is answered.
use Rattle.std.specs.Prelude.{◌≡◌, ◌⊎◌, ◌<◌, ℕ, Bool, true, false, not, ◌&&◌, List, [], ◌∷◌, ◌++◌, filter, map, length, take, Option, Some, None, is_some, IsTrue, IfSome, codes, decimal, if◌then◌else◌}
use Rattle.std.specs.List.{flat_map, list_any, range_with_len}
use Rattle.std.specs.Str.{bytes_eq}
use Rattle.fc_base.specs.declared.fault.Fault.{Fault}
use Rattle.fc_base.specs.declared.fault.Fault.TheVariants as plain_faults
use Rattle.fc_base.specs.declared.limits.TheConstants.{MAX_LISTED}
use Rattle.fc_base.specs.declared.report.ReportParts.{ReportParts}
use Rattle.fc_base.specs.declared.report.ReportEnd.TheVariants.{Whole, ReadFault}
use Rattle.diagnosis.specs.Contents.{Contains}
use Rattle.diagnosis.specs.Kinds.{BlockHolds}
use Rattle.ledger.specs.declared.entry.RunWrite.{RunWrite}
use Rattle.ledger.specs.Entries.{asks, is_held, verdict}
use Rattle.ledger.specs.Faults.{number_of, name_of}
use Rattle.ledger.specs.Places as places
use Rattle.ledger.specs.Places.{Place, entry_of}
use Rattle.ledger.specs.Spelling.{spelling}
use Rattle.program_io.specs.Words.{with_line_feed, Finishes}
use Rattle.program_io.specs.Refusals.{plain, refusal_line}
use Rattle.recheck.specs.declared.verdict.Verdict.TheVariants as verdicts
use Rattle.recheck.specs.Expected.{Expected}
use Rattle.recheck.specs.Faults.{is_checked}
use Rattle.targets.specs.declared.command.Since.{Since}
use Rattle.targets.specs.declared.command.Since.TheVariants as sinces
use Rattle.targets.specs.declared.ledger_found.Found.{Found}
use Rattle.targets.specs.declared.ledger_found.Found.TheVariants as founds
use Rattle.targets.specs.declared.ledger_sums.Sums.{Sums}
use Rattle.targets.specs.declared.ledger_refusal.LedgerRefusal.{LedgerRefusal}
use Rattle.targets.specs.declared.ledger_refusal.LedgerRefusal.TheVariants as refusals
use Rattle.targets.specs.declared.block_verdict.BlockVerdict.TheVariants as tolds
use Rattle.targets.specs.Jobs.{Refuses}
use Rattle.targets.specs.Reports.{report_line, report_status}
use Rattle.targets.specs.MapInput.{block_code, IsPart, NoBlock}
use Rattle.targets.specs.MapKinds.{kinds_by, kinds_words, sum_words}
use Rattle.targets.specs.MapLines.{unchecked_among}
use Rattle.targets.specs.LedgerLines.{found_line, found_word}

-- A block of a target: its bytes, or none where it could not be read, and what is found there.
pub record Cell : Type 0 where
  pub block : ℕ
  pub bytes : Option (List ℕ)
  pub found : Found

-- The run behind which a target is checked has completed a write to the block. Of a run whose state
-- was lost that isn't known.
abbrev pub has_written : Since → Expected → ℕ → Bool
has_written sinces.Run e block = is_checked e block
has_written sinces.LostRun e block = false
has_written sinces.Rest e block = false

-- A block was read, and this is found by its entry.
abbrev pub IsRead : List RunWrite → ℕ → Option (List ℕ) → Bool → (List ℕ → Type 0) → Type 0
IsRead entry block bytes is_good Holds =
    (held : List ℕ) × (bytes ≡ Some held)
    × (verdict block held entry ≡ (if is_good then verdicts.Good else verdicts.Fault)) × Holds held

-- What is found at a block is so, by its entry. Where that asks for nothing it may hold anything;
-- else it holds a write of its entry; or it could not be read, or holds none of them: then the run
-- has completed a write to it, and it is told what a map tells; or the block was at rest, and it is
-- told what it holds.
abbrev pub IsFound : Since → Expected → List RunWrite → ℕ → Option (List ℕ) → Found → Type 0
IsFound since e entry block bytes founds.Unchecked = asks entry ≡ false
IsFound since e entry block bytes founds.Sound =
    IsRead entry block bytes true (λ held. Unit {0})
IsFound since e entry block bytes (founds.Written tolds.Unread) =
    IsTrue (asks entry) × IsTrue (has_written since e block) × (bytes ≡ None)
IsFound since e entry block bytes (founds.Written (tolds.Fault kind)) =
    IsTrue (has_written since e block)
    × IsRead entry block bytes false (λ held. BlockHolds e block held kind)
IsFound since e entry block bytes (founds.Written told) = ⊥
IsFound since e entry block bytes founds.RestUnread =
    IsTrue (asks entry) × (has_written since e block ≡ false) × (bytes ≡ None)
IsFound since e entry block bytes (founds.Rest content) =
    (has_written since e block ≡ false)
    × IsRead entry block bytes false (λ held. Contains e held content)

-- What is found at each of these blocks is so, by its entry, and those that were read are whole.
abbrev pub AreFound : Since → Expected → Place → List Cell → Type 0
AreFound since e place [] = Unit {0}
AreFound since e place (cell ∷ cells) =
    (IsFound since e (entry_of place cell.block) cell.block cell.bytes cell.found
    × IfSome cell.bytes (λ bytes. length bytes ≡ e.job.bs))
    × AreFound since e place cells

-- The first n blocks have come, and this is found at each.
pub record HasCome (since : Since) (e : Expected) (place : Place) (n : ℕ)
    (cells : List Cell) : Type 0 where
  pub blocks : map (λ c. c.block) cells ≡ range_with_len 0 n
  pub found : AreFound since e place cells

-- A block was read whose entry asks for something.
abbrev pub is_asked : Place → Cell → Bool
is_asked place cell = is_some cell.bytes && asks (entry_of place cell.block)

-- A block was read, and it holds nothing that its entry asks for.
abbrev pub is_lost : Place → Cell → Bool
is_lost place cell = by cell.bytes
  where
    by : Option (List ℕ) → Bool
    by None = false
    by (Some bytes) =
        asks (entry_of place cell.block)
        && not (list_any (is_held cell.block bytes) (entry_of place cell.block))

-- A block could not be read whose entry asks for something.
abbrev pub is_unread : Place → Cell → Bool
is_unread place cell = asks (entry_of place cell.block) && not (is_some cell.bytes)

-- The report of these blocks: a block that could not be read is none of them.
abbrev pub report_of_cells : Place → List Cell → ReportParts
report_of_cells place cells = record {
  checked = length (filter (is_asked place) cells);
  faults = length (filter (is_lost place) cells);
  first = take MAX_LISTED (map (λ c. c.block) (filter (is_lost place) cells));
  end = Whole;
}

-- The entry of a block behind the check: those of its writes that it was found to hold. One that
-- could not be read keeps its entry.
abbrev pub entry_behind : Place → Cell → List RunWrite
entry_behind place cell = by cell.bytes
  where
    by : Option (List ℕ) → List RunWrite
    by None = entry_of place cell.block
    by (Some bytes) = filter (is_held cell.block bytes) (entry_of place cell.block)

-- What is known of the place behind the check of all its blocks.
abbrev pub place_behind : Place → List Cell → Place
place_behind place cells = record place { entries = map (entry_behind place) cells }

-- The lines of these blocks.
abbrev pub line_of : Expected → Place → Cell → List ℕ
line_of e place cell = found_line e (entry_of place cell.block) cell.block cell.bytes cell.found

abbrev pub lines_of : Expected → Place → List Cell → List ℕ
lines_of e place cells = flat_map (line_of e place) cells

-- How many of these blocks are told by this word, and the sums of all words.
abbrev pub lines_with : List Cell → List ℕ → ℕ
lines_with cells word = length (filter (λ c. bytes_eq (found_word c.found) word) cells)

abbrev pub sums_of : List Cell → Sums
sums_of cells =
    record { kinds = kinds_by (lines_with cells); at_rest = lines_with cells (codes "at-rest") }

-- The last line: the report's, and behind it how many lines there are of each kind.
abbrev pub last_line : ReportParts → Sums → List ℕ
last_line r sums =
    with_line_feed
    (report_line r ++ (kinds_words sums.kinds ++ sum_words (codes "at-rest") sums.at_rest))

-- A ledger behind its length.
abbrev pub ledger_part : List ℕ → List ℕ
ledger_part bytes = codes "ledger " ++ (decimal (length bytes) ++ (codes "\n" ++ bytes))

-- The line of the blocks of which nothing is asked.
abbrev pub unasked_line : Place → List ℕ
unasked_line place = unchecked_among (places.is_checked place) (length place.entries)

-- The status is 2 where a block could not be read that is asked for, and else that of the report.
abbrev pub ledger_status : Place → List Cell → ℕ
ledger_status place cells =
    if list_any (is_unread place) cells then 2 else report_status (report_of_cells place cells)

-- The whole region has come: its lines, its report and the ledger behind the check are written.
pub record ChecksWhole (since : Since) (e : Expected) (place : Place) (target : List ℕ)
    (old new : Option (List ℕ)) (status : ℕ) : Type 0 where
  pub cells : List Cell
  pub come : HasCome since e place e.job.blocks cells
  pub rest : List ℕ
  pub input : target ≡ flat_map (λ c. block_code c.bytes) cells ++ rest
  pub finishes : Finishes
      (lines_of e place cells ++ (unasked_line place
      ++ (last_line (report_of_cells place cells) (sums_of cells)
      ++ ledger_part (spelling (place_behind place cells))))) (ledger_status place cells) old new status

-- The input ends in block n: the lines and the report are those of the blocks before it, the report
-- says which it is, and there is no new ledger.
pub record ChecksCut (since : Since) (e : Expected) (place : Place) (target : List ℕ)
    (old new : Option (List ℕ)) (status : ℕ) : Type 0 where
  pub cells : List Cell
  pub block : ℕ
  pub before : block < e.job.blocks
  pub come : HasCome since e place block cells
  pub rest : List ℕ
  pub input : target ≡ flat_map (λ c. block_code c.bytes) cells ++ rest
  pub ends : IsPart e.job.bs rest
  pub finishes : Finishes
      (lines_of e place cells ++ (unasked_line place
      ++ last_line (record (report_of_cells place cells) { end = ReadFault block }) (sums_of cells))) 2
      old new status

-- Why there is no answer behind so many blocks: no further one comes, or all have come, and memory
-- has run out.
abbrev pub Stops : Fault → ℕ → ℕ → List ℕ → Type 0
Stops fault block blocks rest =
    ((left : Option (List ℕ)) × (block < blocks) × NoBlock fault (Some rest) left)
    ⊎ ((block ≡ blocks) × (fault ≡ plain_faults.NoMemory))

-- The lines of the blocks that have come are written, and then why there is no more.
pub record ChecksRefused (since : Since) (e : Expected) (place : Place) (target : List ℕ)
    (old new : Option (List ℕ)) (status : ℕ) : Type 0 where
  pub cells : List Cell
  pub block : ℕ
  pub come : HasCome since e place block cells
  pub rest : List ℕ
  pub input : target ≡ flat_map (λ c. block_code c.bytes) cells ++ rest
  pub fault : Fault
  pub stops : Stops fault block e.job.blocks rest
  pub finishes : Finishes (lines_of e place cells ++ with_line_feed (refusal_line (plain fault))) 2 old
      new status

-- What is answered of a target.
abbrev pub ChecksTarget : Since → Expected → Place → List ℕ → Option (List ℕ) → Option (List ℕ)
    → ℕ → Type 0
ChecksTarget since e place target old new status =
    ChecksWhole since e place target old new status
    ⊎ (ChecksCut since e place target old new status
    ⊎ ChecksRefused since e place target old new status)

-- The line of what refuses the bytes of a ledger.
abbrev pub refusal_of_ledger : ℕ → List ℕ → List ℕ
refusal_of_ledger number name =
    codes "refused " ++ (decimal number ++ (codes " " ++ (name ++ codes "\n")))

-- The one line of a refusal is written, and the status is 2.
abbrev pub RefusesBy : LedgerRefusal → Option (List ℕ) → Option (List ℕ) → ℕ → Type 0
RefusesBy (refusals.Printed refusal) old new status = Refuses refusal old new status
RefusesBy (refusals.OfLedger fault) old new status =
    Finishes (refusal_of_ledger (number_of fault) (name_of fault)) 2 old new status
