-- A map of a target: what is told of each of its blocks. `unit` is what the target writes whole, or
-- none where that is a block.
use Rattle.std.specs.Prelude.{◌≡◌, ◌⊎◌, ◌<◌, ℕ, Bool, false, not, ◌&&◌, List, [], ◌∷◌, ◌++◌, filter, map, length, Option, Some, None, is_some, IsTrue, IfSome, if◌then◌else◌}
use Rattle.std.specs.List.{flat_map, list_any, range_with_len}
use Rattle.std.specs.Str.{bytes_eq}
use Rattle.fc_base.specs.declared.fault.Fault.{Fault}
use Rattle.fc_base.specs.declared.report.ReportParts.{ReportParts}
use Rattle.fc_base.specs.declared.report.ReportEnd.TheVariants.{ReadFault}
use Rattle.diagnosis.specs.Kinds.{BlockHolds}
use Rattle.program_io.specs.Words.{with_line_feed, Finishes}
use Rattle.program_io.specs.Refusals.{plain, refusal_line}
use Rattle.recheck.specs.Expected.{Expected}
use Rattle.recheck.specs.Faults.{is_checked}
use Rattle.targets.specs.declared.kind_counts.KindCounts.{KindCounts}
use Rattle.targets.specs.declared.block_verdict.BlockVerdict.{BlockVerdict}
use Rattle.targets.specs.declared.block_verdict.BlockVerdict.TheVariants as tolds
use Rattle.targets.specs.Reports.{report_line, report_status}
use Rattle.targets.specs.MapInput.{block_code, IsPart, NoBlock}
use Rattle.targets.specs.Units.{is_sound_by, report_by}
use Rattle.targets.specs.MapKinds.{kinds_by, kinds_words}
use Rattle.targets.specs.MapLines.{kind_word, line_words, unchecked_line}

-- A block of a target: its bytes, or none where it could not be read, and what is told of it.
pub record Cell : Type 0 where
  pub block : ℕ
  pub bytes : Option (List ℕ)
  pub told : BlockVerdict

-- What is told of a block is so. One that isn't checked may hold anything; of a checked one it is
-- told that it could not be read, or that it is sound, or else what it holds.
abbrev pub Tells : Option ℕ → Expected → ℕ → Option (List ℕ) → BlockVerdict → Type 0
Tells unit e block bytes tolds.Unchecked = is_checked e block ≡ false
Tells unit e block bytes tolds.Unread = IsTrue (is_checked e block) × (bytes ≡ None)
Tells unit e block bytes tolds.Sound =
    IsTrue (is_checked e block)
    × ((held : List ℕ) × (bytes ≡ Some held) × IsTrue (is_sound_by unit e block held))
Tells unit e block bytes (tolds.Fault kind) =
    IsTrue (is_checked e block)
    × ((held : List ℕ) × (bytes ≡ Some held) × (is_sound_by unit e block held ≡ false)
    × BlockHolds e block held kind)

-- What is told of each of these blocks is so, and those that were read are whole.
abbrev pub AreTold : Option ℕ → Expected → List Cell → Type 0
AreTold unit e [] = Unit {0}
AreTold unit e (cell ∷ cells) =
    (Tells unit e cell.block cell.bytes cell.told × IfSome cell.bytes (λ bytes. length bytes ≡ e.job.bs))
    × AreTold unit e cells

-- These blocks hold what the content does, where they were read.
abbrev pub AreOf : (ℕ → List ℕ) → List Cell → Type 0
AreOf held [] = Unit {0}
AreOf held (cell ∷ cells) = IfSome cell.bytes (λ bytes. held cell.block ≡ bytes) × AreOf held cells

-- The numbers of the blocks that were read.
abbrev pub read_blocks : List Cell → List ℕ
read_blocks cells = map (λ c. c.block) (filter (λ c. is_some c.bytes) cells)

-- A block was read, and is sound.
abbrev pub is_sound : Option ℕ → Expected → Cell → Bool
is_sound unit e cell = by cell.bytes
  where
    by : Option (List ℕ) → Bool
    by None = false
    by (Some bytes) = is_sound_by unit e cell.block bytes

-- A block has a line where it is checked and isn't sound: it is a fault, or could not be read.
abbrev pub has_line : Option ℕ → Expected → Cell → Bool
has_line unit e cell = is_checked e cell.block && not (is_sound unit e cell)

-- The bytes of a block, or none where it could not be read: the line of such a one tells of none.
abbrev pub bytes_in : Option (List ℕ) → List ℕ
bytes_in None = []
bytes_in (Some bytes) = bytes

-- The lines of these blocks.
abbrev pub lines_of : Option ℕ → Expected → List Cell → List ℕ
lines_of unit e cells =
    flat_map (λ c. line_words e c.block (bytes_in c.bytes) c.told) (filter (has_line unit e) cells)

-- How many of these blocks have a line of the kind with this word.
abbrev pub lines_with : Option ℕ → Expected → List Cell → List ℕ → ℕ
lines_with unit e cells word =
    length (filter (λ c. has_line unit e c && bytes_eq (kind_word c.told) word) cells)

-- How many have a line of each kind.
abbrev pub kinds_of : Option ℕ → Expected → List Cell → KindCounts
kinds_of unit e cells = kinds_by (lines_with unit e cells)

-- A checked block could not be read.
abbrev pub is_unread : Expected → Cell → Bool
is_unread e cell = is_checked e cell.block && not (is_some cell.bytes)

-- The first n blocks have come, and each is told.
pub record HasCome (unit : Option ℕ) (e : Expected) (n : ℕ) (cells : List Cell) : Type 0 where
  pub blocks : map (λ c. c.block) cells ≡ range_with_len 0 n
  pub told : AreTold unit e cells

-- The report of the blocks that were read, whatever content they are of.
abbrev pub Reports : Option ℕ → Expected → List Cell → ReportParts → Type 0
Reports unit e cells r =
    (held : ℕ → List ℕ) → AreOf held cells → r ≡ report_by unit e held (read_blocks cells)

-- The last line: the report's, and behind it how many lines there are of each kind.
abbrev pub last_line : ReportParts → KindCounts → List ℕ
last_line r kinds = with_line_feed (report_line r ++ kinds_words kinds)

-- What is written of these blocks: their lines, the line that tells which blocks of the region
-- aren't checked, and the last.
abbrev pub map_text : Option ℕ → Expected → List Cell → ReportParts → List ℕ
map_text unit e cells r =
    lines_of unit e cells ++ (unchecked_line e ++ last_line r (kinds_of unit e cells))

-- The status is 2 where a checked block could not be read, and else that of the report.
abbrev pub map_status : Expected → List Cell → ReportParts → ℕ
map_status e cells r = if list_any (is_unread e) cells then 2 else report_status r

-- The whole region has come: its lines and its report are written.
pub record MapsWhole (unit : Option ℕ) (e : Expected) (target : List ℕ)
    (old new : Option (List ℕ)) (status : ℕ) : Type 0 where
  pub cells : List Cell
  pub come : HasCome unit e e.job.blocks cells
  pub rest : List ℕ
  pub input : target ≡ flat_map (λ c. block_code c.bytes) cells ++ rest
  pub report : ReportParts
  pub reports : Reports unit e cells report
  pub finishes : Finishes (map_text unit e cells report) (map_status e cells report) old new status

-- The input ends in block n: the lines and the report are those of the blocks before it, and the
-- report says which it is.
pub record MapsCut (unit : Option ℕ) (e : Expected) (target : List ℕ)
    (old new : Option (List ℕ)) (status : ℕ) : Type 0 where
  pub cells : List Cell
  pub block : ℕ
  pub before : block < e.job.blocks
  pub come : HasCome unit e block cells
  pub rest : List ℕ
  pub input : target ≡ flat_map (λ c. block_code c.bytes) cells ++ rest
  pub ends : IsPart e.job.bs rest
  pub report : ReportParts
  pub reports : Reports unit e cells report
  pub finishes : Finishes (map_text unit e cells (record report { end = ReadFault block })) 2 old new
      status

-- No block comes behind these: their lines are written, and then why.
pub record MapsRefused (unit : Option ℕ) (e : Expected) (target : List ℕ)
    (old new : Option (List ℕ)) (status : ℕ) : Type 0 where
  pub cells : List Cell
  pub block : ℕ
  pub before : block < e.job.blocks
  pub come : HasCome unit e block cells
  pub rest : List ℕ
  pub input : target ≡ flat_map (λ c. block_code c.bytes) cells ++ rest
  pub fault : Fault
  pub left : Option (List ℕ)
  pub none : NoBlock fault (Some rest) left
  pub finishes : Finishes (lines_of unit e cells ++ with_line_feed (refusal_line (plain fault))) 2 old
      new status

-- What is answered of a target.
abbrev pub MapsTarget : Option ℕ → Expected → List ℕ → Option (List ℕ) → Option (List ℕ) → ℕ
    → Type 0
MapsTarget unit e target old new status =
    MapsWhole unit e target old new status
    ⊎ (MapsCut unit e target old new status ⊎ MapsRefused unit e target old new status)
