-- A check that a server's filter makes, by the blocks that come.
use Rattle.std.specs.Prelude.{◌≡◌, ◌⊎◌, ◌<◌, ◌≤◌, ◌+◌, ◌*◌, ◌/◌, ◌==◌, ℕ, zero, suc, Bool, true, false, List, [], ◌∷◌, take, drop, if◌then◌else◌}
use Rattle.std.specs.List.{range_with_len}
use Rattle.fc_base.specs.declared.report.ReportParts.{ReportParts}
use Rattle.fc_base.specs.declared.report.ReportEnd.TheVariants.{Whole, AtFault, ReadFault}
use Rattle.recheck.specs.Expected.{Expected}
use Rattle.recheck.specs.Faults.{is_checked}
use Rattle.recheck.specs.Report.{report}
use Rattle.filters.specs.declared.checking.TheConstants.{AT_ONCE}

-- A block that came, and its bytes.
pub record BlockBytes : Type 0 where
  pub block : ℕ
  pub bytes : List ℕ

-- A check under way: its boot and its attempt; what its blocks are checked against, and whether a
-- fault is fatal; the blocks that came, the newest first; and which are wanted, the first one and
-- how many.
pub record UnderWay : Type 0 where
  pub boot : ℕ
  pub attempt : ℕ
  pub expected : Expected
  pub fatal : Bool
  pub came : List BlockBytes
  pub first : ℕ
  pub count : ℕ

-- The block behind those that came.
abbrev pub next_block : List BlockBytes → ℕ
next_block [] = 0
next_block (c ∷ cs) = c.block + 1

-- The bytes of a block, where it came.
abbrev pub held_by : List BlockBytes → ℕ → List ℕ
held_by [] b = []
held_by (c ∷ cs) b = if c.block == b then c.bytes else held_by cs b

-- The report of the first n blocks of the region, by the bytes that came.
abbrev pub report_on : UnderWay → ℕ → ReportParts
report_on u n = report u.fatal u.expected (held_by u.came) (range_with_len 0 n)

-- The blocks that came, with this many behind them, the first of these being this one: their bytes
-- stand one behind the other.
abbrev pub came_with : ℕ → ℕ → List ℕ → ℕ → List BlockBytes → List BlockBytes
came_with first size bytes zero came = came
came_with first size bytes (suc n) came =
    record { block = first + n; bytes = take size (drop (n * size) bytes) }
    ∷ came_with first size bytes n came

-- A check to which so many of the blocks came that are wanted, the first ones.
abbrev pub with_blocks : UnderWay → ℕ → List ℕ → UnderWay
with_blocks u given bytes =
    record u { came = came_with u.first u.expected.job.bs bytes given u.came }

-- From this block on none is checked.
abbrev pub WantsNone : Expected → ℕ → Type 0
WantsNone e from = (b : ℕ) → from ≤ b → b < e.job.blocks → is_checked e b ≡ false

-- How many blocks are wanted at once, at the most: those of a mebibyte.
abbrev pub most_at_once : Expected → ℕ
most_at_once e = AT_ONCE / e.job.bs

-- From this block on, these are wanted: the first one that is checked, and with it all behind it
-- that are, one behind the other, but not more than are wanted at once.
pub record IsWanted (e : Expected) (from first count : ℕ) : Type 0 where
  pub behind : from ≤ first
  pub none_before : (b : ℕ) → from ≤ b → b < first → is_checked e b ≡ false
  pub some : 0 < count
  pub few : count ≤ most_at_once e
  pub within : first + count ≤ e.job.blocks
  pub checked : (b : ℕ) → first ≤ b → b < first + count → is_checked e b ≡ true
  pub all : (count ≡ most_at_once e)
      ⊎ ((first + count ≡ e.job.blocks) ⊎ (is_checked e (first + count) ≡ false))

-- A check is over, with this report, that of the whole region: no block is wanted any more, or a
-- fault has ended it.
pub record IsOver (u : UnderWay) (r : ReportParts) : Type 0 where
  pub report : r ≡ report_on u u.expected.job.blocks
  pub over : WantsNone u.expected (next_block u.came) ⊎ (r.end ≡ AtFault)

-- A check goes on by these blocks: they are wanted, and no fault has ended it.
pub record WantsMore (u : UnderWay) (first count : ℕ) : Type 0 where
  pub wanted : IsWanted u.expected (next_block u.came) first count
  pub unended : (report_on u first).end ≡ Whole

-- The report where this block couldn't be read: that of the blocks before it.
abbrev pub report_before : UnderWay → ℕ → ReportParts
report_before u b = record (report_on u b) { end = ReadFault b }
