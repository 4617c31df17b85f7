-- The check of a job's region by its bytes, one block behind the other.
use Rattle.std.specs.Prelude.{◌≡◌, ◌⊎◌, ◌<◌, ◌≤◌, ℕ, ◌*◌, ◌+◌, Bool, List, length, take, drop, Option, Result, Ok, Err}
use Rattle.std.specs.List.{range_with_len}
use Rattle.fc_base.specs.declared.numbers.Key.{Key}
use Rattle.fc_base.specs.declared.record.JobParts.{JobParts}
use Rattle.fc_base.specs.declared.fault.Fault.{Fault}
use Rattle.fc_base.specs.declared.fault.Fault.TheVariants as faults
use Rattle.fc_base.specs.declared.report.ReportParts.{ReportParts}
use Rattle.fc_base.specs.declared.report.ReportEnd.TheVariants.{Whole, AtFault, ReadFault}
use Rattle.verify_state.specs.State.{State}
use Rattle.recheck.specs.Expected.{Expected, expected_by}
use Rattle.recheck.specs.Report.{report}
use Rattle.recheck.specs.Check.{FitsIfAny}

-- The bytes of block b, where blocks of this size stand one behind the other.
abbrev pub block_in : List ℕ → ℕ → ℕ → List ℕ
block_in bytes size b = take size (drop (b * size) bytes)

-- The report of the first n blocks.
abbrev pub report_on : Expected → Bool → List ℕ → ℕ → ReportParts
report_on e fatal bytes n = report fatal e (block_in bytes e.job.bs) (range_with_len 0 n)

-- The report of the whole region: all of it is there, or the check has ended at a fault.
pub record IsWhole (e : Expected) (fatal : Bool) (bytes : List ℕ) (r : ReportParts) : Type 0 where
  pub report : r ≡ report_on e fatal bytes e.job.blocks
  pub there : (e.job.blocks * e.job.bs ≤ length bytes) ⊎ (r.end ≡ AtFault)

-- The bytes end before block n of the region does, and no fault before it has ended the check: the
-- report is that of the blocks before it, and says that this one could not be read.
pub record IsCut (e : Expected) (fatal : Bool) (bytes : List ℕ) (r : ReportParts)
    (n : ℕ) : Type 0 where
  pub block : n < e.job.blocks
  pub before : n * e.job.bs ≤ length bytes
  pub short : length bytes < (n + 1) * e.job.bs
  pub unended : (report_on e fatal bytes n).end ≡ Whole
  pub report : r ≡ record (report_on e fatal bytes n) { end = ReadFault n }

-- What a check of these bytes answers. It is refused by a state that doesn't fit, by a failed read,
-- and for want of memory.
abbrev pub Checks : Key → JobParts → Option State → Bool → List ℕ → Result ReportParts Fault
    → Type 0
Checks key job state fatal bytes (Ok r) =
    FitsIfAny state key job (Ok tt)
    × (IsWhole (expected_by key job state) fatal bytes r
    ⊎ ((n : ℕ) × IsCut (expected_by key job state) fatal bytes r n))
Checks key job state fatal bytes (Err faults.OtherKey) =
    FitsIfAny state key job (Err faults.OtherKey)
Checks key job state fatal bytes (Err faults.OtherJob) =
    FitsIfAny state key job (Err faults.OtherJob)
Checks key job state fatal bytes (Err faults.OtherPlace) =
    FitsIfAny state key job (Err faults.OtherPlace)
Checks key job state fatal bytes (Err faults.ReadError) = FitsIfAny state key job (Ok tt)
Checks key job state fatal bytes (Err faults.NoMemory) = Unit {0}
Checks key job state fatal bytes (Err fault) = ⊥
