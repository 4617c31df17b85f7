-- The check of a disk.
use Rattle.std.specs.Prelude.{◌≡◌, ◌⊎◌, ◌<◌, ℕ, Bool, List, Option, IsSome, IsNone, IsTrue, Result, Ok, Err}
use Rattle.std.specs.List.{range_with_len}
use Rattle.fc_base.specs.declared.numbers.Key.{Key}
use Rattle.fc_base.specs.declared.record.JobParts.{JobParts}
use Rattle.fc_base.specs.declared.fault.Fault.{Fault}
use Rattle.fc_base.specs.declared.fault.Fault.TheVariants as faults
use Rattle.fc_base.specs.declared.report.ReportParts.{ReportParts}
use Rattle.fc_base.specs.declared.report.ReportEnd.TheVariants.{Whole, ReadFault}
use Rattle.disk_model.specs.File.{File, block_bytes}
use Rattle.verify_state.specs.State.{State}
use Rattle.recheck.specs.Expected.{Expected, expected_by}
use Rattle.recheck.specs.Faults.{is_checked}
use Rattle.recheck.specs.Report.{report}
use Rattle.recheck.specs.Check.{FitsIfAny}

-- The bytes of each block that a file holds.
abbrev pub held_by : File → JobParts → ℕ → List ℕ
held_by file job block = block_bytes file.content job.bs block

-- The report of all blocks. Each checked block was read, for which the disk has to be on, and
-- nothing has changed.
pub record IsWhole (e : Expected) (fatal : Bool) (old new : File) (r : ReportParts) : Type 0 where
  pub report : r ≡ report fatal e (held_by old e.job) (range_with_len 0 e.job.blocks)
  pub power : 0 < r.checked → IsSome old.power
  pub file : new ≡ old

-- The report of the blocks before the first that could not be read. That is a checked one, and no
-- fault before it has ended the check. Nothing has changed but the count of failures.
pub record IsCut (e : Expected) (fatal : Bool) (old new : File) (r : ReportParts)
    (block : ℕ) : Type 0 where
  pub checked : IsTrue (is_checked e block)
  pub power : IsSome old.power
  pub failed : old.failures < new.failures
  pub file : new ≡ record old { failures = new.failures }
  pub unended : (report fatal e (held_by old e.job) (range_with_len 0 block)).end ≡ Whole
  pub report : r ≡ record (report fatal e (held_by old e.job) (range_with_len 0 block))
      { end = ReadFault block }

-- Some block is checked.
abbrev pub ChecksSome : Expected → Type 0
ChecksSome e = (block : ℕ) × ((block < e.job.blocks) × IsTrue (is_checked e block))

-- What the check of a disk answers, and what it leaves. It is refused by a state that doesn't fit,
-- for want of memory, and where the disk is off and some block would have to be read.
abbrev pub ChecksDisk : Result ReportParts Fault → Key → JobParts → Option State → Bool → File
    → File → Type 0
ChecksDisk (Ok r) key job state fatal old new =
    FitsIfAny state key job (Ok tt)
    × (IsWhole (expected_by key job state) fatal old new r
    ⊎ ((block : ℕ) × IsCut (expected_by key job state) fatal old new r block))
ChecksDisk (Err faults.OtherKey) key job state fatal old new =
    FitsIfAny state key job (Err faults.OtherKey) × (new ≡ old)
ChecksDisk (Err faults.OtherJob) key job state fatal old new =
    FitsIfAny state key job (Err faults.OtherJob) × (new ≡ old)
ChecksDisk (Err faults.OtherPlace) key job state fatal old new =
    FitsIfAny state key job (Err faults.OtherPlace) × (new ≡ old)
ChecksDisk (Err faults.NoMemory) key job state fatal old new = new ≡ old
ChecksDisk (Err faults.Off) key job state fatal old new =
    FitsIfAny state key job (Ok tt) × ChecksSome (expected_by key job state) × IsNone old.power
    × (new ≡ old)
ChecksDisk (Err _) key job state fatal old new = ⊥
