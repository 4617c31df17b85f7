-- The check of a disk, one block further. Only the proof of `check_disk` goes by these.
use Rattle.std.specs.Prelude.{◌≡◌, ◌<◌, ◌≤◌, ℕ, ◌+◌, List, [], ◌∷◌, ◌++◌, IsSome, IsNone, IsTrue, Result, Ok, Err}
use Rattle.fc_base.specs.declared.fault.Fault.{Fault}
use Rattle.fc_base.specs.declared.fault.Fault.TheVariants as faults
use Rattle.disk_model.specs.File.{File}
use Rattle.recheck.specs.Faults.{is_checked}
use Rattle.recheck.specs.Check.{Check, HasSeen}
use Rattle.recheck.specs.Disk.{held_by}

-- What one block of a disk leaves of a check: the block is seen, and the rest is the same. The disk
-- is read where the block is checked, and only there.
pub record IsSeen (check new_check : Check) (block : ℕ) (old new : File) : Type 0 where
  pub expected : new_check.expected ≡ check.expected
  pub fatal : new_check.fatal ≡ check.fatal
  pub next : new_check.next ≤ block + 1
  pub seen : (blocks : List ℕ) → HasSeen check (held_by old check.expected.job) blocks
      → HasSeen new_check (held_by old check.expected.job) (blocks ++ block ∷ [])
  pub power : check.found.checked < new_check.found.checked → IsSome old.power
  pub file : new ≡ old

-- What the step answers, and what it leaves.
abbrev pub StepsDisk : Result (Unit {0}) Fault → Check → Check → ℕ → File → File → Type 0
StepsDisk (Ok _) check new_check block old new = IsSeen check new_check block old new
StepsDisk (Err faults.Off) check new_check block old new =
    (new_check ≡ check) × IsTrue (is_checked check.expected block) × IsNone old.power × (new ≡ old)
StepsDisk (Err faults.ReadFault) check new_check block old new =
    (new_check ≡ check) × IsTrue (is_checked check.expected block) × IsSome old.power
    × (old.failures < new.failures) × (new ≡ record old { failures = new.failures })
StepsDisk (Err _) check new_check block old new = ⊥
