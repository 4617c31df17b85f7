-- The write that a block holds.
use Rattle.std.specs.Prelude.{◌≡◌, ℕ, List, IsTrue}
use Rattle.fc_base.specs.declared.record.Verify.TheVariants as verifies
use Rattle.write_order.specs.Stamps.{written_bytes}
use Rattle.recheck.specs.Expected.{Expected}
use Rattle.diagnosis.specs.declared.stamp.Stamp.{Stamp}
use Rattle.diagnosis.specs.declared.stamp.Write.{Write}
use Rattle.diagnosis.specs.Limits.{can_be}
use Rattle.diagnosis.specs.Sectors.{HasRoom}

-- The stamp in the first sector of a write.
abbrev pub first_stamp : Write → Stamp
first_stamp write = record { write = write; sector = 0 }

-- A block holds a write where its bytes are those that the write puts there, and the write can be.
-- Only stamps tell which write that is.
pub record HoldsWrite (e : Expected) (bytes : List ℕ) (write : Write) : Type 0 where
  pub stamps : e.job.verify ≡ verifies.Stamp
  pub room : HasRoom write
  pub possible : IsTrue (can_be e (first_stamp write))
  pub held : bytes ≡ written_bytes write.key e.job write.seq write.block

-- Write k of the job that is checked, to this block.
abbrev pub own_write : Expected → ℕ → ℕ → Write
own_write e block k = record { key = e.key; seq = k; block = block }
