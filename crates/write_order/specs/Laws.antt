-- What holds of all jobs and all their writes.
use Rattle.std.specs.Prelude.{◌≡◌, ℕ, ◌*◌, ◌^◌, ◌<◌, List, IsTrue, length, map}
use Rattle.std.specs.List.{range_with_len}
use Rattle.std.specs.List.Sorted.{IsPermutation}
use Rattle.fc_base.specs.declared.record.JobParts.{JobParts}
use Rattle.fc_base.specs.declared.record.Kind.TheVariants.{RandomMap}
use Rattle.fc_base.specs.declared.record.Verify.TheVariants.{Stamp}
use Rattle.fc_base.specs.declared.numbers.Key.{Key}
use Rattle.fc_base.specs.JobParts.{is_within_limits}
use Rattle.write_order.specs.Blocks.{block_of}
use Rattle.write_order.specs.Stamps.{stamped_sector, written_bytes}

-- With a map, each pass of as many writes as there are blocks names each block once.
abbrev pub PassesNameEachBlockOnce : Type 0
PassesNameEachBlockOnce =
    (job : JobParts) → job.kind ≡ RandomMap → (p : ℕ) →
    IsPermutation (range_with_len 0 job.blocks)
    (map (block_of job) (range_with_len (p * job.blocks) job.blocks))

-- Each write of a job goes to one of its blocks.
abbrev pub WritesStayInTheRegion : Type 0
WritesStayInTheRegion =
    (job : JobParts) → IsTrue (is_within_limits job) → (k : ℕ) → block_of job k < job.blocks

-- A write puts as many bytes as its job's blocks have.
abbrev pub WritesFillTheirBlocks : Type 0
WritesFillTheirBlocks =
    (key : Key) (job : JobParts) → IsTrue (is_within_limits job) → (k block : ℕ) →
    length (written_bytes key job k block) ≡ job.bs

-- What the stamp in a sector says: whose write it is, which one, into which block, and which sector
-- of that block.
pub record StampFields : Type 0 where
  pub key : Key
  pub write : ℕ
  pub block : ℕ
  pub sector : ℕ

-- Each number has room in the stamp.
pub record HasRoomInAStamp (fields : StampFields) : Type 0 where
  pub run : fields.key.run < 2 ^ 64
  pub server : fields.key.server < 2 ^ 32
  pub job : fields.key.job < 2 ^ 32
  pub write : fields.write < 2 ^ 64
  pub block : fields.block < 2 ^ 64
  pub sector : fields.sector < 2 ^ 32

-- The sector with the stamp that says this.
abbrev pub sector_with : StampFields → List ℕ
sector_with fields = stamped_sector fields.key fields.write fields.block fields.sector

-- Sectors with the same bytes have stamps that say the same.
abbrev pub StampsTellSectorsApart : Type 0
StampsTellSectorsApart =
    (a b : StampFields) → HasRoomInAStamp a → HasRoomInAStamp b → sector_with a ≡ sector_with b
    → a ≡ b

-- The first sector of the block of this write says this.
abbrev pub first_fields : Key → ℕ → ℕ → StampFields
first_fields key k block = record { key = key; write = k; block = block; sector = 0 }

-- Two blocks that were filled with stamps and have the same bytes are of the same write, to the
-- same block.
abbrev pub StampsTellWritesApart : Type 0
StampsTellWritesApart =
    (job other : JobParts) → IsTrue (is_within_limits job) → IsTrue (is_within_limits other) →
    job.verify ≡ Stamp → other.verify ≡ Stamp →
    (key owner : Key) (k l block at : ℕ) →
    HasRoomInAStamp (first_fields key k block) → HasRoomInAStamp (first_fields owner l at) →
    written_bytes key job k block ≡ written_bytes owner other l at
    → first_fields key k block ≡ first_fields owner l at
