-- A sector on a disk that holds another write than it should: instances of the laws of
-- `diagnosis`.
use Rattle.std.specs.Prelude.{◌≡◌, ◌<◌, ℕ, false, List, length, slice_index, Some, IsTrue}
use Rattle.fc_base.specs.declared.record.Verify.TheVariants.{Stamp}
use Rattle.fc_base.specs.JobParts.{is_within_limits}
use Rattle.write_order.specs.Blocks.{block_of}
use Rattle.write_order.specs.Laws.{StampFields}
use Rattle.write_order.specs.Stamps.{stamped_sector, written_bytes}
use Rattle.recheck.specs.Expected.{Expected, expected_by, issued_in}
use Rattle.recheck.specs.Laws.{IsLastCompleted}
use Rattle.diagnosis.specs.declared.holds.Holds.{Holds}
use Rattle.diagnosis.specs.declared.holds.Holds.TheVariants as kinds
use Rattle.diagnosis.specs.declared.piece.Piece.TheVariants as pieces
use Rattle.diagnosis.specs.declared.stamp.Stamp.{Stamp as Told}
use Rattle.diagnosis.specs.Damage.{is_near_expected}
use Rattle.diagnosis.specs.Kinds.{BlockHolds}
use Rattle.diagnosis.specs.Laws.{is_another_write}
use Rattle.diagnosis.specs.Limits.{can_be}
use Rattle.diagnosis.specs.Pieces.{piece_of}
use Rattle.diagnosis.specs.Sectors.{Says, fields_of}
use Rattle.uses.specs.OneJob.{key, job, state}

-- What the two blocks are checked against: block 0 is to hold write 2.
abbrev pub expected : Expected
expected = expected_by key job (Some state)

-- What a write of the job puts into a block, which has one sector.
abbrev pub sector : ℕ → ℕ → List ℕ
sector k block = stamped_sector key k block 0

-- What the stamp in that sector says.
abbrev pub said : ℕ → ℕ → Told
said k block = record { write = record { key = key; seq = k; block = block }; sector = 0 }

-- A sector with the stamp of write 3 to block 1 says that, and nothing else.
pub record SaysThatAlone : Type 0 where
  pub says : Says (sector 3 1) (fields_of (said 3 1))
  pub alone : (fields : StampFields) → Says (sector 3 1) fields → fields_of (said 3 1) ≡ fields

-- Where block 0 holds write k, that is lost, and the block holds nothing else.
pub record IsLostAlone (k : ℕ) : Type 0 where
  pub limits : IsTrue (is_within_limits job)
  pub length_is : length (sector k 0) ≡ job.bs
  pub holds : BlockHolds expected 0 (sector k 0) (kinds.Lost k)
  pub alone : (kind : Holds) → BlockHolds expected 0 (sector k 0) kind → kinds.Lost k ≡ kind

-- Where write 3 to block 1 stands in block 0, it is named, and the block holds its bytes.
pub record IsMisdirected : Type 0 where
  pub holds : BlockHolds expected 0 (sector 3 1) (kinds.Misdirected (said 3 1).write)
  pub held : sector 3 1 ≡ written_bytes key job 3 1

-- The write that is lost is older than one that has completed to block 0 as the last one.
pub record LostIsOlder : Type 0 where
  pub within : 0 < job.blocks
  pub holds : BlockHolds (expected_by key job (Some state)) 0 (sector 0 0) (kinds.Lost 0)
  pub older : (last : ℕ) × (IsLastCompleted job (Some state) 0 last × (0 < last))

-- Where block 0 holds write 4, that wasn't issued to it, though it is a write of the job to it.
pub record IsUnissued : Type 0 where
  pub within : 0 < job.blocks
  pub holds : BlockHolds (expected_by key job (Some state)) 0 (sector 4 0) (kinds.Unissued 4)
  pub goes : block_of job 4 ≡ 0
  pub not_issued : 4 < issued_in job (Some state) → ⊥

-- A sector that holds a write to another block differs in many bits from what it may hold.
pub record IsFar : Type 0 where
  pub one_sector : expected.job.bs ≡ 512
  pub another : IsTrue (is_another_write (kinds.Misdirected (said 3 1).write))
  pub holds : BlockHolds expected 0 (sector 3 1) (kinds.Misdirected (said 3 1).write)
  pub far : is_near_expected expected 0 (sector 3 1) ≡ false

-- A sector with the stamp of write 3 to block 1 is told as that, and where it is told as a stamp,
-- it says what that stamp does.
pub record IsToldAsItsStamp : Type 0 where
  pub stamps : expected.job.verify ≡ Stamp
  pub length_is : length (sector 3 1) ≡ 512
  pub fits : (i : ℕ) → slice_index (sector 3 1) i < 256
  pub says : Says (sector 3 1) (fields_of (said 3 1))
  pub possible : IsTrue (can_be expected (said 3 1))
  pub told : piece_of expected (sector 3 1) ≡ pieces.Stamp (said 3 1)
  pub told_so : (stamp : Told) → piece_of expected (sector 3 1) ≡ pieces.Stamp stamp
      → Says (sector 3 1) (fields_of stamp)
