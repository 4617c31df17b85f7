-- Damaged copies of the writes that a block may hold.
use Rattle.std.specs.Prelude.{◌≡◌, ◌⊎◌, ◌<◌, ℕ, ◌==◌, ◌/◌, ◌&&◌, ◌||◌, Bool, false, nat_le, List, Option, Some, None, IsTrue}
use Rattle.std.specs.List.{list_any}
use Rattle.fc_base.specs.Keys.{is_same_key}
use Rattle.write_order.specs.Stamps.{written_bytes}
use Rattle.recheck.specs.Expected.{Expected}
use Rattle.recheck.specs.Faults.{expected_writes, last_write, writes_to}
use Rattle.diagnosis.specs.declared.difference.TheConstants.{FEW_BITS}
use Rattle.diagnosis.specs.declared.piece.Piece.{Piece}
use Rattle.diagnosis.specs.declared.piece.Piece.TheVariants as pieces
use Rattle.diagnosis.specs.declared.stamp.Stamp.{Stamp}
use Rattle.diagnosis.specs.declared.stamp.Write.{Write}
use Rattle.diagnosis.specs.Differences.{difference_of}
use Rattle.diagnosis.specs.Held.{HoldsWrite}
use Rattle.diagnosis.specs.Pieces.{piece_at}

-- A block with these bytes differs in few bits from what write k of the job puts into it.
abbrev pub is_near : Expected → ℕ → List ℕ → ℕ → Bool
is_near e block bytes k =
    nat_le (difference_of bytes (written_bytes e.key e.job k block)).bits FEW_BITS

-- A block differs in few bits from a write that it may hold.
abbrev pub is_near_expected : Expected → ℕ → List ℕ → Bool
is_near_expected e block bytes = list_any (is_near e block bytes) (expected_writes e block)

-- Write k of the job may have come to the block: it isn't past the last one that has completed
-- there, or it is in flight there.
abbrev pub may_have_come : Expected → ℕ → ℕ → Bool
may_have_come e block k = by (last_write e block)
  where
    by : Option ℕ → Bool
    by None = false
    by (Some last) = nat_le k last || list_any (λ j. j == k) (writes_to block e.in_flight)

-- A stamp is that of the sector at this place, of a write of the job that may have come to the
-- block.
abbrev pub is_stamp_in_place : Expected → ℕ → ℕ → Stamp → Bool
is_stamp_in_place e block place stamp =
    is_same_key stamp.write.key e.key && (stamp.write.block == block
    && (stamp.sector == place && may_have_come e block stamp.write.seq))

-- What a sector holds is a stamp in its place.
abbrev pub is_in_place : Expected → ℕ → ℕ → Piece → Bool
is_in_place e block place (pieces.Stamp stamp) = is_stamp_in_place e block place stamp
is_in_place e block place _ = false

-- Each sector of a block is in its place: the block is made of writes that may have come to it.
abbrev pub AreInPlace : Expected → ℕ → List ℕ → Type 0
AreInPlace e block bytes =
    (number : ℕ) → number < e.job.bs / 512
    → IsTrue (is_in_place e block number (piece_at e bytes number))

-- Nothing confirms what the first sector of a block says: there is no other one, or they aren't all
-- of the same write.
abbrev pub IsUnconfirmed : Expected → List ℕ → Type 0
IsUnconfirmed e bytes = (e.job.bs ≡ 512) ⊎ ((write : Write) → HoldsWrite e bytes write → ⊥)

-- A block is a damaged copy of a write that it may hold: it differs from one in few bits, and its
-- sectors are neither all of writes that may have come to it, nor several that all say one write.
pub record IsDamaged (e : Expected) (block : ℕ) (bytes : List ℕ) : Type 0 where
  pub near : IsTrue (is_near_expected e block bytes)
  pub out_of_place : AreInPlace e block bytes → ⊥
  pub unconfirmed : IsUnconfirmed e bytes
