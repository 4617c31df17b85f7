-- What a block holds, of which exactly one kind is so.
use Rattle.std.specs.Prelude.{◌≡◌, ◌≢◌, ◌⊎◌, ◌<◌, ℕ, ◌/◌, false, List, replicate, IsTrue, IsSomeAnd}
use Rattle.recheck.specs.Expected.{Expected}
use Rattle.recheck.specs.Faults.{last_write, is_expected}
use Rattle.diagnosis.specs.declared.holds.Holds.{Holds}
use Rattle.diagnosis.specs.declared.holds.Holds.TheVariants as kinds
use Rattle.diagnosis.specs.declared.stamp.Write.{Write}
use Rattle.diagnosis.specs.Damage.{IsDamaged}
use Rattle.diagnosis.specs.Held.{HoldsWrite, own_write}
use Rattle.diagnosis.specs.Pieces.{unknown_below}

-- How many sectors of a block hold nothing that is known.
abbrev pub unknown_sectors : Expected → List ℕ → ℕ
unknown_sectors e bytes = unknown_below e bytes (e.job.bs / 512)

-- Neither one byte over and over, nor one whole write.
pub record IsMixed (e : Expected) (bytes : List ℕ) : Type 0 where
  pub no_byte : (byte : ℕ) → bytes ≢ replicate e.job.bs byte
  pub no_write : (write : Write) → HoldsWrite e bytes write → ⊥

-- What a faulty block holds that is no damaged copy of a write that it may hold.
abbrev pub OtherHolds : Expected → ℕ → List ℕ → Holds → Type 0
OtherHolds e block bytes kinds.Sound = ⊥
OtherHolds e block bytes kinds.Unwritten = bytes ≡ replicate e.job.bs 0
OtherHolds e block bytes (kinds.Filled byte) = (bytes ≡ replicate e.job.bs byte) × (byte ≢ 0)
OtherHolds e block bytes (kinds.Lost k) =
    HoldsWrite e bytes (own_write e block k) × IsSomeAnd (last_write e block) (λ last. k < last)
OtherHolds e block bytes (kinds.Unissued k) =
    HoldsWrite e bytes (own_write e block k) × IsSomeAnd (last_write e block) (λ last. last < k)
OtherHolds e block bytes (kinds.OtherRun write) =
    HoldsWrite e bytes write × (write.key.run ≢ e.key.run)
OtherHolds e block bytes (kinds.Misdirected write) =
    HoldsWrite e bytes write × (write.key.run ≡ e.key.run)
    × (write ≢ own_write e block write.seq)
OtherHolds e block bytes kinds.Torn = IsMixed e bytes × (unknown_sectors e bytes ≡ 0)
OtherHolds e block bytes (kinds.Corrupt sectors) =
    IsMixed e bytes × (unknown_sectors e bytes ≡ sectors) × (0 < sectors)

-- What a faulty block holds: a damaged copy of a write that it may hold is corrupt, whatever its
-- sectors say, and however many of them are unknown.
abbrev pub FaultHolds : Expected → ℕ → List ℕ → Holds → Type 0
FaultHolds e block bytes (kinds.Corrupt sectors) =
    (IsDamaged e block bytes × (unknown_sectors e bytes ≡ sectors))
    ⊎ ((IsDamaged e block bytes → ⊥) × OtherHolds e block bytes (kinds.Corrupt sectors))
FaultHolds e block bytes kind = (IsDamaged e block bytes → ⊥) × OtherHolds e block bytes kind

-- What a block holds: it is sound where it holds an expected write, and faulty where it doesn't.
abbrev pub BlockHolds : Expected → ℕ → List ℕ → Holds → Type 0
BlockHolds e block bytes kinds.Sound = IsTrue (is_expected e block bytes)
BlockHolds e block bytes kind =
    (is_expected e block bytes ≡ false) × FaultHolds e block bytes kind
