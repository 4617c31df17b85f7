-- How what a block holds is found, and how it differs. Only the proofs of `diagnose` and of
-- `compare_write` go by these.
use Rattle.std.specs.Prelude.{◌≢◌, ◌+◌, ◌==◌, bit_xor, count_ones, ℕ, zero, suc, nat_lt, List, Option, Some, None, length, replicate, if◌then◌else◌}
use Rattle.std.specs.Str.{bytes_eq}
use Rattle.fc_base.specs.declared.record.JobParts.{JobParts}
use Rattle.write_order.specs.Stamps.{written_bytes}
use Rattle.diagnosis.specs.declared.holds.Holds.{Holds}
use Rattle.diagnosis.specs.declared.holds.Holds.TheVariants as kinds
use Rattle.diagnosis.specs.declared.difference.Difference.{Difference}
use Rattle.diagnosis.specs.declared.stamp.Write.{Write}
use Rattle.recheck.specs.Expected.{Expected}
use Rattle.diagnosis.specs.Held.{HoldsWrite}

-- The block holds no whole write.
abbrev pub HoldsNoWrite : Expected → List ℕ → Type 0
HoldsNoWrite e bytes = (write : Write) → HoldsWrite e bytes write → ⊥

-- The block is no byte over and over.
abbrev pub RepeatsNoByte : List ℕ → Type 0
RepeatsNoByte bytes = (byte : ℕ) → bytes ≢ replicate (length bytes) byte

-- This write, where the block has its bytes.
abbrev pub held_write : JobParts → List ℕ → Write → Option Write
held_write job bytes write =
    if bytes_eq bytes (written_bytes write.key job write.seq write.block) then Some write else None

-- What a block holds that is this byte over and over.
abbrev pub filled_kind : ℕ → Holds
filled_kind zero = kinds.Unwritten
filled_kind (suc n) = kinds.Filled (suc n)

-- What a block holds that is mixed, by how many of its sectors are unknown.
abbrev pub mixed_kind : ℕ → Holds
mixed_kind zero = kinds.Torn
mixed_kind (suc n) = kinds.Corrupt (suc n)

-- What a faulty block holds that has the bytes of write k of its own job to it.
abbrev pub own_kind : Option ℕ → ℕ → Holds
own_kind None k = kinds.Unissued k
own_kind (Some last) k = if nat_lt k last then kinds.Lost k else kinds.Unissued k

-- The first place, or this one where there is none.
abbrev pub first_or : Option ℕ → ℕ → Option ℕ
first_or None at = Some at
first_or (Some place) at = Some place

-- A difference with one more byte, which should be that one.
abbrev pub with_byte : Difference → ℕ → ℕ → ℕ → Difference
with_byte found at byte other = if byte == other then found else record {
  bytes = found.bytes + 1;
  bits = found.bits + count_ones (bit_xor byte other);
  first = first_or found.first at;
}

-- The job with blocks of one sector.
abbrev pub one_sector : JobParts → JobParts
one_sector job = record job { bs = 512 }
