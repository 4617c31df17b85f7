-- What holds of every file, and of every call of a disk that keeps its contract.
use Rattle.std.specs.Prelude.{◌≡◌, ◌≢◌, ◌<◌, ℕ, ◌/◌, ◌%◌, Bool, List, length, IsTrue, Option, Result}
use Rattle.fc_base.specs.declared.fault.Fault.{Fault}
use Rattle.disk_model.specs.Disk.{IsWritten, IsRead}
use Rattle.disk_model.specs.File.{File, zeros, IsBlock, HasWholeSectors, block_bytes}
use Rattle.disk_model.specs.File.{with_landed, with_block, with_sector}

-- A block that was written is read back.
abbrev pub ReadsBack : Type 0
ReadsBack =
    (file : File) (block : ℕ) (bytes : List ℕ) →
    IsBlock block (length bytes) →
    block_bytes (with_block block bytes file).content (length bytes) block ≡ bytes

-- What lands whole is what its block holds afterwards.
abbrev pub LandsWhole : Type 0
LandsWhole =
    (picks : ℕ → Bool) (file : File) (block : ℕ) (bytes : List ℕ) →
    IsBlock block (length bytes) → ((i : ℕ) → i < length bytes / 512 → IsTrue (picks i)) →
    block_bytes (with_landed picks block bytes file).content (length bytes) block ≡ bytes

-- Whatever lands of a block, each other block of its length holds what it held.
abbrev pub KeepsOtherBlocks : Type 0
KeepsOtherBlocks =
    (picks : ℕ → Bool) (file : File) (block other : ℕ) (bytes : List ℕ) → other ≢ block →
    block_bytes (with_landed picks block bytes file).content (length bytes) other
    ≡ block_bytes file.content (length bytes) other

-- A sector that was replaced holds these bytes, and each other sector what it held.
abbrev pub ReplacesOneSector : Type 0
ReplacesOneSector =
    (file : File) (sector : ℕ) (bytes : List ℕ) → length bytes ≡ 512 →
    ((with_sector sector bytes file).content sector ≡ bytes)
    × ((other : ℕ) → other ≢ sector
    → (with_sector sector bytes file).content other ≡ file.content other)

-- The sectors of a file on which nothing was written are whole.
abbrev pub StartsWhole : Type 0
StartsWhole =
    (power : Option ℕ) (failures : ℕ) →
    HasWholeSectors (record { content = λ _. zeros; power = power; failures = failures })

-- The sectors of a file stay whole, whatever a write or a read answers.
abbrev pub StaysWhole : Type 0
StaysWhole =
    (old new : File) (epoch block : ℕ) (bytes : List ℕ) (result : Result (Unit {0}) Fault) →
    IsBlock block (length bytes) → HasWholeSectors old →
    (IsWritten old new epoch block bytes result → HasWholeSectors new)
    × (IsRead old new block bytes result → HasWholeSectors new)

-- The sectors of a file stay whole where some of a block lands, or a sector is replaced.
abbrev pub LandsWholeSectors : Type 0
LandsWholeSectors =
    (picks : ℕ → Bool) (file : File) (first : ℕ) (bytes : List ℕ) → HasWholeSectors file →
    (IsBlock first (length bytes) → HasWholeSectors (with_landed picks first bytes file))
    × (length bytes ≡ 512 → HasWholeSectors (with_sector first bytes file))

-- A block of whole sectors has its length.
abbrev pub HasItsLength : Type 0
HasItsLength =
    (file : File) (block len : ℕ) → HasWholeSectors file → len % 512 ≡ 0 →
    length (block_bytes file.content len block) ≡ len
