-- The content of a file, and what a write, a torn write and a rotten sector leave of it.
use Rattle.std.specs.Prelude.{◌≡◌, ◌<◌, ◌≤◌, ℕ, zero, suc, ◌+◌, ◌*◌, ◌-◌, ◌/◌, ◌%◌, ◌==◌, nat_le, nat_lt}
use Rattle.std.specs.Prelude.{Bool, true, false, ◌&&◌, List, [], ◌++◌, length, take, drop, replicate, Option, if◌then◌else◌}
use Rattle.std.specs.Int.{bit_at}
use Rattle.fc_base.specs.declared.limits.TheConstants.{MAX_BLOCK_SIZE, MAX_BLOCKS}

-- A file: its content, each sector's 512 bytes by the sector's number; the epoch in which its disk
-- is on, or none while the disk is off; and how often the disk has failed.
pub record File : Type 0 where
  pub content : ℕ → List ℕ
  pub power : Option ℕ
  pub failures : ℕ

-- The bytes of a sector that was never written.
unfoldable pub zeros : List ℕ
zeros = replicate 512 0

-- Sector i of these bytes.
abbrev pub sector_of : List ℕ → ℕ → List ℕ
sector_of bytes i = take 512 (drop (512 * i) bytes)

-- Sector s is one of so many from the first on.
abbrev pub is_within : ℕ → ℕ → ℕ → Bool
is_within first count s = nat_le first s && nat_lt s (first + count)

-- The content once these bytes have landed from a first sector on, but for the sectors that were
-- not picked: sectors of the bytes are picked by number, from 0 on.
abbrev pub landed : (ℕ → Bool) → ℕ → List ℕ → (ℕ → List ℕ) → ℕ → List ℕ
landed picks first bytes content s =
    if is_within first (length bytes / 512) s && picks (s - first)
    then sector_of bytes (s - first)
    else content s

-- The content once all these bytes have landed.
abbrev pub put : ℕ → List ℕ → (ℕ → List ℕ) → ℕ → List ℕ
put first bytes content = landed (λ _. true) first bytes content

-- The bytes of this many sectors from the first on, one after another.
abbrev pub sectors : (ℕ → List ℕ) → ℕ → ℕ → List ℕ
sectors content first zero = []
sectors content first (suc count) = content first ++ sectors content (first + 1) count

-- The first sector of a block of so many bytes.
abbrev pub first_sector : ℕ → ℕ → ℕ
first_sector block len = block * (len / 512)

-- The bytes of a block of this length.
abbrev pub block_bytes : (ℕ → List ℕ) → ℕ → ℕ → List ℕ
block_bytes content len block = sectors content (first_sector block len) (len / 512)

-- The file once the picked sectors of a block have landed.
abbrev pub with_landed : (ℕ → Bool) → ℕ → List ℕ → File → File
with_landed picks block bytes file =
    record file { content = landed picks (first_sector block (length bytes)) bytes file.content }

-- The file once a block was written.
abbrev pub with_block : ℕ → List ℕ → File → File
with_block block bytes file = with_landed (λ _. true) block bytes file

-- The file once a sector was replaced.
abbrev pub with_sector : ℕ → List ℕ → File → File
with_sector sector bytes file = record file { content = put sector bytes file.content }

-- Outside a block of this length the content is the same.
abbrev pub IsSameOutside : File → File → ℕ → ℕ → Type 0
IsSameOutside old new block len =
    (s : ℕ) →
    is_within (first_sector block len) (len / 512) s ≡ false →
    new.content s ≡ old.content s

-- Each sector has 512 bytes.
abbrev pub HasWholeSectors : File → Type 0
HasWholeSectors file = (s : ℕ) → length (file.content s) ≡ 512

-- Bit i of a mask stands for sector i.
abbrev pub has_bit : ℕ → ℕ → Bool
has_bit mask i = bit_at mask i == 1

-- What a block may be: one of the first 65,536, of a length that a job's block size may have.
pub record IsBlock (block len : ℕ) : Type 0 where
  pub number : block < MAX_BLOCKS
  pub least : 512 ≤ len
  pub most : len ≤ MAX_BLOCK_SIZE
  pub whole : len % 512 ≡ 0
