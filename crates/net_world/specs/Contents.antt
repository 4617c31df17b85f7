-- The content of each file, read from what has changed. Job j of a server has file j there.
use Rattle.std.specs.Prelude.{ℕ, ◌==◌, ◌&&◌, Bool, List, [], ◌∷◌, Option, Some, None, length, if◌then◌else◌}
use Rattle.write_order.specs.Blocks.{block_of}
use Rattle.write_order.specs.Stamps.{bytes_of}
use Rattle.disk_model.specs.File.{zeros, landed, put, first_sector, has_bit}
use Rattle.engine.specs.Running.{Origin}
use Rattle.net_world.specs.Setup.{Setup}
use Rattle.net_world.specs.Changes.{Change, Met, Landed, Rotted, trace}
use Rattle.net_world.specs.Writes.{open_at}

-- The content once the masked sectors of a block of these bytes have landed.
abbrev pub with_block : ℕ → ℕ → List ℕ → (ℕ → List ℕ) → ℕ → List ℕ
with_block mask block bytes content =
    landed (has_bit mask) (first_sector block (length bytes)) bytes content

-- The content once the masked sectors of write k have landed, if it is open.
abbrev pub with_write : ℕ → ℕ → Option Origin → (ℕ → List ℕ) → ℕ → List ℕ
with_write k mask None content = content
with_write k mask (Some origin) content =
    with_block mask (block_of origin.job k) (bytes_of origin.key origin.job k) content

-- File i of server t is file j of server s.
abbrev pub is_file : ℕ → ℕ → ℕ → ℕ → Bool
is_file t i s j = (t == s) && (i == j)

-- The bytes of each sector of job j's file at server s: zeros at first, then what has landed and
-- rotted.
abbrev pub content : Setup → List Change → ℕ → ℕ → ℕ → List ℕ
content w [] s j = λ _. zeros
content w (Met step ∷ past) s j = content w past s j
content w (Landed t i k mask ∷ past) s j =
    if is_file t i s j then with_write k mask (open_at (trace w past) t i k) (content w past s j)
    else content w past s j
content w (Rotted t i sector bytes ∷ past) s j =
    if is_file t i s j then put sector bytes (content w past s j) else content w past s j
