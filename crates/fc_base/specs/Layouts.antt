-- Numbers one after another, each in so many bytes, the high byte first.
use Rattle.std.specs.Prelude.{ℕ, zero, suc, ◌+◌, List, [], ◌∷◌, ◌++◌, take, drop}
use Rattle.std.specs.List.{flat_map}
use Rattle.std.specs.Int.{Width, w32, byte_len, from_be_bytes, to_be_bytes}

-- The bytes of a number.
unfoldable pub bytes_of : Width → ℕ → List ℕ
bytes_of w n = to_be_bytes w n

-- The number that the first bytes are.
unfoldable pub number_in : Width → List ℕ → ℕ
number_in w bytes = from_be_bytes w (take (byte_len w) bytes)

-- How many bytes numbers of these widths take.
abbrev pub size : List Width → ℕ
size [] = 0
size (w ∷ ws) = byte_len w + size ws

-- The bytes of numbers of these widths.
abbrev pub spelled : List Width → List ℕ → List ℕ
spelled [] ns = []
spelled (w ∷ ws) [] = []
spelled (w ∷ ws) (n ∷ ns) = bytes_of w n ++ spelled ws ns

-- The numbers of these widths that stand at the front of the bytes.
abbrev pub numbers : List Width → List ℕ → List ℕ
numbers [] bytes = []
numbers (w ∷ ws) bytes = number_in w bytes ∷ numbers ws (drop (byte_len w) bytes)

-- Blocks one after another, four bytes each.
abbrev pub spelled_blocks : List ℕ → List ℕ
spelled_blocks blocks = flat_map (bytes_of w32) blocks

-- This many blocks, from the front of the bytes, four bytes each.
abbrev pub blocks_in : ℕ → List ℕ → List ℕ
blocks_in zero bytes = []
blocks_in (suc n) bytes = number_in w32 bytes ∷ blocks_in n (drop 4 bytes)
