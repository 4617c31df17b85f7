-- The blocks that words pick. The words are given by their numbers, from 0.
use Rattle.std.specs.Prelude.{ℕ, ◌*◌, ◌/◌, ◌%◌, Bool, true, false, List, [], ◌∷◌, length, map, slice_index, swap_remove}
use Rattle.std.specs.List.{range_with_len}

-- The blocks that words pick of a list: each word counts round what is left, the block that it
-- comes to is picked, and the last of the list moves to its index.
abbrev pub picked : List ℕ → List ℕ → List ℕ
picked left [] = []
picked left (w ∷ ws) =
    let i = w % length left in
    slice_index left i ∷ picked (swap_remove left i 0) ws

-- The blocks of pass p: it starts with the list 0, 1, .. blocks - 1, and has a word for each of
-- them.
abbrev pub blocks_of_pass : (ℕ → ℕ) → ℕ → ℕ → List ℕ
blocks_of_pass words blocks p =
    picked (range_with_len 0 blocks) (map words (range_with_len (p * blocks) blocks))

-- The block that word k picks with a map: the one at its turn in its pass.
unfoldable pub block_with_map : (ℕ → ℕ) → ℕ → ℕ → ℕ
block_with_map words blocks k = slice_index (blocks_of_pass words blocks (k / blocks)) (k % blocks)

-- The block that word k picks without a map.
abbrev pub block_without_map : (ℕ → ℕ) → ℕ → ℕ → ℕ
block_without_map words blocks k = words k % blocks

-- The block that word k picks, with a map or without.
abbrev pub block_picked : Bool → (ℕ → ℕ) → ℕ → ℕ → ℕ
block_picked true = block_with_map
block_picked false = block_without_map

-- The blocks that all words of a list pick. A block depends on its own word and on earlier ones
-- alone, so what stands for the words past the list plays no part.
abbrev pub blocks_picked : Bool → List ℕ → ℕ → List ℕ
blocks_picked has_map words blocks =
    map (block_picked has_map (slice_index words) blocks) (range_with_len 0 (length words))
