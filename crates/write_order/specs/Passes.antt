-- A pass under way: what it has yet to write before write k.
use Rattle.std.specs.Prelude.{◌≡◌, ◌≤◌, ◌<◌, ℕ, ◌-◌, ◌*◌, ◌/◌, ◌%◌, List, [], ◌∷◌, length, map, drop, swap_remove}
use Rattle.std.specs.List.{range_with_len}
use Rattle.write_order.specs.declared.pass.Pass.TheInside.{Inside}

-- What is left of these blocks when each of the words has picked one.
abbrev pub left_after : List ℕ → List ℕ → List ℕ
left_after left [] = left
left_after left (w ∷ ws) = left_after (swap_remove left (w % length left) 0) ws

-- What the pass that write k falls into has left before that write.
unfoldable pub left_before : (ℕ → ℕ) → ℕ → ℕ → List ℕ
left_before words blocks k =
    left_after (range_with_len 0 blocks)
    (map words (range_with_len (k / blocks * blocks) (k % blocks)))

-- The number of blocks, and those that are left of a pass.
pub record PassLeft : Type 0 where
  pub blocks : ℕ
  pub left : List ℕ

-- The pass before write k.
abbrev pub pass_before : (ℕ → ℕ) → ℕ → ℕ → PassLeft
pass_before words blocks k = record { blocks = blocks; left = left_before words blocks k }

-- A pass has a block left, and the list names all blocks: from where those that are left end, each
-- index holds its own number, as a new pass has it.
pub record IsReadyAnew (pass : Inside) : Type 0 where
  pub some : 0 < pass.left
  pub within : pass.left ≤ pass.blocks
  pub whole : length pass.list.items ≡ pass.blocks
  pub behind : drop pass.left pass.list.items ≡ range_with_len pass.left (pass.blocks - pass.left)
