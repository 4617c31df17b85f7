-- Lists of blocks in ascending order.
use Rattle.std.specs.Prelude.{ℕ, Bool, true, ◌&&◌, nat_lt, List, [], ◌∷◌}
use Rattle.fc_base.specs.declared.limits.TheConstants.{MAX_BLOCKS}

-- Each number is below the next one.
abbrev pub ascends : List ℕ → Bool
ascends [] = true
ascends (x ∷ []) = true
ascends (x ∷ y ∷ ys) = nat_lt x y && ascends (y ∷ ys)

-- A block's number is below 65,536.
abbrev pub is_block : ℕ → Bool
is_block b = nat_lt b MAX_BLOCKS
