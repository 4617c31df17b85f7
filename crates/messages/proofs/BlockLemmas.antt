-- Blocks read one by one.
use Rattle.std.proofs.Common.{◌≡◌, ℕ, suc, ◌+◌, ◌-◌, ◌<◌, drop, List, ◌∷◌, refl, arith}
use Rattle.std.specs.Int.{w32}
use Rattle.fc_base.specs.Layouts.{number_in, blocks_in}

-- The first of the blocks that are left.
pub blocks_in-next : (count i : ℕ) (bytes : List ℕ) → i < count → blocks_in (count - i) bytes ≡ number_in w32 bytes ∷ blocks_in (count - (i + 1)) (drop 4 bytes)
blocks_in-next count i bytes lt =
    let one_more : count - i ≡ suc (count - (i + 1)) = omega arith in
    rw one_more refl
