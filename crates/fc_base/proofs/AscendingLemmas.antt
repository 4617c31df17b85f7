-- A list of ascending blocks, from its front.
use Rattle.std.proofs.Common.{◌≡◌, ℕ, ◌<◌, true, List, [], ◌∷◌, length, refl, arith}
use Rattle.fc_base.specs.Ascending.{ascends}

-- Fewer than two numbers ascend.
pub ascends_short : (xs : List ℕ) → length xs < 2 → ascends xs ≡ true
ascends_short [] h = refl
ascends_short (x ∷ []) h = refl
ascends_short (x ∷ y ∷ ys) h = absurd (omega arith)
