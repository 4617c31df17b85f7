-- One place of a list is set, and the others stay.
use Rattle.std.proofs.Common.{◌≡◌, refl, ap, ℕ, zero, suc, ◌<◌, arith, List, [], ◌∷◌, length, Some}
use Rattle.std.specs.Prelude.{set, slice_get}
use Rattle.net_world.proofs.ListLemmas.{same_some}

pub set_here : {X : Type 0} (xs : List X) (i : ℕ) (x : X) → i < length xs → slice_get (set xs i x) i ≡ Some x
set_here [] i x h = absurd (omega (arith, h))
set_here (y ∷ ys) zero x h = refl
set_here (y ∷ ys) (suc i) x h = set_here ys i x (omega (arith, h))

pub set_there : {X : Type 0} (xs : List X) (i k : ℕ) (x : X) → (i ≡ k → ⊥) → slice_get (set xs i x) k ≡ slice_get xs k
set_there [] i k x h = refl
set_there (y ∷ ys) zero zero x h = absurd (h refl)
set_there (y ∷ ys) zero (suc k) x h = refl
set_there (y ∷ ys) (suc i) zero x h = refl
set_there (y ∷ ys) (suc i) (suc k) x h = set_there ys i k x (λ e. h (ap suc e))

-- What is at the place that was set.
pub is_set : {X : Type 0} (xs : List X) (i : ℕ) (x y : X) → i < length xs → slice_get (set xs i x) i ≡ Some y → x ≡ y
is_set xs i x y l h = let e = set_here xs i x l in let k : Some x ≡ Some y = cc in same_some x y k
