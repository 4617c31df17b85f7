-- Lists of which one place is set.
use Rattle.std.proofs.Common.{◌≡◌, refl, subst, ℕ, zero, suc, arith, Bool, true, false, ◌==◌, ◌&&◌, List, [], ◌∷◌, Some}
use Rattle.std.specs.Prelude.{if◌then◌else◌, slice_set, slice_index_or}
use Rattle.std.proofs.lemmas.Bool.Decides.{nat_tests}
use Rattle.client_core.specs.Lives.{Each}

some_is : {A : Type 0} {x y : A} → Some x ≡ Some y → x ≡ y
some_is e = cc

-- Where one place is set, P is left for Q: there, and at each other place.
pub each_set : {A : Type 0} (xs : List A) (P Q : ℕ → A → Type 0) (i : ℕ) (d v : A) → (P i (slice_index_or xs i d) → Q i v)
    → ((j : ℕ) (x : A) → (i == j) ≡ false → P j x → Q j x) → Each xs P → Each (slice_set xs i v) Q
each_set [] P Q i d v at other h j x e = cc
each_set (y ∷ ys) P Q zero d v at other h zero x e = subst (Q 0) (some_is e) (at (h 0 y refl))
each_set (y ∷ ys) P Q zero d v at other h (suc j) x e =
    let n : (zero == suc j) ≡ false = grind (arith, nat_tests) in
    other (suc j) x n (h (suc j) x e)
each_set (y ∷ ys) P Q (suc i) d v at other h zero x e =
    let n : (suc i == zero) ≡ false = grind (arith, nat_tests) in
    other 0 x n (h 0 x e)
each_set {A} (y ∷ ys) P Q (suc i) d v at other h (suc j) x e =
    each_set ys (λ k. P (suc k)) (λ k. Q (suc k)) i d v at (λ k z n p. other (suc k) z (shifted k n) p) (λ k z f. h (suc k) z f) j x e
  where
    shifted : (k : ℕ) → (i == k) ≡ false → (suc i == suc k) ≡ false
    shifted k n = grind (arith, nat_tests)

pub when_true : {A : Type 0} (b : Bool) (Q : A → Type 0) (x y : A) → b ≡ true → Q x → Q (if b then x else y)
when_true true Q x y e q = q
when_true false Q x y e q = cc

pub when_false : {A : Type 0} (b : Bool) (Q : A → Type 0) (x y : A) → b ≡ false → Q y → Q (if b then x else y)
when_false true Q x y e q = cc
when_false false Q x y e q = q

pub same_number : (n : ℕ) → (n == n) ≡ true
same_number n = grind (arith, nat_tests)

pub both_true : (a b : Bool) → a ≡ true → b ≡ true → (a && b) ≡ true
both_true true b e f = f
both_true false b e f = cc
