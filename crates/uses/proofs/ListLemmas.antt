-- Lists that are looked through.
use Rattle.std.proofs.Common.{◌≡◌, ◌<◌, ◌==◌, ◌||◌, ℕ, zero, suc, Bool, true, false, List, [], ◌∷◌, inl, inr, refl, subst, arith}
use Rattle.std.specs.Prelude.{IsTrue, nat_lt, slice_index, Contains}
use Rattle.std.specs.List.{list_all, AllByRecursion}
use Rattle.std.proofs.lemmas.Bool.{eqb-true}
use Rattle.fc_base.specs.Counted.{has}
use Rattle.fc_base.proofs.ListLemmas.{first_of, behind_one, first_or_behind, only_in}

-- Each number that stands somewhere in a list is below 256, where each one in it is.
pub each_is_byte : (xs : List ℕ) → IsTrue (list_all (λ x. nat_lt x 256) xs) → (i : ℕ) → slice_index xs i < 256
each_is_byte [] h i = omega arith
each_is_byte (x ∷ xs) h zero = grind arith
each_is_byte (x ∷ xs) h (suc i) = each_is_byte xs (grind arith) i

-- What holds of two holds of each of both; and of three likewise.
pub of_two : {X : Type 0} (P : X → Type 0) (a b : X) → P a → P b → (x : X) → Contains (a ∷ b ∷ []) x → P x
of_two P a b first second x h =
    elim (first_or_behind a (b ∷ []) x h) [ inl e ↦ subst P e first | inr i ↦ subst P (only_in b x i) second ]

pub of_three : {X : Type 0} (P : X → Type 0) (a b c : X) → P a → P b → P c → (x : X) → Contains (a ∷ b ∷ c ∷ []) x → P x
of_three P a b c first second third x h =
    elim (first_or_behind a (b ∷ c ∷ []) x h) [ inl e ↦ subst P e first | inr i ↦ of_two P b c second third x i ]

-- The second of a list is in it.
pub second_of : {X : Type 0} (a b : X) (xs : List X) → Contains (a ∷ b ∷ xs) b
second_of a b xs = behind_one a (b ∷ xs) b (first_of b xs)

-- What holds of each number of a list holds of one that it has.
this_or_others : (P : ℕ → Type 0) (x k : ℕ) (others b : Bool) → (x == k) ≡ b → P x → (IsTrue others → P k) → IsTrue (b || others) → P k
this_or_others P x k others true e this rest h = subst P (eqb-true x k e) this
this_or_others P x k others false e this rest h = rest h

pub of_those : (P : ℕ → Type 0) (xs : List ℕ) → AllByRecursion P xs → (k : ℕ) → IsTrue (has xs k) → P k
of_those P [] all k h = absurd cc
of_those P (x ∷ xs) all k h = this_or_others P x k (has xs k) (x == k) refl all.0 (of_those P xs all.1 k) h
