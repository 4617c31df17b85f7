-- Lists of numbers: what is in them, filters of the numbers below a bound, and the last of a list.
use Rattle.std.proofs.Common.{◌≡◌, ℕ, ◌+◌, ◌-◌, ◌<◌, ◌≤◌, zero, suc, Bool, true, false, ◌&&◌, ◌||◌, not, eqb}
use Rattle.std.proofs.Common.{List, [], ◌∷◌, ◌++◌, length, filter, drop, sym, refl, ap, ◌∙◌, inl, inr, arith}
use Rattle.std.specs.List.{list_any, IsDistinct}
use Rattle.std.specs.Cmp.{nat_eq_equiv}
use Rattle.std.specs.Prelude.{nat_eq}
use Rattle.std.proofs.lemmas.Bool.{cases_Bool, eq-eqb, ne_eqb, cases_eq, or_left, or_right, and_right, not_from_true}
use Rattle.std.proofs.lemmas.Bool.Decides.{nat_tests}
use Rattle.std.proofs.lemmas.List.{length_push, length-drop, drop-append-le, drop-drop}
use Rattle.std.proofs.lemmas.List.Elements.{filter_agree}
use Rattle.std.proofs.lemmas.List.Folds.{list_any-append}
use Rattle.std.proofs.lemmas.Map.Keys.{IsDistinct-tail}
use Rattle.std.proofs.lemmas.Map.Made.{length-le_from_is_member}
use Rattle.fc_base.specs.Counted.{has, numbers_below}
use Rattle.fc_base.specs.NumberLaws.{has_push, filter_agree_below, filter_next, filter_not_next}
use Rattle.engine.specs.Numbers.{last_of, without}

pub eqb_comm : (j k : ℕ) → eqb j k ≡ eqb k j
eqb_comm j k = grind (arith, nat_tests)

pub has_append_right : (xs ys : List ℕ) (k : ℕ) → has ys k ≡ true → has (xs ++ ys) k ≡ true
has_append_right xs ys k e = list_any-append (λ j. eqb j k) xs ys ∙ or_right (has xs k) (has ys k) e

pub has_head : (k : ℕ) (xs : List ℕ) → has (k ∷ xs) k ≡ true
has_head k xs = or_left (eqb k k) (has xs k) (eq-eqb k k refl)

pub has_drop : (n : ℕ) (xs : List ℕ) (k : ℕ) → has (drop n xs) k ≡ true → has xs k ≡ true
has_drop zero xs k e = e
has_drop (suc n) [] k e = e
has_drop (suc n) (x ∷ xs) k e = or_right (eqb x k) (has xs k) (has_drop n xs k e)

-- the same test, read the other way
pub has_is_member : (xs : List ℕ) (k : ℕ) → list_any (eqb k) xs ≡ has xs k
has_is_member [] k = refl
has_is_member (x ∷ xs) k = rw (eqb_comm k x, has_is_member xs k) refl

-- ---- filters

filter_twice_head : (p q : ℕ → Bool) (x : ℕ) (xs : List ℕ) (b : Bool) → p x ≡ b → filter q (filter p xs) ≡ filter (λ y. p y && q y) xs
    → filter q (filter p (x ∷ xs)) ≡ filter (λ y. p y && q y) (x ∷ xs)
filter_twice_head p q x xs true e ih = rw (e, ih) refl
filter_twice_head p q x xs false e ih = rw (e, ih) refl

-- a filter of a filter
pub filter_twice : (p q : ℕ → Bool) (xs : List ℕ) → filter q (filter p xs) ≡ filter (λ x. p x && q x) xs
filter_twice p q [] = refl
filter_twice p q (x ∷ xs) = filter_twice_head p q x xs (p x) refl (filter_twice p q xs)

not_either : (a b c : Bool) → b ≡ c → not (a || b) ≡ (not a && not c)
not_either true b c e = refl
not_either false b c e = ap not e

and_comm : (a b : Bool) → (a && b) ≡ (b && a)
and_comm true true = refl
and_comm true false = refl
and_comm false true = refl
and_comm false false = refl

-- what is in neither list, where one list has one number more
pub filter_not_push : (taken : List ℕ) (m : ℕ) (xs : List ℕ) → filter (λ k. not (has (taken ++ m ∷ []) k)) xs ≡ without m (filter (λ k. not (has taken k)) xs)
filter_not_push taken m xs =
    filter_agree (λ k. not (has (taken ++ m ∷ []) k)) (λ k. not (has taken k) && not (eqb k m))
    (λ k. ap not (has_push taken m k) ∙ not_either (has taken k) (eqb m k) (eqb k m) (eqb_comm m k)) xs
    ∙ sym (filter_twice (λ k. not (has taken k)) (λ k. not (eqb k m)) xs)

pub filter-without : (p : ℕ → Bool) (m : ℕ) (xs : List ℕ) → filter p (without m xs) ≡ without m (filter p xs)
filter-without p m xs =
    let q = λ (k : ℕ). not (eqb k m) in
    filter_twice q p xs
    ∙ filter_agree (λ k. q k && p k) (λ k. p k && q k) (λ k. and_comm (q k) (p k)) xs
    ∙ sym (filter_twice p q xs)

-- ---- the numbers below a bound

pub and_not : (a b : Bool) → b ≡ false → (a && not b) ≡ a
and_not true b e = ap not e
and_not false b e = refl

-- one number less passes
pub length_filter_without : (p : ℕ → Bool) (n k : ℕ) → k < n → p k ≡ true
    → length (filter (λ j. p j && not (eqb j k)) (numbers_below n)) + 1 ≡ length (filter p (numbers_below n))
length_filter_without p zero k lt e = absurd (omega arith)
length_filter_without p (suc n) k lt e =
    let q = λ (j : ℕ). p j && not (eqb j k) in
    elim (cases_eq n k) [
      | inl here ↦
          let passes : p n ≡ true = ap p here ∙ e in
          let fails : q n ≡ false = and_right (p n) (not (eqb n k)) (not_from_true (eqb n k) (eq-eqb n k here)) in
          let same = filter_agree_below q p n (λ j below. and_not (p j) (eqb j k) (ne_eqb j k (λ h. omega arith))) in
          omega (arith, ap length (filter_not_next q n fails), ap length (filter_next p n passes), length_push (filter p (numbers_below n)) n, ap length same)
      | inr other ↦
          let below = length_filter_without p n k (omega arith) e in
          let same : q n ≡ p n = and_not (p n) (eqb n k) (ne_eqb n k other) in
          elim (cases_Bool (p n)) [
            | inl t ↦ omega (
              arith,
              ap length (filter_next q n (same ∙ t)),
              ap length (filter_next p n t),
              length_push (filter p (numbers_below n)) n,
              length_push (filter q (numbers_below n)) n,
            )
            | inr f ↦ omega (arith, ap length (filter_not_next q n (same ∙ f)), ap length (filter_not_next p n f))
          ]
    ]

-- ---- the last of a list

pub last_of_push : (n : ℕ) (xs : List ℕ) (k : ℕ) → last_of n (last_of n xs ++ k ∷ []) ≡ last_of n (xs ++ k ∷ [])
last_of_push n xs k =
    let cut = drop-append-le (length xs - n) xs (k ∷ []) (omega arith) in
    let long = length_push (last_of n xs) k in
    let at : length xs - n + (length (last_of n xs ++ k ∷ []) - n) ≡ length (xs ++ k ∷ []) - n =
    omega (arith, long, length-drop (length xs - n) xs, length_push xs k) in
    ap (drop (length (last_of n xs ++ k ∷ []) - n)) (sym cut)
    ∙ drop-drop (length (last_of n xs ++ k ∷ []) - n) (length xs - n) (xs ++ k ∷ [])
    ∙ ap (λ m. drop m (xs ++ k ∷ [])) at

pub has_last_of : (n : ℕ) (xs : List ℕ) (k : ℕ) → has (last_of n xs) k ≡ true → has xs k ≡ true
has_last_of n xs k e = has_drop (length xs - n) xs k e

pub IsDistinct-drop : (n : ℕ) (xs : List ℕ) → IsDistinct nat_eq xs → IsDistinct nat_eq (drop n xs)
IsDistinct-drop zero xs d = d
IsDistinct-drop (suc n) [] d = d
IsDistinct-drop (suc n) (x ∷ xs) d = IsDistinct-drop n xs (IsDistinct-tail nat_eq x xs d)

-- ---- numbers in a range

abbrev numbers_from : ℕ → ℕ → List ℕ
numbers_from low zero = []
numbers_from low (suc n) = low ∷ numbers_from (suc low) n

length_numbers_from : (low n : ℕ) → length (numbers_from low n) ≡ n
length_numbers_from low zero = refl
length_numbers_from low (suc n) = ap suc (length_numbers_from (suc low) n)

has_numbers_from : (low n k : ℕ) → low ≤ k → k < low + n → has (numbers_from low n) k ≡ true
has_numbers_from low zero k le lt = absurd (omega arith)
has_numbers_from low (suc n) k le lt = elim (cases_eq low k) [
  | inl e ↦ or_left (eqb low k) (has (numbers_from (suc low) n) k) (eq-eqb low k e)
  | inr ne ↦ or_right (eqb low k) (has (numbers_from (suc low) n) k) (has_numbers_from (suc low) n k (omega arith) (omega arith))
]

-- numbers from a range, none of them twice, are no more than its length
pub length-le_from_range : (low n : ℕ) (xs : List ℕ) → IsDistinct nat_eq xs → ((k : ℕ) → has xs k ≡ true → (low ≤ k) × (k < low + n)) → length xs ≤ n
length-le_from_range low n xs d within =
    omega (
      arith,
      length_numbers_from low n,
      length-le_from_is_member nat_eq_equiv xs (numbers_from low n) d
          (λ q m. has_is_member (numbers_from low n) q ∙ has_numbers_from low n q ((within q (sym (has_is_member xs q) ∙ m)).0)
          ((within q (sym (has_is_member xs q) ∙ m)).1)),
    )
