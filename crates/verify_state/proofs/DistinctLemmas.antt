-- Numbers of which none stands twice, and what sorting tells of them.
use Rattle.std.proofs.Common.{◌≡◌, ◌↔◌, ℕ, ◌+◌, ◌<◌, ◌≤◌, zero, suc, Bool, true, false, not, cond, eqb}
use Rattle.std.proofs.Common.{◌||◌, List, [], ◌∷◌, length, get_or, refl, ap, sym, ◌∙◌, inl, inr, arith}
use Rattle.std.specs.Prelude.{sum_by}
use Rattle.std.specs.Cmp.{both_ways}
use Rattle.std.specs.List.Sorted.{IsPermutation, IsNonDecreasing, IsStrictlyIncreasing}
use Rattle.std.proofs.lemmas.Bool.{cases_Bool, cases_eq, and_parts, and_from, eq-eqb, ne_eqb, eqb-true, not-true}
use Rattle.std.proofs.lemmas.List.Sums.{sum_by-cons}
use Rattle.std.proofs.lemmas.List.Sorted.{sum_by-IsPermutation}
use Rattle.fc_base.specs.Counted.{has, is_distinct}

-- ---- how often a number stands in a list

abbrev one_if : Bool → ℕ
one_if b = cond b 1 0

times : ℕ → List ℕ → ℕ
times k xs = sum_by (λ j. one_if (eqb j k)) xs

times_cons : (k x : ℕ) (xs : List ℕ) → times k (x ∷ xs) ≡ one_if (eqb x k) + times k xs
unfolding times
times_cons k x xs = sum_by-cons (λ j. one_if (eqb j k)) x xs

times_none : (k : ℕ) → times k [] ≡ 0
unfolding times
times_none k = refl

-- as often as in the sorted list
times_sorted : (k : ℕ) (xs ys : List ℕ) → IsPermutation xs ys → times k ys ≡ times k xs
unfolding times
times_sorted k xs ys moved = sum_by-IsPermutation (λ j. one_if (eqb j k)) xs ys moved

here_or_there : (b c : Bool) → b ≡ true → (b || c) ≡ true
here_or_there true c e = refl
here_or_there false c e = absurd cc

absent : (xs : List ℕ) (k : ℕ) → has xs k ≡ false → times k xs ≡ 0
absent [] k none = times_none k
absent (x ∷ xs) k none = elim (cases_Bool (eqb x k)) [
  | inl is ↦ absurd (let bad : true ≡ false = sym (here_or_there (eqb x k) (has xs k) is) ∙ none in cc)
  | inr other ↦
      let rest : has xs k ≡ false = sym (ap (λ b. b || has xs k) other) ∙ none in
      times_cons k x xs ∙ ap (λ b. one_if b + times k xs) other ∙ omega (arith, absent xs k rest)
]

present : (xs : List ℕ) (k : ℕ) → times k xs ≡ 0 → has xs k ≡ false
present [] k none = refl
present (x ∷ xs) k none = elim (cases_Bool (eqb x k)) [
  | inl is ↦ absurd (omega (arith, sym (times_cons k x xs) ∙ none, ap one_if is))
  | inr other ↦ ap (λ b. b || has xs k) other ∙ present xs k (omega (arith, sym (times_cons k x xs) ∙ none))
]

-- in a list of which none stands twice, each stands at most once
once : (xs : List ℕ) (k : ℕ) → is_distinct xs ≡ true → times k xs ≤ 1
once [] k d = omega (arith, times_none k)
once (x ∷ xs) k d =
    let parts = and_parts (not (has xs x)) (is_distinct xs) d in
    elim (cases_eq x k) [
      | inl is ↦
          let none = absent xs k (ap (has xs) (sym is) ∙ not-true (has xs x) parts.0) in
          omega (arith, times_cons k x xs, ap one_if (eq-eqb x k is), none)
      | inr other ↦ omega (arith, times_cons k x xs, ap one_if (ne_eqb x k other), once xs k parts.1)
    ]

-- and where each stands at most once, none stands twice
none_twice : (xs : List ℕ) → ((k : ℕ) → times k xs ≤ 1) → is_distinct xs ≡ true
none_twice [] each = refl
none_twice (x ∷ xs) each =
    let first : times x xs ≡ 0 = omega (arith, each x, times_cons x x xs, ap one_if (eq-eqb x x refl)) in
    and_from _ _ (ap not (present xs x first)) (none_twice xs (λ k. omega (arith, each k, times_cons k x xs)))

-- ---- sorted numbers

next_is : (x : ℕ) (xs : List ℕ) (k : ℕ) → get_or (x ∷ xs) (suc k + 1) 0 ≡ get_or xs (k + 1) 0
next_is x xs k = let e : suc k + 1 ≡ suc (k + 1) = omega arith in ap (λ n. get_or (x ∷ xs) n 0) e

tail_rises : (x : ℕ) (xs : List ℕ) → IsStrictlyIncreasing (x ∷ xs) → IsStrictlyIncreasing xs
tail_rises x xs rises k lt =
    let less : get_or xs k 0 < get_or (x ∷ xs) (suc k + 1) 0 = rises (suc k) (omega arith) in
    omega (arith, less, next_is x xs k)

above : (x : ℕ) (xs : List ℕ) (j : ℕ) → IsStrictlyIncreasing (x ∷ xs) → has xs j ≡ true → x < j
above x [] j rises h = absurd cc
above x (y ∷ ys) j rises h =
    let first : x < y = rises 0 (omega arith) in
    elim (cases_Bool (eqb y j)) [
      | inl is ↦ omega (arith, first, eqb-true y j is)
      | inr other ↦ omega (arith, first, above y ys j (tail_rises x (y ∷ ys) rises) (sym (ap (λ b. b || has ys j) other) ∙ h))
    ]

no_more : (x : ℕ) (xs : List ℕ) → IsStrictlyIncreasing (x ∷ xs) → has xs x ≡ false
no_more x xs rises = elim (cases_Bool (has xs x)) [
  | inl more ↦ absurd (omega (arith, above x xs x rises more))
  | inr none ↦ none
]

rising_distinct : (xs : List ℕ) → IsStrictlyIncreasing xs → is_distinct xs ≡ true
rising_distinct [] rises = refl
rising_distinct (x ∷ xs) rises = and_from _ _ (ap not (no_more x xs rises)) (rising_distinct xs (tail_rises x xs rises))

apart : (xs : List ℕ) (k : ℕ) → is_distinct xs ≡ true → k + 1 < length xs → get_or xs k 0 ≡ get_or xs (k + 1) 0 → ⊥
apart [] k d lt same = omega arith
apart (x ∷ []) k d lt same = omega arith
apart (x ∷ y ∷ ys) zero d lt same =
    let parts = and_parts (not (has (y ∷ ys) x)) (is_distinct (y ∷ ys)) d in
    let there : has (y ∷ ys) x ≡ true = here_or_there (eqb y x) (has ys x) (eq-eqb y x (sym same)) in
    let bad : true ≡ false = sym there ∙ not-true (has (y ∷ ys) x) parts.0 in
    cc
apart (x ∷ y ∷ ys) (suc k) d lt same =
    apart (y ∷ ys) k (and_parts (not (has (y ∷ ys) x)) (is_distinct (y ∷ ys)) d).1 (omega arith) (same ∙ next_is x (y ∷ ys) k)

distinct_rises : (xs : List ℕ) → IsNonDecreasing xs → is_distinct xs ≡ true → IsStrictlyIncreasing xs
distinct_rises xs sorted d k lt =
    let le : get_or xs k 0 ≤ get_or xs (k + 1) 0 = sorted k (k + 1) 0 (omega arith) lt in
    let ne = apart xs k d lt in
    omega (arith, le, ne)

-- whether the sorted numbers rise tells whether one stands twice
pub sorted_tells : (xs ys : List ℕ) (rise : Bool) → IsPermutation xs ys → IsNonDecreasing ys → ((rise ≡ true) ↔ IsStrictlyIncreasing ys) → rise ≡ is_distinct xs
sorted_tells xs ys rise moved sorted d = both_ways rise (is_distinct xs)
    (λ r. none_twice xs (λ k. omega (arith, times_sorted k xs ys moved, once ys k (rising_distinct ys (d.0 r)))))
    (λ e. d.1 (distinct_rises ys sorted (none_twice ys (λ k. omega (arith, times_sorted k xs ys moved, once xs k e)))))
