-- Laws of lists of numbers: what is in them, and filters of the numbers below a bound. They are
-- cited from above; the proofs stand with them, and needn't be read.
use Rattle.std.proofs.Common.{◌≡◌, ℕ, ◌<◌, zero, suc, Bool, true, false, ◌&&◌, ◌||◌, eqb, ◌==◌, nat_lt, List}
use Rattle.std.proofs.Common.{[], ◌∷◌, ◌++◌, length, filter, append-nil, sym, refl, ap, ◌∙◌, inl, inr, arith}
use Rattle.std.proofs.lemmas.Bool.{cases_Bool, eqb-true, and_right}
use Rattle.std.proofs.lemmas.Bool.Decides.{nat_tests}
use Rattle.std.proofs.lemmas.List.{length_push}
use Rattle.std.proofs.lemmas.List.Elements.{filter-append}
use Rattle.std.proofs.lemmas.List.Folds.{list_any-append}
use Rattle.fc_base.specs.Counted.{has, numbers_below, is_counted, counted}

or_false : (b : Bool) → (b || false) ≡ b
or_false true = refl
or_false false = refl

-- A list with one more number has that one and those that it had.
pub has_push : (xs : List ℕ) (m k : ℕ) → has (xs ++ m ∷ []) k ≡ (has xs k || (m == k))
has_push xs m k =
    list_any-append (λ j. eqb j k) xs (m ∷ []) ∙ ap (λ b. has xs k || b) (or_false (eqb m k))

has_filter_head : (p : ℕ → Bool) (x : ℕ) (xs : List ℕ) (k : ℕ) (b : Bool) → p x ≡ b
    → has (filter p xs) k ≡ (has xs k && p k)
    → has (filter p (x ∷ xs)) k ≡ ((eqb x k || has xs k) && p k)
has_filter_head p x xs k true e ih = elim (cases_Bool (eqb x k)) [
  | inl t ↦ let here : p k ≡ true = ap p (sym (eqb-true x k t)) ∙ e in rw (e, t, here) refl
  | inr f ↦ rw (e, ih, f) refl
]
has_filter_head p x xs k false e ih = elim (cases_Bool (eqb x k)) [
  | inl t ↦
      let not_here : p k ≡ false = ap p (sym (eqb-true x k t)) ∙ e in
      rw (e) (ih ∙ and_right (has xs k) (p k) not_here
      ∙ sym (and_right (eqb x k || has xs k) (p k) not_here))
  | inr f ↦ rw (e, ih, f) refl
]

-- A filter has what the list has and passes.
pub has_filter : (p : ℕ → Bool) (xs : List ℕ) (k : ℕ) → has (filter p xs) k ≡ (has xs k && p k)
has_filter p [] k = refl
has_filter p (x ∷ xs) k = has_filter_head p x xs k (p x) refl (has_filter p xs k)

-- ---- the numbers below a bound

-- There are n numbers below n.
pub length_numbers_below : (n : ℕ) → length (numbers_below n) ≡ n
length_numbers_below zero = refl
length_numbers_below (suc n) =
    omega (arith, length_push (numbers_below n) n, length_numbers_below n)

-- The list of the numbers below n has just the numbers that are less than n.
pub has_numbers_below : (n k : ℕ) → has (numbers_below n) k ≡ nat_lt k n
has_numbers_below zero k = grind (arith, nat_tests)
has_numbers_below (suc n) k =
    has_push (numbers_below n) n k ∙ (rw (has_numbers_below n k) (grind (arith, nat_tests)))

-- Two tests that agree below n keep the same numbers below n.
pub filter_agree_below : (p q : ℕ → Bool) (n : ℕ) → ((k : ℕ) → k < n → p k ≡ q k) →
    filter p (numbers_below n) ≡ filter q (numbers_below n)
filter_agree_below p q zero agree = refl
filter_agree_below p q (suc n) agree =
    let here = agree n (omega arith) in
    let below = filter_agree_below p q n (λ k lt. agree k (omega arith)) in
    rw (
      filter-append p (numbers_below n) (n ∷ []),
      filter-append q (numbers_below n) (n ∷ []),
      below,
      here,
    ) refl

-- Where the number n passes, it stands behind those below it that do.
pub filter_next : (p : ℕ → Bool) (n : ℕ) → p n ≡ true →
    filter p (numbers_below (suc n)) ≡ filter p (numbers_below n) ++ n ∷ []
filter_next p n e = rw (filter-append p (numbers_below n) (n ∷ []), e) refl

-- Where it doesn't, it adds nothing.
pub filter_not_next : (p : ℕ → Bool) (n : ℕ) → p n ≡ false →
    filter p (numbers_below (suc n)) ≡ filter p (numbers_below n)
filter_not_next p n e =
    rw (filter-append p (numbers_below n) (n ∷ []), e) (append-nil (filter p (numbers_below n)))

-- The writes that a list counts are those that were issued and count.
pub has_counted : (window issued : ℕ) (xs : List ℕ) (k : ℕ) →
    has (counted window issued xs) k ≡ (nat_lt k issued && is_counted window issued xs k)
has_counted window issued xs k =
    has_filter (is_counted window issued xs) (numbers_below issued) k
    ∙ ap (λ b. b && is_counted window issued xs k) (has_numbers_below issued k)
