-- What the digits that are left come to, and when a numeral is none.
use Rattle.std.proofs.Common.{◌≡◌, ℕ, ◌+◌, ◌*◌, ◌^◌, ◌<◌, ◌≤◌, Bool, true, false, cond, ◌&&◌, List, []}
use Rattle.std.proofs.Common.{◌∷◌, length, get_or, drop, None, refl, sym, ◌∙◌, ap, inl, inr, ◌⊎◌, arith}
use Rattle.std.specs.Char.{is_digit, digit_value}
use Rattle.std.specs.List.{list_all}
use Rattle.std.specs.Str.Parse.{digits_value, digits_value_after}
use Rattle.std.proofs.lemmas.Bool.Decides.{nat_tests}
use Rattle.std.proofs.lemmas.List.{at_drop_more}
use Rattle.std.proofs.Math.Nat.{mul-le-mul_left}
use Rattle.job_file.specs.Number.{numeral, fitting, with_digit}

-- More digits never make a number smaller.
digits_value_after-ge : (radix n : ℕ) (ds : List ℕ) → 1 ≤ radix → n ≤ digits_value_after radix n ds
digits_value_after-ge radix n [] low = omega arith
digits_value_after-ge radix n (d ∷ ds) low =
    omega (arith, digits_value_after-ge radix (n * radix + digit_value d) ds low, mul-le-mul_left {m = 1} {n = radix} n low)

-- A number that 64 bits don't hold is none.
numeral_past : (radix : ℕ) (ds : List ℕ) → 2 ^ 64 ≤ digits_value radix ds → numeral radix ds ≡ None
numeral_past radix ds past = grind (arith, nat_tests)

-- What has another character than digits is none.
numeral_other : (radix : ℕ) (ds : List ℕ) → list_all (λ c. is_digit c radix) ds ≡ false → numeral radix ds ≡ None
numeral_other radix ds other = grind (arith, nat_tests)

-- The digits from some one on, behind the value so far, come to what all of them come to.
pub record IsSoFar (radix : ℕ) (ds : List ℕ) (i n : ℕ) : Type 0 where
  pub value : digits_value_after radix n (drop i ds) ≡ digits_value radix ds
  pub digits : list_all (λ c. is_digit c radix) (drop i ds) ≡ list_all (λ c. is_digit c radix) ds
  pub fits : n < 2 ^ 64

fitting_none : (m : ℕ) → fitting m ≡ None → 2 ^ 64 ≤ m
fitting_none m none = grind (arith, nat_tests)

-- Where nothing is added, it is no digit, or one too many.
none_added : (is_one : Bool) (m : ℕ) → cond is_one (fitting m) None ≡ None → (is_one ≡ false) ⊎ (2 ^ 64 ≤ m)
none_added false m none = inl refl
none_added true m none = inr (fitting_none m none)

-- A digit that can't be added leaves no number.
pub numeral_stops : (radix : ℕ) (ds : List ℕ) (i n : ℕ) → 1 ≤ radix → i < length ds → IsSoFar radix ds i n → with_digit n radix (get_or ds i 0) ≡ None
    → numeral radix ds ≡ None
numeral_stops radix ds i n low more so_far none =
    let c = get_or ds i 0 in
    let all = at_drop_more (list_all (λ d. is_digit d radix)) ds i 0 more in
    let value = at_drop_more (digits_value_after radix n) ds i 0 more in
    elim (none_added (is_digit c radix) (n * radix + digit_value c) none) [
      | inl other ↦ numeral_other radix ds (sym so_far.digits ∙ all ∙ ap (λ b. b && list_all (λ d. is_digit d radix) (drop (i + 1) ds)) other)
      | inr past ↦ numeral_past radix ds (omega (arith, so_far.value, value, digits_value_after-ge radix (n * radix + digit_value c) (drop (i + 1) ds) low))
    ]
