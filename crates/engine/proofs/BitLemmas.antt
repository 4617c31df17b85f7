-- One bit of a word: of shifts, and of what is in both, in either or not in it.
use Rattle.std.proofs.Common.{◌≡◌, ℕ, ◌+◌, ◌-◌, ◌*◌, ◌/◌, ◌%◌, ◌^◌, ◌<◌, ◌≤◌, zero, suc, true, false, ◌&&◌, ◌||◌}
use Rattle.std.proofs.Common.{not, eqb, ltb, bit_and, bit_or, max, min, sym, refl, ap, ◌∙◌, inl, inr, arith, w64}
use Rattle.std.specs.Int.{bit_at, bit_not}
use Rattle.std.proofs.Math.Nat.{div-div-eq-div-mul, add-zero}
use Rattle.std.proofs.lemmas.Bool.{cases_lt, lt-ltb, le-ltb}
use Rattle.std.proofs.lemmas.Nat.{pow-add, pow_pos, pow_below, div-add-mod'}
use Rattle.std.proofs.lemmas.Nat.Bits.{bit_at_and, bit_at_or, bit_at_not, bit_at-lt, bit_at-zero, bit_at_cat_low}
use Rattle.std.proofs.lemmas.Nat.Bits.{bit_at_cat_high, bit_at_ones, bit_at_ones_above, ones_shl}
use Rattle.engine.specs.InFlight.{is_set}

-- ---- shifts

-- n >> k
pub bit_shr : (n k i : ℕ) → bit_at (n / 2 ^ k) i ≡ bit_at n (k + i)
bit_shr n k i = ap (λ m. m % 2) (div-div-eq-div-mul n (2 ^ k) (2 ^ i) ∙ ap (λ m. n / m) (sym (pow-add 2 k i)))

bit_mod : (n w i : ℕ) → i < w → bit_at (n % 2 ^ w) i ≡ bit_at n i
bit_mod n w i small =
    sym (bit_at_cat_low (n / 2 ^ w) w (n % 2 ^ w) i small) ∙ ap (λ m. bit_at m i) (div-add-mod' n (2 ^ w))

-- n << k
pub bit_shl_low : (n k i : ℕ) → i < k → i < 64 → bit_at (n * 2 ^ k % 2 ^ 64) i ≡ 0
bit_shl_low n k i low small =
    bit_mod (n * 2 ^ k) 64 i small
    ∙ ap (λ m. bit_at m i) (sym (add-zero (n * 2 ^ k)))
    ∙ bit_at_cat_low n k 0 i low
    ∙ bit_at-zero i

pub bit_shl_high : (n k i : ℕ) → k ≤ i → i < 64 → bit_at (n * 2 ^ k % 2 ^ 64) i ≡ bit_at n (i - k)
bit_shl_high n k i high small =
    bit_mod (n * 2 ^ k) 64 i small
    ∙ ap (λ m. bit_at m i) (sym (add-zero (n * 2 ^ k)))
    ∙ bit_at_cat_high n k 0 i (pow_pos k) high

-- ---- whether a bit is set

one_max : (m n : ℕ) → m < 2 → n < 2 → eqb (max m n) 1 ≡ (eqb m 1 || eqb n 1)
one_max zero zero a b = refl
one_max zero (suc zero) a b = refl
one_max (suc zero) zero a b = refl
one_max (suc zero) (suc zero) a b = refl
one_max (suc (suc m)) n a b = absurd (omega arith)
one_max m (suc (suc n)) a b = absurd (omega arith)

one_min : (m n : ℕ) → m < 2 → n < 2 → eqb (min m n) 1 ≡ (eqb m 1 && eqb n 1)
one_min zero zero a b = refl
one_min zero (suc zero) a b = refl
one_min (suc zero) zero a b = refl
one_min (suc zero) (suc zero) a b = refl
one_min (suc (suc m)) n a b = absurd (omega arith)
one_min m (suc (suc n)) a b = absurd (omega arith)

one_less : (m : ℕ) → m < 2 → eqb (1 - m) 1 ≡ not (eqb m 1)
one_less zero a = refl
one_less (suc zero) a = refl
one_less (suc (suc m)) a = absurd (omega arith)

pub set_or : (a b i : ℕ) → is_set (bit_or a b) i ≡ (is_set a i || is_set b i)
set_or a b i = ap (λ n. eqb n 1) (bit_at_or a b i) ∙ one_max (bit_at a i) (bit_at b i) (bit_at-lt a i) (bit_at-lt b i)

pub set_and : (a b i : ℕ) → is_set (bit_and a b) i ≡ (is_set a i && is_set b i)
set_and a b i = ap (λ n. eqb n 1) (bit_at_and a b i) ∙ one_min (bit_at a i) (bit_at b i) (bit_at-lt a i) (bit_at-lt b i)

pub set_not : (n i : ℕ) → n < 2 ^ 64 → i < 64 → is_set (bit_not w64 n) i ≡ not (is_set n i)
set_not n i small below = ap (λ m. eqb m 1) (bit_at_not w64 n i small below) ∙ one_less (bit_at n i) (bit_at-lt n i)

pub clear_is : (n i : ℕ) → bit_at n i ≡ 0 → is_set n i ≡ false
clear_is n i e = ap (λ m. eqb m 1) e

pub set_is : (n i : ℕ) → bit_at n i ≡ 1 → is_set n i ≡ true
set_is n i e = ap (λ m. eqb m 1) e

-- ---- a word whose lowest bits are set

low_ones : (count i : ℕ) → is_set (2 ^ count - 1) i ≡ ltb i count
low_ones count i = elim (cases_lt i count) [
  | inl below ↦ set_is _ i (bit_at_ones count i below) ∙ sym (lt-ltb i count below)
  | inr past ↦ clear_is _ i (bit_at_ones_above count i past) ∙ sym (le-ltb i count past)
]

-- !(MAX << count)
pub low_bits_are : (count i : ℕ) → count < 64 → is_set (bit_not w64 ((2 ^ 64 - 1) * 2 ^ count % 2 ^ 64)) i ≡ ltb i count
low_bits_are count i small =
    let one : 0 < 2 ^ count = pow_pos count in
    let less : 2 ^ count < 2 ^ 64 = pow_below count 64 small in
    ap (λ n. is_set (bit_not w64 n) i) (ones_shl 64 count (omega arith))
    ∙ ap (λ n. is_set n i) (let e : bit_not w64 (2 ^ 64 - 2 ^ count) ≡ 2 ^ count - 1 = omega arith in e)
    ∙ low_ones count i

pub all_bits_are : (count i : ℕ) → 64 ≤ count → i < 64 → is_set (2 ^ 64 - 1) i ≡ ltb i count
all_bits_are count i many small = low_ones 64 i ∙ lt-ltb i 64 small ∙ sym (lt-ltb i count (omega arith))
