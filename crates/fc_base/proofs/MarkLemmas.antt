-- Marks: a bit that is written, and where the bits of the words end.
use Rattle.std.proofs.Common.{◌≡◌, ◌↔◌, ℕ, ◌+◌, ◌-◌, ◌*◌, ◌/◌, ◌%◌, ◌^◌, ◌<◌, ◌≤◌, Bool, true, false, cond, eqb, ◌&&◌, List, length}
use Rattle.std.proofs.Common.{get_or, refl, ap, sym, ◌∙◌, inl, inr, arith, set, bit_and, bit_or, w64, get_or-set_same, get_or-set_other}
use Rattle.std.specs.Cmp.{both_ways}
use Rattle.std.specs.Int.{bit_at, bit_not}
use Rattle.std.proofs.lemmas.Bool.{eqb-true, eq-eqb, ne_eqb, and_parts, and_from, cases_eq, cases_lt}
use Rattle.std.proofs.lemmas.Nat.Bits.{bit_at-lt, bit_at-zero, bit_at_above, same_from_bits, bit_at_set_same}
use Rattle.std.proofs.lemmas.Nat.Bits.{bit_at_set_other, bit_at_clear_same, bit_at_clear_other}
use Rattle.std.proofs.lemmas.Nat.{pow-add}
use Rattle.std.proofs.Math.Nat.{div-div-eq-div-mul}
use Rattle.fc_base.specs.Marks.{ends_by}
use Rattle.fc_base.specs.MarkLaws.{marked_at, bit_of_test, bits_end, ends_where}

-- ---- one bit written

abbrev marked_in : List ℕ → ℕ → Bool
marked_in words slot = eqb (bit_at (get_or words (slot / 64) 0) (slot % 64)) 1

-- a word is written, whose other bits stay: the slot's bit is b, and the other slots are as before
written : (words : List ℕ) (slot word bit : ℕ) (b : Bool) (i : ℕ) → length words ≡ 4 → slot < 256 → bit_at word (slot % 64) ≡ bit → eqb bit 1 ≡ b
    → ((k : ℕ) → k < 64 → (k ≡ slot % 64 → ⊥) → bit_at word k ≡ bit_at (get_or words (slot / 64) 0) k) → i < 256
    → marked_in (set words (slot / 64) word) i ≡ cond (eqb i slot) b (marked_in words i)
written words slot word bit b i four within same said others below =
    let inside : slot / 64 < length words = omega arith in
    elim (cases_eq (i / 64) (slot / 64)) [
      | inl here ↦ elim (cases_eq (i % 64) (slot % 64)) [
        | inl at ↦
            let e : i ≡ slot = omega arith in
            rw (e, eq-eqb slot slot refl, get_or-set_same words (slot / 64) word 0 inside, same) said
        | inr apart ↦
            let ne : i ≡ slot → ⊥ = λ e. apart (ap (λ n. n % 64) e) in
            let kept = others (i % 64) (omega arith) apart in
            rw (ne_eqb i slot ne, here, get_or-set_same words (slot / 64) word 0 inside, kept) refl
      ]
      | inr apart ↦
          let ne : i ≡ slot → ⊥ = λ e. apart (ap (λ n. n / 64) e) in
          rw (ne_eqb i slot ne, get_or-set_other words (slot / 64) (i / 64) word 0 apart) refl
    ]

pub marked-set : (words : List ℕ) (slot i : ℕ) → length words ≡ 4 → slot < 256 → i < 256
    → marked_in (set words (slot / 64) (bit_or (get_or words (slot / 64) 0) (1 * 2 ^ (slot % 64) % 2 ^ 64))) i ≡ cond (eqb i slot) true (marked_in words i)
marked-set words slot i four within below =
    let n = get_or words (slot / 64) 0 in
    written words slot _ 1 true i four within (bit_at_set_same w64 n (slot % 64) (omega arith)) refl
    (λ k small ne. bit_at_set_other w64 n (slot % 64) (omega arith) k ne) below

pub marked-clear : (words : List ℕ) (slot i : ℕ) → length words ≡ 4 → slot < 256 → i < 256
    → marked_in (set words (slot / 64) (bit_and (get_or words (slot / 64) 0) (bit_not w64 (1 * 2 ^ (slot % 64) % 2 ^ 64)))) i
    ≡ cond (eqb i slot) false (marked_in words i)
marked-clear words slot i four within below =
    let n = get_or words (slot / 64) 0 in
    written words slot _ 0 false i four within (bit_at_clear_same w64 n (slot % 64) (omega arith)) refl
    (λ k small ne. bit_at_clear_other w64 n (slot % 64) (omega arith) k small ne) below

-- ---- where the bits end

-- the bits from one on are those of the word shifted down
bit_shifted : (w k i : ℕ) → bit_at (w / 2 ^ k) i ≡ bit_at w (k + i)
bit_shifted w k i = ap (λ n. n % 2) (div-div-eq-div-mul w (2 ^ k) (2 ^ i) ∙ ap (λ n. w / n) (sym (pow-add 2 k i)))

bits_gone : (w k : ℕ) → w < 2 ^ 64 → ((i : ℕ) → k ≤ i → i < 64 → bit_at w i ≡ 0) → w / 2 ^ k ≡ 0
bits_gone w k small each = same_from_bits (w / 2 ^ k) 0 (λ i. bit_shifted w k i ∙ elim (cases_lt (k + i) 64) [
  | inl inside ↦ each (k + i) (omega arith) inside ∙ sym (bit_at-zero i)
  | inr past ↦ bit_at_above w 64 (k + i) small past ∙ sym (bit_at-zero i)
])

bit_gone : (w k i : ℕ) → w / 2 ^ k ≡ 0 → k ≤ i → bit_at w i ≡ 0
bit_gone w k i none low = ap (bit_at w) (omega arith) ∙ sym (bit_shifted w k (i - k)) ∙ ap (λ n. bit_at n (i - k)) none ∙ bit_at-zero (i - k)

pub word_ends : (w k : ℕ) → w < 2 ^ 64 → (eqb (w / 2 ^ k) 0 ≡ true → (i : ℕ) → k ≤ i → i < 64 → bit_at w i ≡ 0)
    × (((i : ℕ) → k ≤ i → i < 64 → bit_at w i ≡ 0) → eqb (w / 2 ^ k) 0 ≡ true)
word_ends w k small = (λ e i low high. bit_gone w k i (eqb-true (w / 2 ^ k) 0 e) low, λ each. eq-eqb (w / 2 ^ k) 0 (bits_gone w k small each))

abbrev pub WordEnds : ℕ → ℕ → Type 0
WordEnds w k = (i : ℕ) → k ≤ i → i < 64 → bit_at w i ≡ 0

-- a bit is not set
bit_clear : (n : ℕ) → n ≡ 0 → eqb n 1 ≡ false
bit_clear n e = ap (λ m. eqb m 1) e

clear_bit : (n : ℕ) → n < 2 → eqb n 1 ≡ false → n ≡ 0
clear_bit n small e = bit_of_test n false small e

-- the four words end where the marks do
pub ends_each : (n : ℕ) (marks : List ℕ) → WordEnds (get_or marks 0 0) n → WordEnds (get_or marks 1 0) (n - 64) → WordEnds (get_or marks 2 0) (n - 128)
    → WordEnds (get_or marks 3 0) (n - 192) → ends_by n marks ≡ true
ends_each n marks a b c d = ends_where n marks (λ i low high. elim (cases_lt i 64) [
  | inl x ↦ marked_at marks 0 i i x (omega arith) ∙ bit_clear _ (a i low x)
  | inr x ↦ elim (cases_lt i 128) [
    | inl y ↦ marked_at marks 1 (i - 64) i (omega arith) (omega arith) ∙ bit_clear _ (b (i - 64) (omega arith) (omega arith))
    | inr y ↦ elim (cases_lt i 192) [
      | inl z ↦ marked_at marks 2 (i - 128) i (omega arith) (omega arith) ∙ bit_clear _ (c (i - 128) (omega arith) (omega arith))
      | inr z ↦ marked_at marks 3 (i - 192) i (omega arith) (omega arith) ∙ bit_clear _ (d (i - 192) (omega arith) (omega arith))
    ]
  ]
])

each_ends : (n : ℕ) (marks : List ℕ) (j : ℕ) → j < 4 → ends_by n marks ≡ true → WordEnds (get_or marks j 0) (n - 64 * j)
each_ends n marks j few ends i low high =
    clear_bit _ (bit_at-lt _ i) (sym (marked_at marks j i (64 * j + i) high refl) ∙ bits_end n marks ends (64 * j + i) (omega arith) (omega arith))

pub ends_as_tested : (n : ℕ) (marks : List ℕ) (a b c d : Bool) → ((a ≡ true) ↔ WordEnds (get_or marks 0 0) n)
    → ((b ≡ true) ↔ WordEnds (get_or marks 1 0) (n - 64)) → ((c ≡ true) ↔ WordEnds (get_or marks 2 0) (n - 128))
    → ((d ≡ true) ↔ WordEnds (get_or marks 3 0) (n - 192)) → (a && b && c && d) ≡ ends_by n marks
ends_as_tested n marks a b c d da db dc dd = both_ways _ _
    (λ all.
    let three = and_parts (a && b && c) d all in
    let two = and_parts (a && b) c three.0 in
    let one = and_parts a b two.0 in
    ends_each n marks (da.0 one.0) (db.0 one.1) (dc.0 two.1) (dd.0 three.1))
    (λ ends.
    and_from _ _ (and_from _ _ (and_from _ _ (da.1 (λ i low high. each_ends n marks 0 (omega arith) ends i (omega arith) high))
    (db.1 (each_ends n marks 1 (omega arith) ends))) (dc.1 (each_ends n marks 2 (omega arith) ends))) (dd.1 (each_ends n marks 3 (omega arith) ends)))
