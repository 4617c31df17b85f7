-- 64 marks on the slots of a ring.
use Rattle.std.proofs.Common.{◌≡◌, ℕ, ◌+◌, ◌-◌, ◌≤◌, ◌&&◌, ◌||◌, ltb, ◌∙◌, ◌*◌, ◌/◌, ◌%◌, ◌^◌, ◌<◌, Bool, true}
use Rattle.std.proofs.Common.{false, eqb, List, length, get_or, bit_and, bit_or, refl, sym, ap, inl, inr, arith}
use Rattle.std.proofs.Math.Nat.{mod-eq_of_lt, mod-eq-sub-mod, mul-le-mul_left}
use Rattle.std.proofs.lemmas.Bool.{cases_lt, and_right, lt-ltb, le-ltb}
use Rattle.std.proofs.lemmas.Nat.Bits.{bit_at_above}
use Rattle.fc_base.specs.declared.limits.TheConstants.{MAX_WINDOW}
use Rattle.fc_base.specs.Marks.{is_marked}
use Rattle.fc_base.specs.MarkLaws.{marked_at}
use Rattle.engine.specs.InFlight.{is_set}
use Rattle.engine.proofs.BitLemmas.{bit_shr, bit_shl_low, bit_shl_high, set_or, set_and, clear_is}

-- two numbers less than a window apart have two slots
pub apart : (window low high : ℕ) → 0 < window → low < high → high < low + window → low % window ≡ high % window → ⊥
apart window low high some less near same = elim (cases_lt (low / window) (high / window)) [
  | inl more ↦ let h = mul-le-mul_left window more in omega arith
  | inr no_more ↦ let h = mul-le-mul_left window no_more in omega arith
]

-- ---- 64 slots from one on

pub and_true : (b : Bool) → (b && true) ≡ b
and_true true = refl
and_true false = refl

or_false : (b : Bool) → (b || false) ≡ b
or_false true = refl
or_false false = refl

-- the bits of the first slot's word
pub from-low : (words : List ℕ) (first i : ℕ) → first % 64 + i < 64 → is_set (get_or words (first / 64) 0 / 2 ^ (first % 64)) i ≡ is_marked words (first + i)
from-low words first i small =
    ap (λ n. eqb n 1) (bit_shr (get_or words (first / 64) 0) (first % 64) i)
    ∙ sym (marked_at words (first / 64) (first % 64 + i) (first + i) small (omega arith))

-- and those of the next one
pub from-both : (words : List ℕ) (first i : ℕ) → i < 64 → get_or words (first / 64) 0 < 2 ^ 64
    → is_set (bit_or (get_or words (first / 64) 0 / 2 ^ (first % 64)) (get_or words (first / 64 + 1) 0 * 2 ^ (64 - first % 64) % 2 ^ 64)) i
    ≡ is_marked words (first + i)
from-both words first i below small =
    let here = get_or words (first / 64) 0 in
    let next = get_or words (first / 64 + 1) 0 in
    let low = here / 2 ^ (first % 64) in
    let high = next * 2 ^ (64 - first % 64) % 2 ^ 64 in
    elim (cases_lt (first % 64 + i) 64) [
      | inl near ↦
          let clear : is_set high i ≡ false = clear_is high i (bit_shl_low next (64 - first % 64) i (omega arith) below) in
          set_or low high i ∙ ap (λ b. is_set low i || b) clear ∙ or_false (is_set low i) ∙ from-low words first i near
      | inr past ↦
          let clear : is_set low i ≡ false = clear_is low i (bit_shr here (first % 64) i ∙ bit_at_above here 64 (first % 64 + i) small past) in
          set_or low high i
          ∙ ap (λ b. b || is_set high i) clear
          ∙ ap (λ n. eqb n 1) (bit_shl_high next (64 - first % 64) i (omega arith) below)
          ∙ sym (marked_at words (first / 64 + 1) (i - (64 - first % 64)) (first + i) (omega arith) (omega arith))
    ]

-- ---- the same in a ring

-- the last slots of the ring, and then its first ones
pub around-both : (words : List ℕ) (ahead mask first length i : ℕ) → first < length → length - first < 64 → i < 64 → i < length
    → (first + i < MAX_WINDOW → is_set ahead i ≡ is_marked words (first + i)) → length ≤ MAX_WINDOW → is_set mask i ≡ ltb i (length - first)
    → is_set (bit_or (bit_and ahead mask) (get_or words 0 0 * 2 ^ (length - first) % 2 ^ 64)) i ≡ is_marked words ((first + i) % length)
around-both words ahead mask first length i within short below inside same most masked =
    let start = get_or words 0 0 * 2 ^ (length - first) % 2 ^ 64 in
    let parts : is_set (bit_or (bit_and ahead mask) start) i ≡ ((is_set ahead i && is_set mask i) || is_set start i) =
    set_or (bit_and ahead mask) start i ∙ ap (λ b. b || is_set start i) (set_and ahead mask i) in
    elim (cases_lt i (length - first)) [
      | inl near ↦
          let clear : is_set start i ≡ false = clear_is start i (bit_shl_low (get_or words 0 0) (length - first) i near below) in
          let kept : is_set mask i ≡ true = masked ∙ lt-ltb i (length - first) near in
          let slot : (first + i) % length ≡ first + i = mod-eq_of_lt (omega arith) in
          parts ∙ (rw (clear, kept, slot) (or_false (is_set ahead i && true) ∙ and_true (is_set ahead i) ∙ same (omega arith)))
      | inr past ↦
          let cut : is_set mask i ≡ false = masked ∙ le-ltb i (length - first) past in
          let slot : (first + i) % length ≡ i - (length - first) = mod-eq-sub-mod (omega arith) ∙ mod-eq_of_lt (omega arith) ∙ omega arith in
          parts
          ∙ ap (λ b. b || is_set start i) (and_right (is_set ahead i) (is_set mask i) cut)
          ∙ ap (λ n. eqb n 1) (bit_shl_high (get_or words 0 0) (length - first) i past below)
          ∙ sym (ap (is_marked words) slot ∙ marked_at words 0 (i - (length - first)) (i - (length - first)) (omega arith) (omega arith))
    ]
