-- Laws of marks: bit for bit what they were made of, and made of their bits. They are cited from
-- above; the proofs stand with them, and needn't be read.
use Rattle.std.proofs.Common.{◌≡◌, ℕ, ◌+◌, ◌-◌, ◌*◌, ◌/◌, ◌%◌, ◌^◌, ◌<◌, ◌≤◌, zero, suc, Bool, true, false, not, cond, eqb, ltb}
use Rattle.std.proofs.Common.{◌==◌, slice_index, List, [], ◌∷◌, length, get_or, map, refl, ap, sym, ◌∙◌, subst, inl, inr, arith}
use Rattle.std.specs.List.{AllByRecursion, range_with_len, list_all}
use Rattle.std.specs.Int.{bit_at}
use Rattle.std.proofs.lemmas.Bool.{cases_Bool, eqb-true, eq-eqb, ltb-true, ltb-false, and_parts, and_from, cases_eq, not-true}
use Rattle.std.proofs.lemmas.List.FromFn.{get_or-map-range_with_len, length-map-range_with_len}
use Rattle.std.proofs.lemmas.Nat.Bits.{same_from_bits_below, bit_at-lt, bit_at-zero}
use Rattle.std.proofs.lemmas.Simd.{mask_l-lt, bit_mask_l}
use lib.Lanes.{mask_l}
use Rattle.fc_base.specs.declared.limits.TheConstants.{MAX_WINDOW}
use Rattle.fc_base.specs.Marks.{word_of, marks_of, is_marked, ends_by}

-- ---- one word

bit_of_range : (p : ℕ → Bool) (first n i : ℕ) → i < n
    → bit_at (mask_l (map p (range_with_len first n))) i ≡ cond (p (first + i)) 1 0
bit_of_range p first n i small =
    bit_mask_l (map p (range_with_len first n)) i
    ∙ ap (λ b. cond b 1 0) (get_or-map-range_with_len p first n i (first + i) false small refl)

range_limit : (p : ℕ → Bool) (first n : ℕ) → mask_l (map p (range_with_len first n)) < 2 ^ n
range_limit p first n =
    let e = length-map-range_with_len p first n in
    subst (λ m. mask_l (map p (range_with_len first n)) < 2 ^ m) e
    (mask_l-lt (map p (range_with_len first n)))

bit_word : (p : ℕ → Bool) (first i : ℕ) → i < 64
    → bit_at (word_of p first) i ≡ cond (p (first + i)) 1 0
unfolding word_of
bit_word p first i small = bit_of_range p first 64 i small

word_limit : (p : ℕ → Bool) (first : ℕ) → word_of p first < 2 ^ 64
unfolding word_of
word_limit p first = range_limit p first 64

one_where : (b : Bool) → eqb (cond b 1 0) 1 ≡ b
one_where true = refl
one_where false = refl

bit_passes : (p : ℕ → Bool) (first i : ℕ) → i < 64
    → eqb (bit_at (word_of p first) i) 1 ≡ p (first + i)
bit_passes p first i small =
    ap (λ n. eqb n 1) (bit_word p first i small) ∙ one_where (p (first + i))

-- A bit that is told by a test.
pub bit_of_test : (n : ℕ) (b : Bool) → n < 2 → eqb n 1 ≡ b → n ≡ cond b 1 0
bit_of_test n true small e = eqb-true n 1 e
bit_of_test n false small e = elim (cases_Bool (eqb n 1)) [
  | inl t ↦ absurd (let bad : true ≡ false = sym t ∙ e in cc)
  | inr f ↦ let ne : n ≡ 1 → ⊥ =
      (λ one. let bad : true ≡ false = sym (eq-eqb n 1 one) ∙ f in cc) in omega arith
]

-- A word whose bits tell which of 64 numbers pass is the word of these.
pub word_from_bits : (w : ℕ) (p : ℕ → Bool) (first : ℕ) → w < 2 ^ 64 →
    ((i : ℕ) → i < 64 → (bit_at w i == 1) ≡ p (first + i)) → w ≡ word_of p first
word_from_bits w p first small bits =
    same_from_bits_below 64 w (word_of p first) small (word_limit p first)
    (λ i h. bit_of_test (bit_at w i) (p (first + i)) (bit_at-lt w i) (bits i h)
    ∙ sym (bit_word p first i h))

-- ---- four words

-- Bit i of word j is bit 64 j + i of the marks.
pub marked_at : (marks : List ℕ) (j i k : ℕ) → i < 64 → 64 * j + i ≡ k →
    is_marked marks k ≡ (bit_at (slice_index marks j) i == 1)
unfolding is_marked
marked_at marks j i k small e =
    let word : k / 64 ≡ j = omega arith in
    let bit : k % 64 ≡ i = omega arith in
    rw (word, bit) refl

passes_in : (p : ℕ → Bool) (floor j i k : ℕ) → (w : ℕ) → get_or (marks_of p floor) j 0 ≡ w
    → w ≡ word_of p (floor + 64 * j) → i < 64 → 64 * j + i ≡ k
    → is_marked (marks_of p floor) k ≡ p (floor + k)
passes_in p floor j i k w here is small e =
    marked_at (marks_of p floor) j i k small e
    ∙ ap (λ n. eqb (bit_at n i) 1) (here ∙ is)
    ∙ bit_passes p (floor + 64 * j) i small
    ∙ ap p (omega arith)

first_word : (p : ℕ → Bool) (floor : ℕ) → word_of p floor ≡ word_of p (floor + 64 * 0)
first_word p floor = ap (word_of p) (omega arith)

-- Bit i of the marks of a test tells whether number floor + i passes.
pub marked_passes : (p : ℕ → Bool) (floor i : ℕ) → i < MAX_WINDOW
    → is_marked (marks_of p floor) i ≡ p (floor + i)
marked_passes p floor i small = elim (cases_Bool (ltb i 64)) [
  | inl a ↦ passes_in p floor 0 i i _ refl (first_word p floor) (ltb-true i 64 a) (omega arith)
  | inr a ↦ elim (cases_Bool (ltb i 128)) [
    | inl b ↦ passes_in p floor 1 (i - 64) i _ refl refl (omega (arith, ltb-true i 128 b))
        (omega (arith, ltb-false i 64 a))
    | inr b ↦ elim (cases_Bool (ltb i 192)) [
      | inl c ↦ passes_in p floor 2 (i - 128) i _ refl refl (omega (arith, ltb-true i 192 c))
          (omega (arith, ltb-false i 128 b))
      | inr c ↦ passes_in p floor 3 (i - 192) i _ refl refl (omega arith)
          (omega (arith, ltb-false i 192 c))
    ]
  ]
]

word_in : (marks : List ℕ) (p : ℕ → Bool) (floor j w : ℕ) → j < 4 → get_or marks j 0 ≡ w
    → w < 2 ^ 64 → ((i : ℕ) → i < MAX_WINDOW → is_marked marks i ≡ p (floor + i))
    → w ≡ word_of p (floor + 64 * j)
word_in marks p floor j w within here small bits =
    word_from_bits w p (floor + 64 * j) small (λ i h.
    ap (λ n. eqb (bit_at n i) 1) (sym here)
    ∙ sym (marked_at marks j i (64 * j + i) h refl)
    ∙ bits (64 * j + i) (omega arith)
    ∙ ap p (omega arith))

-- Four words whose bits tell which numbers pass are the marks of these.
pub marks_from_bits : (marks : List ℕ) (p : ℕ → Bool) (floor : ℕ) → length marks ≡ 4 →
    AllByRecursion (λ word. word < 2 ^ 64) marks →
    ((i : ℕ) → i < MAX_WINDOW → is_marked marks i ≡ p (floor + i)) → marks ≡ marks_of p floor
marks_from_bits [] p floor four small bits = absurd (omega arith)
marks_from_bits (a ∷ []) p floor four small bits = absurd (omega arith)
marks_from_bits (a ∷ b ∷ []) p floor four small bits = absurd (omega arith)
marks_from_bits (a ∷ b ∷ c ∷ []) p floor four small bits = absurd (omega arith)
marks_from_bits (a ∷ b ∷ c ∷ d ∷ []) p floor four small bits =
    let marks : List ℕ = a ∷ b ∷ c ∷ d ∷ [] in
    let ea = word_in marks p floor 0 a (omega arith) refl small.0 bits ∙ sym (first_word p floor) in
    let eb : b ≡ word_of p (floor + 64) =
    word_in marks p floor 1 b (omega arith) refl small.1.0 bits in
    let ec : c ≡ word_of p (floor + 128) =
    word_in marks p floor 2 c (omega arith) refl small.1.1.0 bits in
    let ed : d ≡ word_of p (floor + 192) =
    word_in marks p floor 3 d (omega arith) refl small.1.1.1.0 bits in
    rw (ea, eb, ec, ed) refl
marks_from_bits (a ∷ b ∷ c ∷ d ∷ e ∷ rest) p floor four small bits = absurd (omega arith)

-- The marks of any test are four words of 64 bits.
pub marks_are_words : (p : ℕ → Bool) (floor : ℕ)
    → AllByRecursion (λ word. word < 2 ^ 64) (marks_of p floor)
marks_are_words p floor = (
  word_limit p floor,
  (word_limit p (floor + 64), (word_limit p (floor + 128), (word_limit p (floor + 192), tt))),
)

-- Tests that agree from the floor on have the same marks.
pub marks_agree : (p q : ℕ → Bool) (floor : ℕ) →
    ((i : ℕ) → i < MAX_WINDOW → p (floor + i) ≡ q (floor + i)) → marks_of p floor ≡ marks_of q floor
marks_agree p q floor same =
    marks_from_bits (marks_of p floor) q floor refl (marks_are_words p floor)
    (λ i h. marked_passes p floor i h ∙ same i h)

abbrev zeros : List ℕ
zeros = 0 ∷ 0 ∷ 0 ∷ 0 ∷ []

zero_in : (j : ℕ) → get_or zeros j 0 ≡ 0
zero_in zero = refl
zero_in (suc zero) = refl
zero_in (suc (suc zero)) = refl
zero_in (suc (suc (suc zero))) = refl
zero_in (suc (suc (suc (suc j)))) = refl

-- Words of zeros mark nothing.
pub none_marked : (i : ℕ) → i < MAX_WINDOW → is_marked (0 ∷ 0 ∷ 0 ∷ 0 ∷ []) i ≡ false
none_marked i small =
    let word : bit_at (get_or zeros (i / 64) 0) (i % 64) ≡ 0 =
    ap (λ n. bit_at n (i % 64)) (zero_in (i / 64)) ∙ bit_at-zero (i % 64) in
    marked_at zeros (i / 64) (i % 64) i (omega arith) (omega arith) ∙ ap (λ n. eqb n 1) word

-- ---- where the bits end

range_all : (p : ℕ → Bool) (a n : ℕ) → list_all p (range_with_len a n) ≡ true → (i : ℕ) → a ≤ i
    → i < a + n → p i ≡ true
range_all p a zero all i low high = absurd (omega arith)
range_all p a (suc n) all i low high =
    let parts = and_parts (p a) (list_all p (range_with_len (a + 1) n)) all in
    elim (cases_eq i a) [
      | inl here ↦ ap p here ∙ parts.0
      | inr apart ↦ range_all p (a + 1) n parts.1 i (omega arith) (omega arith)
    ]

all_range : (p : ℕ → Bool) (a n : ℕ) → ((i : ℕ) → a ≤ i → i < a + n → p i ≡ true)
    → list_all p (range_with_len a n) ≡ true
all_range p a zero each = refl
all_range p a (suc n) each =
    and_from (p a) (list_all p (range_with_len (a + 1) n)) (each a (omega arith) (omega arith))
    (all_range p (a + 1) n (λ i low high. each i (omega arith) (omega arith)))

-- Where bits end, none is set from there on.
pub bits_end : (n : ℕ) (marks : List ℕ) → ends_by n marks ≡ true → (i : ℕ) → n ≤ i → i < MAX_WINDOW
    → is_marked marks i ≡ false
unfolding ends_by
bits_end n marks ends i low high = not-true (is_marked marks i)
    (range_all (λ j. not (is_marked marks j)) n (MAX_WINDOW - n) ends i low (omega arith))

-- Where no bit is set from a number on, the marks end there.
pub ends_where : (n : ℕ) (marks : List ℕ)
    → ((i : ℕ) → n ≤ i → i < MAX_WINDOW → is_marked marks i ≡ false) → ends_by n marks ≡ true
unfolding ends_by
ends_where n marks each = all_range (λ j. not (is_marked marks j)) n (MAX_WINDOW - n)
    (λ i low high. ap not (each i low (omega arith)))
