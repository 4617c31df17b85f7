-- The bytes of a field are the spelling of its number.
use Rattle.std.proofs.Common.{◌≡◌, ℕ, ◌+◌, ◌*◌, ◌<◌, ◌≤◌, zero, suc, List, [], ◌∷◌, ◌++◌, length, take, drop, get_or, sym, refl, ap, ◌∙◌, inl, inr, arith}
use Rattle.std.specs.List.{AllByRecursion}
use Rattle.std.specs.Int.{w8, w32, w64, from_be_bytes}
use Rattle.fc_base.specs.Layouts.{bytes_of, number_in}
use Rattle.std.proofs.lemmas.Bool.{cases_lt}
use Rattle.std.proofs.lemmas.Nat.{be_bytes_4, be_bytes_8}
use Rattle.std.proofs.lemmas.List.{drop-drop, take-append-drop, length-drop, length-take, get_or-drop, get_or-take, get_or_past, append_assoc}
use Rattle.std.proofs.lemmas.List.FromFn.{fill_by_all}
use Rattle.verify_state.specs.Spelling.{words}
use Rattle.verify_state.specs.Reading.{field, words_at}

-- ---- bytes

abbrev pub IsBytes : List ℕ → Type 0
IsBytes bytes = (i : ℕ) → get_or bytes i 0 < 256

pub are_bytes : (bytes : List ℕ) → AllByRecursion (λ byte. byte < 256) bytes → IsBytes bytes
are_bytes [] all i = omega arith
are_bytes (b ∷ bytes) all zero = all.0
are_bytes (b ∷ bytes) all (suc i) = are_bytes bytes all.1 i

pub each_byte : (bytes : List ℕ) → IsBytes bytes → AllByRecursion (λ byte. byte < 256) bytes
each_byte [] fits = tt
each_byte (b ∷ bytes) fits = (fits 0, each_byte bytes (λ i. fits (suc i)))

pub bytes_drop : (n : ℕ) (bytes : List ℕ) → IsBytes bytes → IsBytes (drop n bytes)
bytes_drop n bytes h i = rw get_or-drop (h (n + i))

pub bytes_take : (n : ℕ) (bytes : List ℕ) → IsBytes bytes → IsBytes (take n bytes)
bytes_take n bytes h i =
    elim (cases_lt i n) [
      | inl lt ↦ rw (get_or-take n bytes i 0 lt) (h i)
      | inr le ↦ rw (get_or_past (take n bytes) i 0 (omega (arith, length-take n bytes))) (omega arith)
    ]

-- ---- one field after the other

cut : (k at : ℕ) (bytes : List ℕ) → take k (drop at bytes) ++ drop (at + k) bytes ≡ drop at bytes
cut k at bytes = ap (λ l. take k (drop at bytes) ++ l) (sym (drop-drop k at bytes)) ∙ take-append-drop k (drop at bytes)

pub piece64 : (at : ℕ) (bytes : List ℕ) → IsBytes bytes → at + 8 ≤ length bytes → bytes_of w64 (field w64 at bytes) ++ drop (at + 8) bytes ≡ drop at bytes
unfolding field number_in bytes_of
piece64 at bytes fits long =
    let front = take 8 (drop at bytes) in
    let is : bytes_of w64 (from_be_bytes w64 front) ≡ front =
    be_bytes_8 front (from_be_bytes w64 front) (omega (arith, length-take 8 (drop at bytes), length-drop at bytes))
    (bytes_take 8 (drop at bytes) (bytes_drop at bytes fits)) refl in
    ap (λ l. l ++ drop (at + 8) bytes) is ∙ cut 8 at bytes

pub piece32 : (at : ℕ) (bytes : List ℕ) → IsBytes bytes → at + 4 ≤ length bytes → bytes_of w32 (field w32 at bytes) ++ drop (at + 4) bytes ≡ drop at bytes
unfolding field number_in bytes_of
piece32 at bytes fits long =
    let front = take 4 (drop at bytes) in
    let is : bytes_of w32 (from_be_bytes w32 front) ≡ front =
    be_bytes_4 front (from_be_bytes w32 front) (omega (arith, length-take 4 (drop at bytes), length-drop at bytes))
    (bytes_take 4 (drop at bytes) (bytes_drop at bytes fits)) refl in
    ap (λ l. l ++ drop (at + 4) bytes) is ∙ cut 4 at bytes

first_byte : (bytes : List ℕ) → 1 ≤ length bytes → from_be_bytes w8 (take 1 bytes) ∷ drop 1 bytes ≡ bytes
first_byte [] long = absurd (omega arith)
first_byte (b ∷ bytes) long = ap (λ n. n ∷ bytes) (omega arith)

pub piece8 : (at : ℕ) (bytes : List ℕ) → at + 1 ≤ length bytes → field w8 at bytes ∷ drop (at + 1) bytes ≡ drop at bytes
unfolding field number_in bytes_of
piece8 at bytes long =
    ap (λ l. from_be_bytes w8 (take 1 (drop at bytes)) ∷ l) (sym (drop-drop 1 at bytes))
    ∙ first_byte (drop at bytes) (omega (arith, length-drop at bytes))

-- ---- words one after the other

abbrev pub words_by : ℕ → ℕ → List ℕ → List ℕ
words_by zero at bytes = []
words_by (suc n) at bytes = field w64 at bytes ∷ words_by n (at + 8) bytes

length_words_by : (n at : ℕ) (bytes : List ℕ) → length (words_by n at bytes) ≡ n
length_words_by zero at bytes = refl
length_words_by (suc n) at bytes = ap suc (length_words_by n (at + 8) bytes)

word_by : (n at : ℕ) (bytes : List ℕ) (k : ℕ) → k < n → get_or (words_by n at bytes) k 0 ≡ field w64 (at + 8 * k) bytes
word_by zero at bytes k lt = absurd (omega arith)
word_by (suc n) at bytes zero lt = ap (λ a. field w64 a bytes) (omega arith)
word_by (suc n) at bytes (suc k) lt = word_by n (at + 8) bytes k (omega arith) ∙ ap (λ a. field w64 a bytes) (omega arith)

pub words_are : (n at : ℕ) (bytes : List ℕ) → words_at n at bytes ≡ words_by n at bytes
words_are n at bytes =
    sym (fill_by_all (λ k. field w64 (at + 8 * k) bytes) (words_by n at bytes) n 0 (length_words_by n at bytes) (λ k lt. word_by n at bytes k lt))

pieces_by : (n at : ℕ) (bytes : List ℕ) → IsBytes bytes → at + 8 * n ≤ length bytes → words (words_by n at bytes) ++ drop (at + 8 * n) bytes ≡ drop at bytes
pieces_by zero at bytes fits long = ap (λ a. drop a bytes) (omega arith)
pieces_by (suc n) at bytes fits long =
    append_assoc (bytes_of w64 (field w64 at bytes)) (words (words_by n (at + 8) bytes)) (drop (at + 8 * suc n) bytes)
    ∙ ap (λ l. bytes_of w64 (field w64 at bytes) ++ l)
    (ap (λ a. words (words_by n (at + 8) bytes) ++ drop a bytes) (omega arith) ∙ pieces_by n (at + 8) bytes fits (omega arith))
    ∙ piece64 at bytes fits (omega arith)

pub pieces : (n at : ℕ) (bytes : List ℕ) → IsBytes bytes → at + 8 * n ≤ length bytes → words (words_at n at bytes) ++ drop (at + 8 * n) bytes ≡ drop at bytes
pieces n at bytes fits long = ap (λ ws. words ws ++ drop (at + 8 * n) bytes) (words_are n at bytes) ∙ pieces_by n at bytes fits long

pub length_words_at : (n at : ℕ) (bytes : List ℕ) → length (words_at n at bytes) ≡ n
length_words_at n at bytes = ap length (words_are n at bytes) ∙ length_words_by n at bytes
