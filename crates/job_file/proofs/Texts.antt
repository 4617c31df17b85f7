-- Which bytes names have, and where a line's `=` stands.
use Rattle.std.proofs.Common.{◌≡◌, ℕ, ◌+◌, ◌<◌, Bool, true, false, cond, not, ◌&&◌, ◌||◌, zero, suc, List, []}
use Rattle.std.proofs.Common.{◌∷◌, length, drop, Some, None, position, refl, sym, ◌∙◌, ap, ltb, arith, lit<}
use Rattle.std.specs.List.{list_all, list_any, position_or_len}
use Rattle.std.specs.Str.{IsAscii, IsUtf8}
use Rattle.std.proofs.lemmas.Bool.{and_parts}
use Rattle.std.proofs.lemmas.Bool.Decides.{nat_tests}
use Rattle.std.proofs.lemmas.Str.{IsUtf8-from_ascii}
use Rattle.job_file.specs.Bytes.{is_text_byte, trimmed}
use Rattle.job_file.specs.Line.{is_section_byte, is_equals, value_in}

text_byte_is_ascii : (b : ℕ) → is_text_byte b ≡ true → b < 128
text_byte_is_ascii b is = grind (arith, nat_tests)

-- A text is ASCII.
IsAscii-from_text : (bs : List ℕ) → list_all is_text_byte bs ≡ true → IsAscii bs
IsAscii-from_text [] all i = lit< tt
IsAscii-from_text (b ∷ bs) all zero = text_byte_is_ascii b (and_parts (is_text_byte b) (list_all is_text_byte bs) all).0
IsAscii-from_text (b ∷ bs) all (suc i) = IsAscii-from_text bs (and_parts (is_text_byte b) (list_all is_text_byte bs) all).1 i

pub IsUtf8-from_text : (bs : List ℕ) → list_all is_text_byte bs ≡ true → IsUtf8 bs
IsUtf8-from_text bs all = IsUtf8-from_ascii bs (IsAscii-from_text bs all)

section_byte_is_text : (b : ℕ) → is_section_byte b ≡ true → is_text_byte b ≡ true
section_byte_is_text b is = grind (arith, nat_tests)

-- The name of a section is a text.
pub section_bytes_are_text : (bs : List ℕ) → list_all is_section_byte bs ≡ true → list_all is_text_byte bs ≡ true
section_bytes_are_text [] all = refl
section_bytes_are_text (b ∷ bs) all =
    let parts = and_parts (is_section_byte b) (list_all is_section_byte bs) all in
    ap (λ t. t && list_all is_text_byte bs) (section_byte_is_text b parts.0) ∙ section_bytes_are_text bs parts.1

first_is_within : (n : ℕ) → ltb 0 (suc n) ≡ true
first_is_within n = grind (arith, nat_tests)

next_is_within : (m n : ℕ) → ltb (1 + m) (suc n) ≡ ltb m n
next_is_within m n = grind (arith, nat_tests)

-- Some element passes exactly where the first that does stands within the list.
pub list_any_is : {X : Type 0} (p : X → Bool) (xs : List X) → list_any p xs ≡ ltb (position_or_len p xs) (length xs)
list_any_is p [] = refl
list_any_is p (x ∷ xs) = by_head (p x) (list_any_is p xs)
  where
    by_head : (b : Bool) → list_any p xs ≡ ltb (position_or_len p xs) (length xs)
        → (b || list_any p xs) ≡ ltb (cond (not b) (1 + position_or_len p xs) 0) (suc (length xs))
    by_head true rest = sym (first_is_within (length xs))
    by_head false rest = rest ∙ sym (next_is_within (position_or_len p xs) (length xs))

pub found_at : (b : Bool) (n at : ℕ) → cond b (Some n) None ≡ Some at → (b ≡ true) × (n ≡ at)
found_at true n at is = (refl, cc)
found_at false n at is = absurd cc

pub found_nowhere : (b : Bool) (n : ℕ) → cond b (Some n) None ≡ None → b ≡ false
found_nowhere true n is = absurd cc
found_nowhere false n is = refl

-- The value stands behind the first `=`.
pub value_behind : (line : List ℕ) (at : ℕ) → position is_equals line ≡ Some at → value_in line ≡ Some (trimmed (drop (at + 1) line))
value_behind line at is =
    let found = found_at (ltb (position_or_len is_equals line) (length line)) (position_or_len is_equals line) at is in
    rw (list_any_is is_equals line, found.0, found.1) refl

-- Without `=` there is no value.
pub value_none : (line : List ℕ) → position is_equals line ≡ None → value_in line ≡ None
value_none line is =
    let none = found_nowhere (ltb (position_or_len is_equals line) (length line)) (position_or_len is_equals line) is in
    rw (list_any_is is_equals line, none) refl
