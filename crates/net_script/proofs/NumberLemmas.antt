-- The numbers that words spell are those that `parse` reads of them.
use Rattle.std.proofs.Common.{◌≡◌, ℕ, ◌^◌, ◌<◌, ◌==◌, Bool, true, false, cond, List, [], ◌∷◌, length}
use Rattle.std.proofs.Common.{drop, Some, None, Result, Ok, Err, nat_lt, refl, sym, ◌∙◌, ap, arith, subst}
use Rattle.std.specs.Char.{is_ascii_digit, digit_value}
use Rattle.std.specs.List.{list_all}
use Rattle.std.specs.Result.{result_ok}
use Rattle.std.specs.Str.{IsUtf8}
use Rattle.std.specs.Str.Parse.{AllDigits, IsNumeral, ParsesUnsigned, digits_value, without_leading_plus}
use Rattle.std.proofs.lemmas.Bool.{and_parts}
use Rattle.std.proofs.lemmas.Bool.Decides.{nat_tests}
use Rattle.std.proofs.lemmas.Fmt.{IsAscii-from_digits}
use Rattle.std.proofs.lemmas.Str.{IsUtf8-from_ascii}
use Rattle.net_script.specs.Words.{is_word, number_of}

digit_is_low : (c : ℕ) → is_ascii_digit c ≡ true → digit_value c < 10
digit_is_low c is = grind (arith, nat_tests)

all_digits : (ds : List ℕ) → list_all is_ascii_digit ds ≡ true → AllDigits 10 ds
all_digits [] all = tt
all_digits (d ∷ ds) all =
    let parts = and_parts (is_ascii_digit d) (list_all is_ascii_digit ds) all in
    (digit_is_low d parts.0, all_digits ds parts.1)

-- Digits are a text.
pub digits_are_text : (ds : List ℕ) → list_all is_ascii_digit ds ≡ true → IsUtf8 ds
digits_are_text ds all = IsUtf8-from_ascii ds (IsAscii-from_digits ds (all_digits ds all))

digit_is_no_plus : (c : ℕ) → is_ascii_digit c ≡ true → (c == 43) ≡ false
digit_is_no_plus c is = grind (arith, nat_tests)

no_plus : (ds : List ℕ) → list_all is_ascii_digit ds ≡ true → without_leading_plus ds ≡ ds
no_plus [] all = refl
no_plus (d ∷ ds) all =
    ap (λ t. drop (cond t 1 0) (d ∷ ds)) (digit_is_no_plus d (and_parts (is_ascii_digit d) (list_all is_ascii_digit ds) all).0)

-- Digits whose number fits are that number.
fits : (ds : List ℕ) → list_all is_ascii_digit ds ≡ true → 0 < length ds → digits_value 10 ds < 2 ^ 64 → number_of ds ≡ Some (digits_value 10 ds)
fits ds all some below = grind (arith, nat_tests)

-- A word that isn't digits whose number fits spells none.
misfits : (ds : List ℕ) → ((0 < length ds) × (digits_value 10 ds < 2 ^ 64) → ⊥) → list_all is_ascii_digit ds ≡ true → number_of ds ≡ None
misfits ds none all = by_tests (is_word ds) (nat_lt (digits_value 10 ds) (2 ^ 64)) refl refl
  where
    by_tests : (long low : Bool) → is_word ds ≡ long → nat_lt (digits_value 10 ds) (2 ^ 64) ≡ low → number_of ds ≡ None
    by_tests true true is_long is_low = absurd (none (grind (arith, nat_tests), grind (arith, nat_tests)))
    by_tests false low is_long is_low = grind (arith, nat_tests)
    by_tests true false is_long is_low = grind (arith, nat_tests)

-- A word with another byte than a digit spells no number.
pub other_bytes : (ds : List ℕ) → list_all is_ascii_digit ds ≡ false → number_of ds ≡ None
other_bytes ds other = grind (arith, nat_tests)

-- What `parse` reads of digits is their number.
pub parsed : {E : Type 0} (ds : List ℕ) (r : Result ℕ E) → list_all is_ascii_digit ds ≡ true → ParsesUnsigned 64 10 ds r → result_ok r ≡ number_of ds
parsed ds (Ok n) all reads =
    let same = no_plus ds all in
    sym (fits ds all (subst (λ bs. 0 < length bs) same reads.0.0.0) (subst (λ bs. digits_value 10 bs < 2 ^ 64) same reads.0.1)
    ∙ ap Some (ap (digits_value 10) (sym same) ∙ sym reads.1))
parsed ds (Err e) all reads =
    let same = no_plus ds all in
    sym (misfits ds (λ fit. reads (subst (λ bs. IsNumeral 10 bs × (digits_value 10 bs < 2 ^ 64)) (sym same) ((fit.0, all_digits ds all), fit.1))) all)
