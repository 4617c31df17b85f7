-- The two numbers of 16 bytes say which notice they are.
use Rattle.std.proofs.Common.{◌≡◌, ◌<◌, ◌≤◌, ◌^◌, sym, ◌∙◌, ap, subst, inl, inr, refl, ℕ, ◌+◌, arith, Bool}
use Rattle.std.proofs.Common.{true, false, ◌&&◌, ◌==◌, List, ◌++◌, length, get_or, take, drop, Some, None}
use Rattle.std.specs.Prelude.{if◌then◌else◌}
use Rattle.std.specs.Int.{w64, to_be_bytes, from_be_bytes}
use Rattle.std.proofs.lemmas.Bool.{cases_lt, eq-eqb, eqb-true}
use Rattle.std.proofs.lemmas.List.{get_or-drop, get_or-take, get_or_past, take-append-drop, length-take, length-drop, take_all, take_at, drop_at}
use Rattle.std.proofs.lemmas.Nat.{be_bytes_8, from_be_bytes-to_be_bytes_8}
use Rattle.fc_base.specs.Layouts.{bytes_of, number_in}
use Rattle.targets.specs.declared.notice.Notice.{Notice}
use Rattle.targets.specs.declared.notice.Notice.TheVariants.{Done, Failed, Take}
use Rattle.targets.specs.Notices.{notice_bytes, notice_of, IsNoticeIn}

abbrev pub IsBytes : List ℕ → Type 0
IsBytes bytes = (i : ℕ) → get_or bytes i 0 < 256

pub dropped : (n : ℕ) (bytes : List ℕ) → IsBytes bytes → IsBytes (drop n bytes)
dropped n bytes h = λ i. subst (λ x. x < 256) (sym (get_or-drop n bytes i 0)) (h (n + i))

pub taken : (n : ℕ) (bytes : List ℕ) → length (take n bytes) ≤ n → IsBytes bytes → IsBytes (take n bytes)
taken n bytes few h = λ i. elim (cases_lt i n) [
  | inl a ↦ subst (λ x. x < 256) (sym (get_or-take n bytes i 0 a)) (h i)
  | inr b ↦ subst (λ x. x < 256) (sym (get_or_past (take n bytes) i 0 (omega arith))) (omega arith)
]

-- Sixteen bytes are those of two numbers.
two_numbers : (bytes rest : List ℕ) (x y : ℕ) → IsBytes bytes → length bytes ≡ 16 → rest ≡ drop 8 bytes → x ≡ number_in w64 bytes → y ≡ number_in w64 rest
    → bytes ≡ bytes_of w64 x ++ bytes_of w64 y
unfolding number_in bytes_of
two_numbers bytes rest x y h len rest_is f g =
    let a : length (take 8 bytes) ≡ 8 = omega (arith, length-take 8 bytes, len) in
    let b : length (drop 8 bytes) ≡ 8 = omega (arith, length-drop 8 bytes, len) in
    let all : take 8 rest ≡ drop 8 bytes = ap (take 8) rest_is ∙ take_all 8 (drop 8 bytes) (omega (arith, b)) in
    let first : to_be_bytes w64 x ≡ take 8 bytes = be_bytes_8 (take 8 bytes) x a (taken 8 bytes (omega arith) h) f in
    let last : to_be_bytes w64 y ≡ drop 8 bytes = be_bytes_8 (drop 8 bytes) y b (dropped 8 bytes h) (g ∙ ap (from_be_bytes w64) all) in
    sym (ap (λ l. l ++ to_be_bytes w64 y) first ∙ ap (λ l. take 8 bytes ++ l) last ∙ take-append-drop 8 bytes)

-- The first number of bytes that begin with one.
pub first_number : (bytes rest : List ℕ) (n : ℕ) → n < 2 ^ 64 → bytes ≡ bytes_of w64 n ++ rest → number_in w64 bytes ≡ n
unfolding number_in bytes_of
first_number bytes rest n fits is =
    ap (λ l. from_be_bytes w64 (take 8 l)) is ∙ ap (from_be_bytes w64) (take_at (to_be_bytes w64 n) rest 8 refl) ∙ from_be_bytes-to_be_bytes_8 n fits

-- What stands behind it.
pub behind_it : (bytes rest : List ℕ) (n : ℕ) → bytes ≡ bytes_of w64 n ++ rest → drop 8 bytes ≡ rest
unfolding bytes_of
behind_it bytes rest n is = ap (drop 8) is ∙ drop_at (to_be_bytes w64 n) rest 8 refl

-- The second number of a take is 0.
second_number : (bytes rest : List ℕ) (n : ℕ) → rest ≡ drop 8 bytes → bytes ≡ bytes_of w64 n ++ bytes_of w64 0 → number_in w64 rest ≡ 0
unfolding number_in bytes_of
second_number bytes rest n rest_is is =
    ap (λ l. from_be_bytes w64 (take 8 l)) (rest_is ∙ behind_it bytes (to_be_bytes w64 0) n is)

pub notice_is : (bytes rest : List ℕ) (x y : ℕ) → IsBytes bytes → length bytes ≡ 16 → rest ≡ drop 8 bytes → x ≡ number_in w64 bytes → y ≡ number_in w64 rest
    → y < 2 ^ 64 → IsNoticeIn bytes (notice_of x y)
notice_is bytes rest x y h len rest_is f g fits_y = by (x == 1) (x == 2) (x == 3) (y == 0) refl refl refl refl
  where
    both : bytes ≡ bytes_of w64 x ++ bytes_of w64 y
    both = two_numbers bytes rest x y h len rest_is f g

    at : (n : ℕ) → (x == n) ≡ true → bytes ≡ bytes_of w64 n ++ bytes_of w64 y
    at n e = both ∙ ap (λ k. bytes_of w64 k ++ bytes_of w64 y) (eqb-true x n e)

    not_at : (n : ℕ) → n < 2 ^ 64 → (more : List ℕ) → (x == n) ≡ false → bytes ≡ bytes_of w64 n ++ more → ⊥
    not_at n fits more e is =
        let same : x ≡ n = f ∙ first_number bytes more n fits is in
        let own : (x == n) ≡ true = eq-eqb x n same in
        cc

    by : (a b c d : Bool) → (x == 1) ≡ a → (x == 2) ≡ b → (x == 3) ≡ c → (y == 0) ≡ d
        → IsNoticeIn bytes (if a then Some (Done y) else if b then Some (Failed y) else if c && d then Some Take else None)
    by true b c d is_a is_b is_c is_d = (at 1 is_a, fits_y)
    by false true c d is_a is_b is_c is_d = (at 2 is_b, fits_y)
    by false false true true is_a is_b is_c is_d = (at 3 is_c ∙ ap (λ k. bytes_of w64 3 ++ bytes_of w64 k) (eqb-true y 0 is_d), tt)
    by false false true false is_a is_b is_c is_d = λ n same. neither n same
      where
        neither : (n : Notice) → bytes ≡ notice_bytes n → ⊥
        neither (Done k) same = not_at 1 (omega arith) (bytes_of w64 k) is_a same
        neither (Failed k) same = not_at 2 (omega arith) (bytes_of w64 k) is_b same
        neither Take same =
            let zero_is : y ≡ 0 = g ∙ second_number bytes rest 3 rest_is same in
            let own : (y == 0) ≡ true = eq-eqb y 0 zero_is in
            cc
    by false false false d is_a is_b is_c is_d = λ n same. neither n same
      where
        neither : (n : Notice) → bytes ≡ notice_bytes n → ⊥
        neither (Done k) same = not_at 1 (omega arith) (bytes_of w64 k) is_a same
        neither (Failed k) same = not_at 2 (omega arith) (bytes_of w64 k) is_b same
        neither Take same = not_at 3 (omega arith) (bytes_of w64 0) is_c same
