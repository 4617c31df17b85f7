-- The three numbers of 24 bytes say which word they are.
use Rattle.std.proofs.Common.{◌≡◌, ◌<◌, ◌≤◌, ◌^◌, sym, ◌∙◌, ap, subst, refl, ℕ, arith, Bool}
use Rattle.std.proofs.Common.{true, false, ◌&&◌, ◌==◌, List, [], ◌∷◌, ◌++◌, length, take, drop, append-nil, Some, None}
use Rattle.std.specs.Prelude.{if◌then◌else◌}
use Rattle.std.specs.Int.{w64, to_be_bytes}
use Rattle.std.specs.Option.{option_map}
use Rattle.std.proofs.lemmas.Bool.{eq-eqb, eqb-true}
use Rattle.std.proofs.lemmas.List.{take-append-drop, length-take, length-drop}
use Rattle.std.proofs.lemmas.Nat.{be_bytes_8}
use Rattle.fc_base.specs.Layouts.{bytes_of, number_in}
use Rattle.targets.specs.declared.notice.Notice.TheVariants.{Done, Failed, Take}
use Rattle.targets.specs.declared.tour_word.TourWord.{TourWord}
use Rattle.targets.specs.declared.tour_word.TourWord.TheVariants.{Begin, Told}
use Rattle.targets.specs.TourWords.{three_numbers, word_bytes, word_of, IsWordIn}
use Rattle.targets.proofs.NoticeLemmas.{IsBytes, dropped, taken, first_number, behind_it}

-- Bytes begin with their first number.
front : (bytes : List ℕ) (x : ℕ) → IsBytes bytes → 8 ≤ length bytes → x ≡ number_in w64 bytes → bytes ≡ bytes_of w64 x ++ drop 8 bytes
unfolding number_in bytes_of
front bytes x h long f =
    let eight : length (take 8 bytes) ≡ 8 = omega (arith, length-take 8 bytes) in
    let first : to_be_bytes w64 x ≡ take 8 bytes = be_bytes_8 (take 8 bytes) x eight (taken 8 bytes (omega (arith, eight)) h) f in
    sym (ap (λ l. l ++ drop 8 bytes) first ∙ take-append-drop 8 bytes)

none_left : (xs : List ℕ) → length xs ≡ 0 → xs ≡ []
none_left [] h = refl
none_left (x ∷ xs) h = absurd (omega arith)

-- Twenty-four bytes are those of three numbers.
all_three : (bytes second third : List ℕ) (x y z : ℕ) → IsBytes bytes → length bytes ≡ 24 → second ≡ drop 8 bytes → third ≡ drop 8 second
    → x ≡ number_in w64 bytes → y ≡ number_in w64 second → z ≡ number_in w64 third → bytes ≡ three_numbers x y z
all_three bytes second third x y z h len second_is third_is f g k =
    let in_second : IsBytes second = subst IsBytes (sym second_is) (dropped 8 bytes h) in
    let in_third : IsBytes third = subst IsBytes (sym third_is) (dropped 8 second in_second) in
    let long : length second ≡ 16 = ap length second_is ∙ omega (arith, length-drop 8 bytes, len) in
    let short : length third ≡ 8 = ap length third_is ∙ omega (arith, length-drop 8 second, long) in
    let none : drop 8 third ≡ [] = none_left (drop 8 third) (omega (arith, length-drop 8 third, short)) in
    let last : third ≡ bytes_of w64 z = front third z in_third (omega (arith, short)) k ∙ ap (λ l. bytes_of w64 z ++ l) none ∙ append-nil (bytes_of w64 z) in
    front bytes x h (omega (arith, len)) f
    ∙ ap (λ l. bytes_of w64 x ++ l)
    (sym second_is ∙ front second y in_second (omega (arith, long)) g ∙ ap (λ l. bytes_of w64 y ++ l) (sym third_is ∙ last))

pub word_is : (bytes second third : List ℕ) (x y z : ℕ) → IsBytes bytes → length bytes ≡ 24 → second ≡ drop 8 bytes → third ≡ drop 8 second
    → x ≡ number_in w64 bytes → y ≡ number_in w64 second → z ≡ number_in w64 third → y < 2 ^ 64 → z < 2 ^ 64 → IsWordIn bytes (word_of x y z)
word_is bytes second third x y z h len second_is third_is f g k fits_y fits_z = by (x == 4) (x == 1) (x == 2) (x == 3) (z == 0) refl refl refl refl refl
  where
    all : bytes ≡ three_numbers x y z
    all = all_three bytes second third x y z h len second_is third_is f g k

    at : (n : ℕ) → (x == n) ≡ true → bytes ≡ three_numbers n y z
    at n e = all ∙ ap (λ m. three_numbers m y z) (eqb-true x n e)

    not_at : (n : ℕ) → n < 2 ^ 64 → (more : List ℕ) → (x == n) ≡ false → bytes ≡ bytes_of w64 n ++ more → ⊥
    not_at n fits more e is =
        let same : x ≡ n = f ∙ first_number bytes more n fits is in
        let own : (x == n) ≡ true = eq-eqb x n same in
        cc

    zero_at : (t : ℕ) → bytes ≡ three_numbers 3 t 0 → z ≡ 0
    zero_at t is =
        let behind_kind : second ≡ bytes_of w64 t ++ bytes_of w64 0 = second_is ∙ behind_it bytes (bytes_of w64 t ++ bytes_of w64 0) 3 is in
        let last : third ≡ bytes_of w64 0 = third_is ∙ behind_it second (bytes_of w64 0) t behind_kind in
        k ∙ first_number third [] 0 (omega arith) (last ∙ sym (append-nil (bytes_of w64 0)))

    by : (a b d e o : Bool) → (x == 4) ≡ a → (x == 1) ≡ b → (x == 2) ≡ d → (x == 3) ≡ e → (z == 0) ≡ o
        → IsWordIn bytes (if a then Some (Begin y z)
        else option_map (Told y) (if b then Some (Done z) else if d then Some (Failed z) else if e && o then Some Take else None))
    by true b d e o is_a is_b is_d is_e is_o = (at 4 is_a, (fits_y, fits_z))
    by false true d e o is_a is_b is_d is_e is_o = (at 1 is_b, (fits_y, fits_z))
    by false false true e o is_a is_b is_d is_e is_o = (at 2 is_d, (fits_y, fits_z))
    by false false false true true is_a is_b is_d is_e is_o = (at 3 is_e ∙ ap (λ n. three_numbers 3 y n) (eqb-true z 0 is_o), (fits_y, tt))
    by false false false true false is_a is_b is_d is_e is_o = λ w same. neither w same
      where
        neither : (w : TourWord) → bytes ≡ word_bytes w → ⊥
        neither (Begin t r) same = not_at 4 (omega arith) (bytes_of w64 t ++ bytes_of w64 r) is_a same
        neither (Told t (Done j)) same = not_at 1 (omega arith) (bytes_of w64 t ++ bytes_of w64 j) is_b same
        neither (Told t (Failed j)) same = not_at 2 (omega arith) (bytes_of w64 t ++ bytes_of w64 j) is_d same
        neither (Told t Take) same = let own : (z == 0) ≡ true = eq-eqb z 0 (zero_at t same) in cc
    by false false false false o is_a is_b is_d is_e is_o = λ w same. neither w same
      where
        neither : (w : TourWord) → bytes ≡ word_bytes w → ⊥
        neither (Begin t r) same = not_at 4 (omega arith) (bytes_of w64 t ++ bytes_of w64 r) is_a same
        neither (Told t (Done j)) same = not_at 1 (omega arith) (bytes_of w64 t ++ bytes_of w64 j) is_b same
        neither (Told t (Failed j)) same = not_at 2 (omega arith) (bytes_of w64 t ++ bytes_of w64 j) is_d same
        neither (Told t Take) same = not_at 3 (omega arith) (bytes_of w64 t ++ bytes_of w64 0) is_e same
