-- Records that are written one behind the other.
use Rattle.std.proofs.Common.{◌≡◌, ◌<◌, ◌∙◌, ℕ, length, get_or, refl, List, ◌∷◌, arith, zero, suc, ◌+◌, ◌++◌, [], take, ap, sym, subst, true≢false, append-nil, Some}
use Rattle.std.specs.Prelude.{is_some, unwrap_or, slice_get}
use Rattle.std.specs.List.{flat_map}
use Rattle.std.proofs.lemmas.Grind.{flat_map-append}
use Rattle.filters.specs.Written.{Written, Puts}
use Rattle.filters.proofs.OutputLemmas.{puts_both}

-- One element more of a list.
take_suc : (xs : List (List ℕ)) (i : ℕ) (y : List ℕ) → slice_get xs i ≡ Some y → take (suc i) xs ≡ take i xs ++ y ∷ []
take_suc [] i y h = absurd (true≢false (sym (ap is_some h)))
take_suc (e ∷ es) zero y h = ap (λ o. unwrap_or o e ∷ []) h
take_suc (e ∷ es) (suc i) y h = ap (λ l. e ∷ l) (take_suc es i y h)

-- One record more is written.
pub one_more : (a b c : Written) (f : List ℕ → List ℕ) (xs : List (List ℕ)) (i : ℕ) (y : List ℕ) → slice_get xs i ≡ Some y
    → Puts a b (flat_map f (take i xs)) → Puts b c (f y) → Puts a c (flat_map f (take (i + 1) xs))
one_more a b c f xs i y h before now =
    let on : i + 1 ≡ suc i = omega arith in
    let is : flat_map f (take (i + 1) xs) ≡ flat_map f (take i xs) ++ f y =
    ap (λ n. flat_map f (take n xs)) on
    ∙ (ap (flat_map f) (take_suc xs i y h)
    ∙ (flat_map-append f (take i xs) (y ∷ []) ∙ ap (λ l. flat_map f (take i xs) ++ l) (append-nil (f y)))) in
    subst (Puts a c) (sym is) (puts_both a b c _ _ before now)

take_one : {X : Type 0} (xs : List X) (i : ℕ) (d : X) → i < length xs → take (suc i) xs ≡ take i xs ++ get_or xs i d ∷ []
take_one [] i d lt = absurd (omega arith)
take_one (e ∷ es) zero d lt = refl
take_one (e ∷ es) (suc i) d lt = ap (λ l. e ∷ l) (take_one es i d (omega (arith, lt)))

-- One element more is written, by what is written of each.
pub element_more : {X : Type 0} (a b c : Written) (f : X → List ℕ) (xs : List X) (i : ℕ) (d : X) → i < length xs → Puts a b (flat_map f (take i xs))
    → Puts b c (f (get_or xs i d)) → Puts a c (flat_map f (take (i + 1) xs))
element_more a b c f xs i d lt before now =
    let on : i + 1 ≡ suc i = omega arith in
    let is : flat_map f (take (i + 1) xs) ≡ flat_map f (take i xs) ++ f (get_or xs i d) =
    ap (λ n. flat_map f (take n xs)) on
    ∙ (ap (flat_map f) (take_one xs i d lt)
    ∙ (flat_map-append f (take i xs) (get_or xs i d ∷ []) ∙ ap (λ l. flat_map f (take i xs) ++ l) (append-nil (f (get_or xs i d))))) in
    subst (Puts a c) (sym is) (puts_both a b c _ _ before now)
