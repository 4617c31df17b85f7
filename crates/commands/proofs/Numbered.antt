-- The texts of a list's front, where each element comes with its index.
use Rattle.std.proofs.Common.{◌≡◌, ℕ, ◌+◌, ◌<◌, ◌≤◌, List, [], ◌∷◌, ◌++◌, length, take, get_or, sym, ap, ◌∙◌, subst, zero-add, take_all}
use Rattle.std.specs.List.{flat_map, enumerate_from}
use Rattle.std.proofs.lemmas.List.{take_more, flat_map_more}
use Rattle.std.proofs.lemmas.List.FromFn.{length-enumerate_from, get_or-enumerate_from}

-- One more element adds itself and its index.
numbered_more : {X : Type 0} (xs : List X) (i : ℕ) (x : X) → i < length xs → x ≡ get_or xs i x
    → take (i + 1) (enumerate_from 0 xs) ≡ take i (enumerate_from 0 xs) ++ (i, x) ∷ []
numbered_more xs i x within is =
    let all = enumerate_from 0 xs in
    let inside : i < length all = subst (λ n. i < n) (sym (length-enumerate_from 0 xs)) within in
    let found = get_or-enumerate_from 0 xs i (i, x) within in
    let place : get_or all i (i, x) ≡ (i, x) = found ∙ (ap (λ n. (n, get_or xs i x)) (zero-add i) ∙ ap (λ y. (i, y)) (sym is)) in
    take_more all i (i, x) inside ∙ ap (λ p. take i all ++ p ∷ []) place

-- It adds its text.
pub texts_more : {X : Type 0} (text : ℕ × X → List ℕ) (front : List ℕ) (xs : List X) (i : ℕ) (x : X) → i < length xs → x ≡ get_or xs i x
    → (front ++ flat_map text (take i (enumerate_from 0 xs))) ++ text (i, x) ≡ front ++ flat_map text (take (i + 1) (enumerate_from 0 xs))
texts_more text front xs i x within is =
    flat_map_more text front (take i (enumerate_from 0 xs)) (i, x) ∙ ap (λ ps. front ++ flat_map text ps) (sym (numbered_more xs i x within is))

-- At the end of the list all texts are there.
pub texts_all : {X : Type 0} (text : ℕ × X → List ℕ) (xs : List X) (i : ℕ) → length xs ≤ i
    → flat_map text (take i (enumerate_from 0 xs)) ≡ flat_map text (enumerate_from 0 xs)
texts_all text xs i past = ap (flat_map text) (take_all i (enumerate_from 0 xs) (subst (λ n. n ≤ i) (sym (length-enumerate_from 0 xs)) past))
