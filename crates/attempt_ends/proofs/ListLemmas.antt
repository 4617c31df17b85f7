-- One place more in a list of those for which something is given.
use Rattle.std.proofs.Common.{◌≡◌, ◌≤◌, ◌+◌, ◌∙◌, ℕ, suc, List, [], ◌∷◌, ◌++◌, Option, None, Some, length, length-append, refl, sym, ap, subst, arith, map}
use Rattle.std.specs.Prelude.{filter_map}
use Rattle.std.specs.List.{cons_option}
use Rattle.std.specs.Option.{option_to_list}
use Rattle.std.proofs.lemmas.List.{map-append}
use Rattle.std.proofs.lemmas.List.Elements.{filter_map-append}
use Rattle.fc_base.specs.Counted.{numbers_below}
use Rattle.attempt_ends.specs.declared.place.Place.{Place}
use Rattle.attempt_ends.specs.Places.{place_numbered}

given : {B : Type 0} (o : Option B) → cons_option o [] ≡ option_to_list o
given None = refl
given (Some y) = refl

-- What is given at the places below one, and at that one.
pub one_place : {B : Type 0} (h : Place → Option B) (n m : ℕ) → m ≡ suc n → (old new : List B)
    → old ≡ filter_map h (map place_numbered (numbers_below n)) → new ≡ old ++ option_to_list (h (place_numbered n))
    → new ≡ filter_map h (map place_numbered (numbers_below m))
one_place h n m is old new e f =
    subst (λ k. new ≡ filter_map h (map place_numbered (numbers_below k))) (sym is)
    (f ∙ ap (λ xs. xs ++ option_to_list (h (place_numbered n))) e
    ∙ ap (λ xs. filter_map h (map place_numbered (numbers_below n)) ++ xs) (sym (given (h (place_numbered n))))
    ∙ sym (filter_map-append h (map place_numbered (numbers_below n)) (place_numbered n ∷ []))
    ∙ ap (filter_map h) (sym (map-append place_numbered (numbers_below n) (n ∷ []))))

-- It adds one at most.
pub one_at_most : {B : Type 0} (o : Option B) → length (option_to_list o) ≤ 1
one_at_most None = omega arith
one_at_most (Some y) = omega arith

pub one_more_at_most : {B : Type 0} (old new : List B) (o : Option B) (n m : ℕ) → length old ≤ n → new ≡ old ++ option_to_list o → m ≡ suc n → length new ≤ m
one_more_at_most old new o n m few is next =
    omega (arith, few, next, ap length is, length-append old (option_to_list o), one_at_most o)
