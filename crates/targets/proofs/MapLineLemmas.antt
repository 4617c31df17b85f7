-- The line of a block, part by part.
use Rattle.std.proofs.Common.{◌≡◌, ◌+◌, ◌<◌, ℕ, length, take, get_or, List, [], ◌∷◌, ◌++◌, Option, append_assoc, append-nil, sym, ap, ◌∙◌, subst, codes}
use Rattle.std.specs.List.{flat_map, range_with_len}
use Rattle.std.specs.Io.KnownBytes.{Appends}
use Rattle.std.proofs.KnownBytes.{Appends-trans}
use Rattle.std.proofs.lemmas.Grind.{flat_map-append}
use Rattle.std.proofs.lemmas.List.{take_more}
use Rattle.fc_base.proofs.ListLemmas.{range_more}

pub line_written : (t₀ t₁ t₂ t₃ t₄ : Option (List ℕ)) (number given word wanted held : List ℕ) → given ≡ word
    → Appends t₀ t₁ (codes "block " ++ (number ++ (codes " " ++ (given ++ codes ": wants write "))))
    → Appends t₁ t₂ wanted → Appends t₂ t₃ held → Appends t₃ t₄ (codes "\n")
    → Appends t₀ t₄ (codes "block " ++ (number ++ (codes " " ++ (word ++ (codes ": wants write " ++ (wanted ++ (held ++ codes "\n")))))))
line_written t₀ t₁ t₂ t₃ t₄ number given word wanted held is first second third fourth =
    let tail : List ℕ = codes ": wants write " in
    let rest : List ℕ = wanted ++ (held ++ codes "\n") in
    subst (Appends t₀ t₄)
    (ap (λ l. codes "block " ++ l) (append_assoc number (codes " " ++ (given ++ tail)) rest
    ∙ ap (λ l. number ++ (codes " " ++ l)) (append_assoc given tail rest ∙ ap (λ w. w ++ (tail ++ rest)) is)))
    (Appends-trans t₀ t₁ t₄ (codes "block " ++ (number ++ (codes " " ++ (given ++ tail)))) rest first
    (Appends-trans t₁ t₂ t₄ wanted (held ++ codes "\n") second (Appends-trans t₂ t₃ t₄ held (codes "\n") third fourth)))

-- What is written number by number, with one more.
pub edges_more : (f : ℕ → List ℕ) (count : ℕ) (first text new : Option (List ℕ)) → Appends first text (flat_map f (range_with_len 0 count))
    → Appends text new (f count) → Appends first new (flat_map f (range_with_len 0 (count + 1)))
edges_more f count first text new so_far one =
    subst (Appends first new)
    (sym (ap (flat_map f) (range_more count) ∙ flat_map-append f (range_with_len 0 count) (count ∷ [])
    ∙ ap (λ l. flat_map f (range_with_len 0 count) ++ l) (append-nil (f count))))
    (Appends-trans first text new (flat_map f (range_with_len 0 count)) (f count) so_far one)

-- What is written item by item, with one more.
pub items_more : {X : Type 0} (f : X → List ℕ) (items : List X) (index : ℕ) (item : X) (first text new : Option (List ℕ)) → index < length items
    → item ≡ get_or items index item → Appends first text (flat_map f (take index items)) → Appends text new (f item)
    → Appends first new (flat_map f (take (index + 1) items))
items_more f items index item first text new within is so_far one =
    subst (Appends first new)
    (sym (ap (flat_map f) (take_more items index item within) ∙ flat_map-append f (take index items) (get_or items index item ∷ [])
    ∙ ap (λ l. flat_map f (take index items) ++ l) (append-nil (f (get_or items index item)) ∙ ap f (sym is))))
    (Appends-trans first text new (flat_map f (take index items)) (f item) so_far one)
