-- The frames that an event sent, and those of the hub.
use Rattle.std.proofs.Common.{◌≡◌, sym, ◌∙◌, ap, ℕ, ◌+◌, ◌≤◌, ◌<◌, arith, List, [], ◌∷◌, ◌++◌, length, take, drop, get_or, Some}
use Rattle.std.specs.Prelude.{slice_get}
use Rattle.std.proofs.lemmas.List.{length-drop, take_more, take_all, get_or-drop}
use Rattle.std.proofs.lemmas.Option.{slice_get_within, get_or_from_slice_get}

-- The first i frames of an event are those of the hub behind so many.
pub record AreSame (frames : List (List ℕ)) (before : ℕ) (sent : List (List ℕ)) (i : ℕ) : Type 0 where
  pub within : i ≤ length sent
  pub same : take i sent ≡ take i (drop before frames)

-- The frame behind so many more.
there : (frames : List (List ℕ)) (before i : ℕ) (f : List ℕ) → slice_get frames (before + i) ≡ Some f
    → (i < length (drop before frames)) × (get_or (drop before frames) i [] ≡ f)
there frames before i f is = (
  omega (arith, slice_get_within frames (before + i) f is, length-drop before frames),
  get_or-drop before frames i [] ∙ get_or_from_slice_get frames (before + i) f [] is,
)

pub same_more : (frames : List (List ℕ)) (before : ℕ) (sent : List (List ℕ)) (i : ℕ) (f : List ℕ) → AreSame frames before sent i → slice_get sent i ≡ Some f
    → slice_get frames (before + i) ≡ Some f → AreSame frames before sent (i + 1)
same_more frames before sent i f same is also =
    let at = there frames before i f also in
    let low = slice_get_within sent i f is in
    record {
      within = omega (arith, low);
      same =
          take_more sent i [] low
          ∙ (ap (λ (x : List ℕ). take i sent ++ x ∷ []) (get_or_from_slice_get sent i f [] is ∙ sym at.1)
          ∙ (ap (λ (xs : List (List ℕ)). xs ++ get_or (drop before frames) i [] ∷ []) same.same
          ∙ sym (take_more (drop before frames) i [] at.0)));
    }

-- All are.
pub all_same : (frames : List (List ℕ)) (before count : ℕ) (sent : List (List ℕ)) (i : ℕ) → AreSame frames before sent i → length sent ≤ i → length sent ≡ count
    → sent ≡ take count (drop before frames)
all_same frames before count sent i same end long =
    let all : i ≡ length sent = omega (arith, same.within, end) in
    sym (take_all (length sent) sent (omega arith))
    ∙ (ap (λ (n : ℕ). take n sent) (sym all) ∙ (same.same ∙ ap (λ (n : ℕ). take n (drop before frames)) (all ∙ long)))
