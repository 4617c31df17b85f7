-- The bytes at the places of a body, one after another, are the body.
use Rattle.std.proofs.Common.{◌≡◌, refl, sym, ◌∙◌, ap, ℕ, zero, suc, ◌+◌, ◌≤◌, arith, Bool, true}
use Rattle.std.proofs.Common.{false, List, [], ◌∷◌, ◌++◌, length, take, drop, Option, Some, None}
use Rattle.std.specs.Prelude.{if◌then◌else◌, nat_lt}
use Rattle.std.proofs.lemmas.Bool.Decides.{nat_tests}
use Rattle.std.proofs.lemmas.List.{drop_all, drop-drop, take-append-drop}
use Rattle.messages.specs.declared.limits.TheConstants.{CHUNK_LIMIT}
use Rattle.messages.specs.Pieces.{places_from, places, bytes_at}
use Rattle.messages.specs.declared.places.PlaceSet.{PlaceSet}
use Rattle.messages.specs.Assemblies.{filled_at, after_these, joined_bytes}

-- The bytes at these places.
abbrev pub slices : List ℕ → List ℕ → List ℕ
slices b [] = []
slices b (at ∷ ats) = bytes_at b at ++ slices b ats

from_here : (n at : ℕ) (b : List ℕ) (t : Bool) → nat_lt at (length b) ≡ t → length b ≤ at + suc n
    → (length b ≤ (at + CHUNK_LIMIT) + n → slices b (places_from n (at + CHUNK_LIMIT) (length b)) ≡ drop (at + CHUNK_LIMIT) b)
    → slices b (if t then at ∷ places_from n (at + CHUNK_LIMIT) (length b) else []) ≡ drop at b
from_here n at b true is h more =
    ap (λ (l : List ℕ). take CHUNK_LIMIT (drop at b) ++ l) (more (omega arith) ∙ sym (drop-drop CHUNK_LIMIT at b)) ∙ take-append-drop CHUNK_LIMIT (drop at b)
from_here n at b false is h more = let end : length b ≤ at = grind (arith, nat_tests) in sym (drop_all at b end)

pub slices_from : (n at : ℕ) (b : List ℕ) → length b ≤ at + n → slices b (places_from n at (length b)) ≡ drop at b
slices_from zero at b h = sym (drop_all at b (omega arith))
slices_from (suc n) at b h = from_here n at b (nat_lt at (length b)) refl h (slices_from n (at + CHUNK_LIMIT) b)

pub slices_all : (b : List ℕ) → slices b (places (length b)) ≡ b
slices_all b = slices_from (length b) 0 b (omega arith)

-- Filled places that have the bytes of a body.
abbrev pub AreOf : List ℕ → List PlaceSet → Type 0
AreOf b fs = (at : ℕ) (x : List ℕ) → filled_at fs at ≡ Some x → bytes_at b at ≡ x

two_parts : (o r : Option (List ℕ)) (x : List ℕ) → after_these o r ≡ Some x → (y : List ℕ) × (z : List ℕ) × (o ≡ Some y) × (r ≡ Some z) × (y ++ z ≡ x)
two_parts None r x h = absurd cc
two_parts (Some y) None x h = absurd cc
two_parts (Some y) (Some z) x h = (y, z, refl, refl, cc)

pub joined_slices : (b : List ℕ) (fs : List PlaceSet) → AreOf b fs → (ats x : List ℕ) → joined_bytes fs ats ≡ Some x → slices b ats ≡ x
joined_slices b fs are [] x h = cc
joined_slices b fs are (at ∷ ats) x h =
    let p = two_parts (filled_at fs at) (joined_bytes fs ats) x h in
    let first : bytes_at b at ≡ p.0 = are at p.0 p.2 in
    let rest : slices b ats ≡ p.1 = joined_slices b fs are ats p.1 p.3 in
    rw (first, rest) p.4
