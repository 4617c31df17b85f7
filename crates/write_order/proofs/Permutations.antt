-- A pass names each block once.
use Rattle.std.proofs.Common.{◌≡◌, ℕ, zero, suc, ◌+◌, ◌-◌, ◌*◌, ◌/◌, ◌%◌, ◌<◌, ◌≤◌, List, [], ◌∷◌}
use Rattle.std.proofs.Common.{length, get_or, take, set, map, refl, sym, ap, ◌∙◌, ⊎_elim, arith}
use Rattle.std.specs.List.{range_with_len, swap_remove}
use Rattle.std.specs.List.Sorted.{IsPermutation}
use Rattle.std.proofs.lemmas.Bool.{cases_lt}
use Rattle.std.proofs.lemmas.List.{get_or_past, get_or_default, ext_get_or}
use Rattle.std.proofs.lemmas.List.FromFn.{length-range_with_len, get_or-range_with_len, length-map-range_with_len, get_or-map-range_with_len}
use Rattle.std.proofs.lemmas.List.Sorted.{IsPermutation-refl, IsPermutation-cons, IsPermutation-trans, IsPermutation-swap_remove}
use Rattle.std.proofs.lemmas.Nat.{div-mul-add, mod-mul-add}
use Rattle.fc_base.specs.declared.record.JobParts.{JobParts}
use Rattle.fc_base.specs.declared.record.Kind.{Kind}
use Rattle.fc_base.specs.declared.record.Kind.TheVariants.{Sequential, RandomMap, RandomFree}
use Rattle.write_order.specs.Words.{word}
use Rattle.write_order.specs.Blocks.{block_of}
use Rattle.write_order.specs.Picks.{picked, blocks_of_pass, block_with_map}
use Rattle.write_order.proofs.PickSteps.{swap_remove_default, length-swap_remove}

-- So many words as there are blocks pick each of them once.
pub IsPermutation-picked : (left words : List ℕ) → length words ≡ length left → IsPermutation left (picked left words)
IsPermutation-picked [] [] same = IsPermutation-refl []
IsPermutation-picked (b ∷ bs) [] same = absurd (omega arith)
IsPermutation-picked left (w ∷ ws) same =
    let i = w % length left in
    let within : i < length left = omega arith in
    let rest = swap_remove left i 0 in
    let len : length ws ≡ length rest = omega (arith, length-swap_remove left i 0) in
    let x = get_or left i 0 in
    let first = IsPermutation-swap_remove left i x within (get_or_default left i 0 x within) in
    let same_rest = swap_remove_default left i x 0 (omega arith) in
    let start : IsPermutation left (x ∷ rest) = rw same_rest at first in
    IsPermutation-trans _ _ _ start (IsPermutation-cons x _ _ (IsPermutation-picked rest ws len))

pub length-picked : (left words : List ℕ) → length (picked left words) ≡ length words
length-picked left [] = refl
length-picked left (w ∷ ws) = ap suc (length-picked (swap_remove left (w % length left) 0) ws)

-- Every element, and what is read past the end, is below b.
abbrev AllBelow : ℕ → List ℕ → Type 0
AllBelow b xs = (i : ℕ) → get_or xs i 0 < b

AllBelow-range : (b : ℕ) → 0 < b → AllBelow b (range_with_len 0 b)
AllBelow-range b some i =
    let Goal : Type 0 = get_or (range_with_len 0 b) i 0 < b in
    ⊎_elim (λ (h : i < b). let at : Goal = omega (arith, get_or-range_with_len 0 b i 0 h) in at)
    (λ (h : b ≤ i). let at : Goal = omega (arith, get_or_past (range_with_len 0 b) i 0 (omega (arith, length-range_with_len 0 b))) in at) (cases_lt i b)

AllBelow-set : (b : ℕ) (xs : List ℕ) (j y : ℕ) → 0 < b → y < b → AllBelow b xs → AllBelow b (set xs j y)
AllBelow-set b [] j y some in_range below i = some
AllBelow-set b (x ∷ xs) zero y some in_range below zero = in_range
AllBelow-set b (x ∷ xs) zero y some in_range below (suc i) = below (suc i)
AllBelow-set b (x ∷ xs) (suc j) y some in_range below zero = below 0
AllBelow-set b (x ∷ xs) (suc j) y some in_range below (suc i) =
    AllBelow-set b xs j y some in_range (λ k. below (suc k)) i

AllBelow-take : (b n : ℕ) (xs : List ℕ) → 0 < b → AllBelow b xs → AllBelow b (take n xs)
AllBelow-take b zero xs some below i = some
AllBelow-take b (suc n) [] some below i = some
AllBelow-take b (suc n) (x ∷ xs) some below zero = below 0
AllBelow-take b (suc n) (x ∷ xs) some below (suc i) = AllBelow-take b n xs some (λ k. below (suc k)) i

AllBelow-picked : (b : ℕ) (left words : List ℕ) → 0 < b → AllBelow b left → AllBelow b (picked left words)
AllBelow-picked b left [] some below i = some
AllBelow-picked b left (w ∷ ws) some below zero = below (w % length left)
AllBelow-picked b left (w ∷ ws) some below (suc i) =
    let at = w % length left in
    let last = get_or left (length left - 1) 0 in
    let rest = AllBelow-take b (length left - 1) (set left at last) some (AllBelow-set b left at last some (below (length left - 1)) below) in
    AllBelow-picked b (swap_remove left at 0) ws some rest i

-- A block with a map is one of the blocks.
pub block_with_map-below : (words : ℕ → ℕ) (b k : ℕ) → 0 < b → block_with_map words b k < b
unfolding block_with_map
block_with_map-below words b k some =
    AllBelow-picked b (range_with_len 0 b) (map words (range_with_len (k / b * b) b)) some (AllBelow-range b some) (k % b)

-- The blocks of the writes of a pass are those that its words pick.
blocks_of_pass_is : (words : ℕ → ℕ) (b p : ℕ) → blocks_of_pass words b p ≡ map (block_with_map words b) (range_with_len (p * b) b)
unfolding block_with_map
blocks_of_pass_is words b p =
    let len : length (blocks_of_pass words b p) ≡ b =
    length-picked (range_with_len 0 b) (map words (range_with_len (p * b) b)) ∙ length-map-range_with_len words (p * b) b in
    ext_get_or 0 _ _ (len ∙ sym (length-map-range_with_len (block_with_map words b) (p * b) b))
    (λ (i : ℕ) (h : i < length (blocks_of_pass words b p)).
    let below : i < b = omega arith in
    let row = div-mul-add p b i below in
    let col = mod-mul-add p b i below in
    let at = get_or-map-range_with_len (block_with_map words b) (p * b) b i (p * b + i) 0 below refl in
    let same : block_with_map words b (p * b + i) ≡ get_or (blocks_of_pass words b p) i 0 = rw (row, col) refl in
    sym (at ∙ same))

-- A pass names each block once.
pub IsPermutation-pass : (words : ℕ → ℕ) (b p : ℕ) → IsPermutation (range_with_len 0 b) (map (block_with_map words b) (range_with_len (p * b) b))
IsPermutation-pass words b p =
    let len : length (map words (range_with_len (p * b) b)) ≡ length (range_with_len 0 b) =
    length-map-range_with_len words (p * b) b ∙ sym (length-range_with_len 0 b) in
    rw (← blocks_of_pass_is words b p) (IsPermutation-picked (range_with_len 0 b) (map words (range_with_len (p * b) b)) len)

-- The block of a write is one of its job's.
pub block_of-below : (job : JobParts) (k : ℕ) → 0 < job.blocks → block_of job k < job.blocks
block_of-below job k some = go job.kind refl
  where
    go : (kind : Kind) → job.kind ≡ kind → block_of job k < job.blocks
    go Sequential is = rw is (omega arith)
    go RandomMap is = rw is (block_with_map-below (word job.seed) job.blocks k some)
    go RandomFree is = rw is (omega arith)
