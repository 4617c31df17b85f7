-- How what is left of a pass goes on from write to write.
use Rattle.std.proofs.Common.{◌≡◌, ℕ, zero, suc, ◌+◌, ◌-◌, ◌*◌, ◌/◌, ◌%◌, ◌<◌, false, List, slice_index, [], ◌∷◌, ◌++◌}
use Rattle.std.proofs.Common.{length, get_or, take, set, map, refl, sym, ap, ◌∙◌, arith, length-set, length-take}
use Rattle.std.specs.List.{range_with_len, swap_remove}
use Rattle.std.proofs.lemmas.List.{get_or_default, get_or-map, length-map, map-id}
use Rattle.std.proofs.lemmas.Nat.{div-mul-add, mod-mul-add}
use Rattle.std.proofs.lemmas.List.FromFn.{length-range_with_len, length-map-range_with_len, take-map-range_with_len}
use Rattle.std.proofs.lemmas.List.FromFn.{map-range_with_len_more, get_or-map-range_with_len, fill_by_all}
use Rattle.write_order.specs.Picks.{picked, block_with_map, block_without_map, blocks_picked}
use Rattle.write_order.specs.Passes.{left_after, left_before, PassLeft}

-- One more block at the end of all.
pub range_with_len-more : (n : ℕ) → range_with_len 0 (n + 1) ≡ range_with_len 0 n ++ n ∷ []
range_with_len-more n = simp map-id at (map-range_with_len_more (λ (x : ℕ). x) 0 n n (omega arith))

-- What a `swap_remove` would read of an empty list plays no part in another.
pub swap_remove_default : (xs : List ℕ) (i d e : ℕ) → 0 < length xs → swap_remove xs i d ≡ swap_remove xs i e
swap_remove_default xs i d e h =
    ap (λ y. take (length xs - 1) (set xs i y)) (get_or_default xs (length xs - 1) d e (omega arith))

pub length-swap_remove : (xs : List ℕ) (i d : ℕ) → length (swap_remove xs i d) ≡ length xs - 1
length-swap_remove xs i d = omega (arith, length-take {A = ℕ}, length-set {A = ℕ})

pub length-left_after : (left words : List ℕ) → length (left_after left words) ≡ length left - length words
length-left_after left [] = omega arith
length-left_after left (w ∷ ws) =
    let i = w % length left in
    omega (arith, length-left_after (swap_remove left i 0) ws, length-swap_remove left i 0)

-- One more word takes one block more.
pub left_after-push : (left words : List ℕ) (w : ℕ) → left_after left (words ++ w ∷ [])
    ≡ swap_remove (left_after left words) (w % length (left_after left words)) 0
left_after-push left [] w = refl
left_after-push left (v ∷ vs) w = left_after-push (swap_remove left (v % length left) 0) vs w

-- The i-th block picked is the one that the i-th word picks of what the words before it leave.
pub get_or-picked : (left words : List ℕ) (i : ℕ) → i < length words
    → get_or (picked left words) i 0 ≡ get_or (left_after left (take i words)) (get_or words i 0 % length (left_after left (take i words))) 0
get_or-picked left [] i h = absurd (omega arith)
get_or-picked left (w ∷ ws) zero h = refl
get_or-picked left (w ∷ ws) (suc i) h = get_or-picked (swap_remove left (w % length left) 0) ws i (omega arith)

-- How many blocks a pass has left before write k.
pub length-left_before : (words : ℕ → ℕ) (b k : ℕ) → length (left_before words b k) ≡ b - k % b
unfolding left_before
length-left_before words b k =
    omega (
      arith,
      length-left_after (range_with_len 0 b) (map words (range_with_len (k / b * b) (k % b))),
      length-range_with_len 0 b,
      length-map-range_with_len words (k / b * b) (k % b),
    )

-- Word k picks block k of what is left before it.
pub block_from_left : (words : ℕ → ℕ) (b k : ℕ) → 0 < b → get_or (left_before words b k) (words k % length (left_before words b k)) 0 ≡ block_with_map words b k
unfolding left_before block_with_map
block_from_left words b k some =
    let within : k % b < b = omega arith in
    let pass = map words (range_with_len (k / b * b) b) in
    let whole = take-map-range_with_len words (k / b * b) b (k % b) (omega arith) in
    let next : get_or pass (k % b) 0 ≡ words k =
    get_or-map-range_with_len words (k / b * b) b (k % b) k 0 within (omega arith) in
    let at = get_or-picked (range_with_len 0 b) pass (k % b) (omega (arith, length-map-range_with_len words (k / b * b) b)) in
    sym (rw (whole, next) at at)

-- What is left before the next write: all but the block that was picked, or a new pass.
pub left_before-more : (words : ℕ → ℕ) (b k d : ℕ) → k % b + 1 < b
    → swap_remove (left_before words b k) (words k % length (left_before words b k)) d ≡ left_before words b (k + 1)
unfolding left_before
left_before-more words b k d more =
    let left = left_before words b k in
    let start = k / b * b in
    let whole : k + 1 ≡ start + (k % b + 1) = omega arith in
    let same_pass : (k + 1) / b ≡ k / b = rw whole (div-mul-add (k / b) b (k % b + 1) more) in
    let next_turn : (k + 1) % b ≡ k % b + 1 = rw whole (mod-mul-add (k / b) b (k % b + 1) more) in
    let words_more = map-range_with_len_more words start (k % b) k (omega arith) in
    let some : 0 < length left = omega (arith, length-left_before words b k) in
    let pushed = left_after-push (range_with_len 0 b) (map words (range_with_len start (k % b))) (words k) in
    rw (same_pass, next_turn, words_more) (swap_remove_default left _ d 0 some ∙ sym pushed)

pub next_pass : (b k : ℕ) → k % b + 1 ≡ b → (k + 1) % b ≡ 0
next_pass b k last =
    let whole : k + 1 ≡ (k / b + 1) * b + 0 = omega arith in
    rw whole (mod-mul-add (k / b + 1) b 0 (omega arith))

pub left_before-new : (words : ℕ → ℕ) (b k : ℕ) → k % b ≡ 0 → left_before words b k ≡ range_with_len 0 b
unfolding left_before
left_before-new words b k new = rw new refl

-- A pass is known by its parts.
pub same_pass : (b c : ℕ) (left rest : List ℕ) → b ≡ c → left ≡ rest
    → (let p : PassLeft = record { blocks = b; left = left } in let q : PassLeft = record { blocks = c; left = rest } in p ≡ q)
same_pass b c left rest same e = cc

pub zero_turn : (b : ℕ) → 0 < b → 0 % b ≡ 0
zero_turn b some = omega arith

-- Without a map each word picks by itself.
pub blocks_without_map : (words : List ℕ) (b : ℕ) → map (λ w. w % b) words ≡ blocks_picked false words b
blocks_without_map words b =
    fill_by_all (block_without_map (slice_index words) b) (map (λ w. w % b) words) (length words) 0 (length-map words (λ w. w % b))
    (λ k h. get_or-map (λ w. w % b) words k 0 0 h)

-- One more word picks one block more.
pub blocks_with_map-more : (words : ℕ → ℕ) (b k r : ℕ) (before after : List ℕ) → before ≡ map (block_with_map words b) (range_with_len 0 k)
    → r ≡ block_with_map words b k → after ≡ before ++ r ∷ [] → after ≡ map (block_with_map words b) (range_with_len 0 (k + 1))
blocks_with_map-more words b k r before after is picked pushed =
    pushed ∙ ap (λ xs. xs ++ r ∷ []) is ∙ ap (λ x. map (block_with_map words b) (range_with_len 0 k) ++ x ∷ []) picked
    ∙ sym (map-range_with_len_more (block_with_map words b) 0 k k (omega arith))
