-- How the list of a pass goes on from write to write.
use Rattle.std.proofs.Common.{◌≡◌, ℕ, suc, ◌+◌, ◌-◌, ◌%◌, ◌<◌, ◌≤◌, List, Vec, ◌∷◌, length, get_or}
use Rattle.std.proofs.Common.{take, drop, set, sym, ap, ◌∙◌, arith, length-set, length-take}
use Rattle.std.specs.List.{range_with_len, swap_remove}
use Rattle.std.specs.Vec.{with_items}
use Rattle.std.proofs.Math.Seq.{take-set-lt}
use Rattle.std.proofs.lemmas.List.{get_or-take, get_or_read, take-take, take-set, drop-set, drop-set-lt, take_all, drop_all, with_items_is}
use Rattle.write_order.specs.Picks.{block_with_map}
use Rattle.write_order.specs.Passes.{left_before}
use Rattle.write_order.proofs.PickSteps.{block_from_left, left_before-more, left_before-new, length-left_before, next_pass}

-- The list with one of the first blocks taken out, and the last of these at its index.
abbrev pub taken_out : List ℕ → ℕ → ℕ → ℕ → List ℕ
taken_out list index last v = set (set list index v) last last

pub length-taken_out : (list : List ℕ) (index last v : ℕ) → length (taken_out list index last v) ≡ length list
length-taken_out list index last v = omega (arith, length-set {A = ℕ})

-- That is what the vector holds when a slice of it was written.
pub items-taken_out : {Z : Type 0} (list : Vec ℕ Z) (old new : List ℕ) (index last : ℕ) → old ≡ list.items → length old ≡ list.len →
    new ≡ taken_out old index last (get_or old last 0) →
    (with_items list new).items ≡ taken_out list.items index last (get_or list.items last 0)
items-taken_out list old new index last is len written =
    let same : length new ≡ list.len = omega (arith, ap length written, length-taken_out old index last (get_or old last 0)) in
    with_items_is list new same ∙ written ∙ ap (λ xs. taken_out xs index last (get_or xs last 0)) is

-- Of the blocks that are left, that is a `swap_remove`.
pub take-taken_out : (list : List ℕ) (index last left v d : ℕ) → left ≡ last + 1 → index < left → left ≤ length list → v ≡ get_or list last d →
    take last (taken_out list index last v) ≡ swap_remove (take left list) index d
take-taken_out list index last left v d one within room read =
    let len : length (take left list) ≡ left = omega (arith, length-take {A = ℕ}) in
    let last_is : length (take left list) - 1 ≡ last = omega arith in
    let value : get_or (take left list) last d ≡ v = get_or-take left list last d (omega arith) ∙ sym read in
    let short : take last (set (take left list) index v) ≡ take last (set list index v) =
    ap (take last) (sym (take-set-lt left list index v within)) ∙ take-take last left (set list index v) (omega arith) in
    take-set (set list index v) last last ∙ sym (rw (last_is, value) short)

-- Behind them each index holds its own number, and so does the one that is given up.
pub drop-taken_out : (b : ℕ) (list : List ℕ) (index last left v : ℕ) → left ≡ last + 1 → index < left → left ≤ b → length list ≡ b →
    drop left list ≡ range_with_len left (b - left) →
    drop last (taken_out list index last v) ≡ range_with_len last (b - last)
drop-taken_out b list index last left v one within room len behind =
    let more : b - last ≡ suc (b - (last + 1)) = omega arith in
    let rest : drop (last + 1) list ≡ range_with_len (last + 1) (b - (last + 1)) = rw one at behind in
    drop-set (set list index v) last last (omega (arith, length-set {A = ℕ}))
    ∙ ap (λ xs. last ∷ xs) (drop-set-lt (last + 1) list index v (omega arith) ∙ rest)
    ∙ sym (ap (range_with_len last) more)

-- When all are given up, the list is the one of a new pass.
pub whole_again : (b : ℕ) (list : List ℕ) (left : ℕ) → left ≡ 0 → length list ≡ b → drop left list ≡ range_with_len left (b - left)
    → take b list ≡ range_with_len 0 b
whole_again b list left none len behind =
    take_all b list (omega arith) ∙ rw none at behind ∙ ap (range_with_len 0) (omega arith)

pub none_behind : (b : ℕ) (list : List ℕ) → length list ≡ b → drop b list ≡ range_with_len b (b - b)
none_behind b list len =
    let none : b - b ≡ 0 = omega arith in
    rw none (drop_all b list (omega arith))

-- What a word reads of the list is the block that it picks.
pub read_is_block : (words : ℕ → ℕ) (b k word index left r : ℕ) (list : List ℕ) → take left list ≡ left_before words b k → word ≡ words k → 0 < left →
    left ≤ length list → index ≡ word % left → r ≡ get_or list index r →
    r ≡ block_with_map words b k
read_is_block words b k word index left r list is next some room picked read =
    let len : length (take left list) ≡ left = omega (arith, length-take {A = ℕ}) in
    let rest : left ≡ b - k % b = sym len ∙ ap length is ∙ length-left_before words b k in
    let in_range : index < left = omega arith in
    let by_read = get_or_read list index r (omega arith) read 0 in
    let at : index ≡ words k % length (left_before words b k) =
    picked ∙ ap (λ w. w % left) next ∙ ap (λ n. words k % n) (sym len ∙ ap length is) in
    let value : get_or list index 0 ≡ get_or (left_before words b k) (words k % length (left_before words b k)) 0 =
    sym (get_or-take left list index 0 in_range) ∙ ap (λ xs. get_or xs index 0) is ∙ ap (λ i. get_or (left_before words b k) i 0) at in
    by_read ∙ value ∙ block_from_left words b k (omega arith)

-- What is left before the next write, where the pass goes on.
pub rest_goes_on : (words : ℕ → ℕ) (b k word index last left v : ℕ) (list : List ℕ) → take left list ≡ left_before words b k → word ≡ words k →
    index ≡ word % left → index < left → left ≤ length list → left ≡ last + 1 → 0 < last → v ≡ get_or list last 0 →
    take last (taken_out list index last v) ≡ left_before words b (k + 1)
rest_goes_on words b k word index last left v list is next picked within room one some read =
    let len : length (take left list) ≡ left = omega (arith, length-take {A = ℕ}) in
    let rest : left ≡ b - k % b = sym len ∙ ap length is ∙ length-left_before words b k in
    let at : index ≡ words k % length (left_before words b k) =
    picked ∙ ap (λ w. w % left) next ∙ ap (λ n. words k % n) (sym len ∙ ap length is) in
    take-taken_out list index last left v 0 one within room read
    ∙ ap (λ xs. swap_remove xs index 0) is ∙ ap (λ i. swap_remove (left_before words b k) i 0) at
    ∙ left_before-more words b k 0 (omega arith)

-- And where it is over: the next pass starts with all blocks.
pub rest_starts_anew : (words : ℕ → ℕ) (b k left : ℕ) (list rest : List ℕ) → take left list ≡ left_before words b k → left ≤ length list → left ≡ 1 →
    rest ≡ range_with_len 0 b →
    rest ≡ left_before words b (k + 1)
rest_starts_anew words b k left list rest is room one anew =
    let len : length (take left list) ≡ left = omega (arith, length-take {A = ℕ}) in
    let before : left ≡ b - k % b = sym len ∙ ap length is ∙ length-left_before words b k in
    anew ∙ sym (left_before-new words b (k + 1) (next_pass b k (omega arith)))
