-- Lists of numbers, and the least room in them.
use Rattle.std.proofs.Common.{◌≡◌, refl, sym, ◌∙◌, ap, ℕ, zero, suc, ◌+◌, ◌<◌, ◌≤◌, ◌≢◌, arith, true, false, not}
use Rattle.std.proofs.Common.{◌==◌, inl, inr, nat_lt, List, [], ◌∷◌, length, get_or, map, filter, Option, Some, None}
use Rattle.std.specs.Prelude.{if◌then◌else◌, replicate, slice_set, All, AllPairs, remove}
use Rattle.std.proofs.lemmas.Bool.{cases_Bool, cases_eq}
use Rattle.std.proofs.lemmas.Bool.Decides.{nat_tests}
use Rattle.std.proofs.lemmas.List.{get_or_default, get_or-map, map-set}
use Rattle.messages.specs.declared.limits.TheConstants.{MAX_NODES}
use Rattle.messages.specs.declared.node.Node.{Node}
use Rattle.messages.specs.Nodes.{node_number, is_node}
use Rattle.messages.specs.KeptNetwork.{least, without_frame}
use Rattle.messages.proofs.NodeLemmas.{placed, number_below}

-- ---- a number of an ascending list

-- What lies behind x is above it.
above : (x : ℕ) (xs : List ℕ) → AllPairs (λ a b. a < b) (x ∷ xs) → All (λ b. x < b) xs
above x xs pairs = λ k d h. pairs 0 (suc k) d (omega arith) (omega (arith, h))

behind : (x : ℕ) (xs : List ℕ) → AllPairs (λ a b. a < b) (x ∷ xs) → AllPairs (λ a b. a < b) xs
behind x xs pairs = λ i j d lt h. pairs (suc i) (suc j) d (omega (arith, lt)) (omega (arith, h))

-- Where a number isn't, taking it out changes nothing.
pub without_absent : (n : ℕ) (xs : List ℕ) → All (λ k. n ≢ k) xs → filter (λ k. not (n == k)) xs ≡ xs
without_absent n [] none = refl
without_absent n (x ∷ xs) none =
    let ne : n ≢ x = none 0 0 (omega arith) in
    let test : (n == x) ≡ false = grind (arith, nat_tests) in
    rw test (ap (λ (ys : List ℕ). x ∷ ys) (without_absent n xs (λ k d h. none (suc k) d (omega (arith, h)))))

-- Where it is, that place goes.
pub without_place : (n : ℕ) (xs : List ℕ) (i : ℕ) → AllPairs (λ a b. a < b) xs → i < length xs → get_or xs i 0 ≡ n → filter (λ k. not (n == k)) xs ≡ remove xs i
without_place n [] i pairs h is = absurd (omega (arith, h))
without_place n (x ∷ xs) zero pairs h is =
    let test : (n == x) ≡ true = grind (arith, nat_tests) in
    rw test (without_absent n xs (λ k d lt. let more = above x xs pairs k d lt in let ne : n ≢ get_or xs k d = omega (arith, is, more) in ne))
without_place n (x ∷ xs) (suc i) pairs h is =
    let more : x < get_or xs i 0 = above x xs pairs i 0 (omega (arith, h)) in
    let test : (n == x) ≡ false = let ne : n ≢ x = omega (arith, is, more) in grind (arith, nat_tests) in
    rw test (ap (λ (ys : List ℕ). x ∷ ys) (without_place n xs i (behind x xs pairs) (omega (arith, h)) is))

pub rises : (xs : List ℕ) → AllPairs (λ a b. a < b) xs → (i j : ℕ) → i ≤ j → j < length xs → get_or xs i 0 ≤ get_or xs j 0
rises xs pairs i j le h = elim (cases_eq i j) [
  | inl e ↦ omega (arith, ap (λ (n : ℕ). get_or xs n 0) e)
  | inr ne ↦ omega (arith, pairs i j 0 (omega (arith, le, ne)) h)
]

-- What a search that didn't find it says.
pub not_found : (n : ℕ) (xs : List ℕ) (i : ℕ) → ((k : ℕ) → k < i → get_or xs k 0 < n) → ((k : ℕ) → i ≤ k → k < length xs → n < get_or xs k 0)
    → All (λ k. n ≢ k) xs
not_found n xs i low high = λ k d h.
    let same = get_or_default xs k d 0 h in
    elim (cases_Bool (nat_lt k i)) [
      | inl t ↦ let lt : k < i = grind (arith, nat_tests) in omega (arith, same, low k lt)
      | inr f ↦ let le : i ≤ k = grind (arith, nat_tests) in omega (arith, same, high k le h)
    ]

-- ---- the room in lists

pub room_at : {V : Type 0} (most : ℕ) (spare : V → ℕ) (vs : List V) (k : ℕ) (d : V) → k < length vs → least most (map spare vs) ≤ spare (get_or vs k d)
room_at most spare [] k d h = absurd (omega (arith, h))
room_at most spare (v ∷ vs) zero d h = omega arith
room_at most spare (v ∷ vs) (suc k) d h = omega (arith, room_at most spare vs k d (omega (arith, h)))

-- Where one list has room for n fewer at most, so has the one with the least.
pub room_set : {V : Type 0} (most : ℕ) (spare : V → ℕ) (vs : List V) (k n : ℕ) (v d : V) → spare (get_or vs k d) ≤ spare v + n
    → least most (map spare vs) ≤ least most (map spare (slice_set vs k v)) + n
room_set most spare [] k n v d h = omega arith
room_set most spare (w ∷ vs) zero n v d h = omega (arith, h)
room_set most spare (w ∷ vs) (suc k) n v d h = omega (arith, room_set most spare vs k n v d h)

pub room_all : {V : Type 0} (most : ℕ) (spare : V → ℕ) (vs : List V) (n : ℕ) → n ≤ most → All (λ v. n ≤ spare v) vs → n ≤ least most (map spare vs)
room_all most spare [] n le each = le
room_all most spare (v ∷ vs) n le each = omega (arith, each 0 v (omega arith), room_all most spare vs n le (λ k d h. each (suc k) d (omega (arith, h))))

-- ---- one of the lists

-- A new list at a place, by what each list holds.
pub set_items : {V : Type 0} (f : V → List ℕ) (g : List ℕ → List ℕ) (vs : List V) (old : List (List ℕ)) (k n : ℕ) (v d : V) → map f vs ≡ old → k ≡ n
    → k < length vs → f v ≡ g (f (get_or vs k d))
    → map f (slice_set vs k v) ≡ slice_set old n (g (get_or old n []))
set_items f g vs old k n v d old_is k_is h v_is =
    rw (← old_is, ← k_is) (map-set f vs k v ∙ ap (λ (x : List ℕ). slice_set (map f vs) k x) (v_is ∙ ap g (sym (get_or-map f vs k d [] h))))

-- Lists of which each is empty.
pub all_empty : {V : Type 0} (f : V → List ℕ) (vs : List V) (n : ℕ) → length vs ≡ n → ((i : ℕ) (d : V) → i < n → f (get_or vs i d) ≡ [])
    → map f vs ≡ replicate n []
all_empty f [] n e each = rw (← e) refl
all_empty f (v ∷ vs) n e each =
    rw (← e, each 0 v (omega (arith, e))) (ap (λ (xs : List (List ℕ)). [] ∷ xs)
    (all_empty f vs (length vs) refl (λ i d h. each (suc i) d (omega (arith, e, h)))))

-- What a node took is out of its list.
pub take_items : {V : Type 0} (f : V → List ℕ) (vs : List V) (lists : List (List ℕ)) (node : Node) (taken : Option ℕ) (n place : ℕ) (v d : V) → map f vs ≡ lists
    → length vs ≡ MAX_NODES → taken ≡ Some n
    → Some place ≡ (if is_node node then Some (node_number node) else None) → f v ≡ filter (λ k. not (n == k)) (f (get_or vs place d))
    → map f (slice_set vs place v) ≡ without_frame lists node taken
take_items f vs lists node taken n place v d lists_are long taken_is place_is v_is =
    let at = placed node place (node_number node) (is_node node) place_is in
    let valid : is_node node ≡ true = at.0 in
    let within : place < length vs = omega (arith, number_below node valid, at.1) in
    rw (taken_is, valid) (set_items f (filter (λ k. not (n == k))) vs lists place (node_number node) v d lists_are at.1 within v_is)
