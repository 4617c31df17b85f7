-- The order that a journal gives merges the histories that agree with it.
use Rattle.std.proofs.Common.{◌≡◌, refl, sym, ◌∙◌, ap, subst, ◌⊎◌, inl, inr, ℕ, suc, ◌+◌, ◌<◌, ◌≤◌, arith, Bool, true, false, ◌&&◌, List, [], ◌∷◌, ◌++◌, length}
use Rattle.std.specs.Prelude.{map, filter, if◌then◌else◌, nat_le, nat_lt}
use Rattle.std.proofs.lemmas.Bool.{ltb-true, ltb-false, lt-ltb, le-ltb, le-leb, lt-leb}
use Rattle.messages.specs.declared.node.Node.{Node}
use Rattle.messages.specs.declared.line.Line.{Line}
use Rattle.messages.specs.Waiting.{is_same_node}
use Rattle.messages.proofs.NodeLemmas.{same_node, is_same_as_itself}
use Rattle.cells.specs.declared.entry.HistoryEntry.{HistoryEntry}
use Rattle.cells.specs.AtHub.{is_left_out}
use Rattle.assembly.specs.declared.place.Place.{Place}
use Rattle.assembly.specs.Orders.{standing_places, places_of, IsWithin, place_of, next_place, places_between, up_to_last}

-- ---- lists within others

pub within_more : {X : Type 0} (xs zs ys : List X) → IsWithin xs ys → IsWithin xs (zs ++ ys)
within_more xs [] ys h = h
within_more xs (z ∷ zs) ys h = inl (within_more xs zs ys h)

pub within_rest : {X : Type 0} (x : X) (xs ys : List X) → IsWithin (x ∷ xs) ys → IsWithin xs ys
within_rest x xs [] h = absurd (never h)
  where
    never : x ∷ xs ≡ [] → ⊥
    never h = cc
within_rest x xs (y ∷ ys) (inl h) = inl (within_rest x xs ys h)
within_rest {X} x xs (y ∷ ys) (inr h) = inl (subst (λ (l : List X). IsWithin l ys) (rests x y xs h.0 h.1) h.2)
  where
    rests : (x y : X) (xs rest : List X) → x ∷ xs ≡ y ∷ rest → rest ≡ xs
    rests x y xs rest h = cc

-- A number is in a list.
abbrev pub IsIn : List ℕ → ℕ → Type 0
IsIn [] n = ⊥
IsIn (x ∷ xs) n = (x ≡ n) ⊎ IsIn xs n

pub within_in : (x : ℕ) (xs ys : List ℕ) → IsWithin (x ∷ xs) ys → IsIn ys x
within_in x xs [] h = absurd (never h)
  where
    never : x ∷ xs ≡ [] → ⊥
    never h = cc
within_in x xs (y ∷ ys) (inl h) = inr (within_in x xs ys h)
within_in x xs (y ∷ ys) (inr h) = inl (firsts x y xs h.0 h.1)
  where
    firsts : (x y : ℕ) (xs rest : List ℕ) → x ∷ xs ≡ y ∷ rest → y ≡ x
    firsts x y xs rest h = cc

-- ---- numbers that fall

-- They fall, and all are below this one.
abbrev pub Falls : ℕ → List ℕ → Type 0
Falls top [] = Unit {0}
Falls top (x ∷ xs) = (x < top) × Falls x xs

pub falls_wider : (a b : ℕ) (xs : List ℕ) → a ≤ b → Falls a xs → Falls b xs
falls_wider a b [] l h = tt
falls_wider a b (x ∷ xs) l h = (omega (arith, l, h.0), h.1)

pub in_falls : (top n : ℕ) (xs : List ℕ) → Falls top xs → IsIn xs n → n < top
in_falls top n [] h i = absurd i
in_falls top n (x ∷ xs) h (inl e) = omega (arith, h.0, e)
in_falls top n (x ∷ xs) h (inr i) = let l = in_falls x n xs h.1 i in omega (arith, h.0, l)

abbrev pub span : ℕ → ℕ → List ℕ → List ℕ
span from to xs = filter (λ at. nat_le from at && nat_lt at to) xs

abbrev pub below : ℕ → List ℕ → List ℕ
below to xs = filter (λ at. nat_lt at to) xs

pub all_below : (top to : ℕ) (xs : List ℕ) → top ≤ to → Falls top xs → below to xs ≡ xs
all_below top to [] l h = refl
all_below top to (x ∷ xs) l h =
    let first : nat_lt x to ≡ true = lt-ltb x to (omega (arith, l, h.0)) in
    let rest = all_below x to xs (omega (arith, l, h.0)) h.1 in
    rw first (ap (λ ys. x ∷ ys) rest)

none_below : (xs : List ℕ) → below 0 xs ≡ []
none_below [] = refl
none_below (x ∷ xs) =
    let first : nat_lt x 0 ≡ false = le-ltb x 0 (omega arith) in
    rw first (none_below xs)

-- Below the first number there is none from it on.
none_from : (top from to : ℕ) (xs : List ℕ) → top ≤ from → Falls top xs → span from to xs ≡ []
none_from top from to [] l h = refl
none_from top from to (x ∷ xs) l h =
    let first : nat_le from x ≡ false = lt-leb from x (omega (arith, l, h.0)) in
    rw first (none_from x from to xs (omega (arith, l, h.0)) h.1)

-- Those from one number on and below another come before those below the one.
pub spans_meet : (top from to : ℕ) (xs : List ℕ) → from ≤ to → Falls top xs → span from to xs ++ below from xs ≡ below to xs
spans_meet top from to [] l h = refl
spans_meet top from to (x ∷ xs) l h = by_tests (spans_meet x from to xs l h.1) (nat_lt x from) refl (nat_lt x to) refl
  where
    by_tests : span from to xs ++ below from xs ≡ below to xs → (a : Bool) → nat_lt x from ≡ a → (b : Bool) → nat_lt x to ≡ b
        → span from to (x ∷ xs) ++ below from (x ∷ xs) ≡ below to (x ∷ xs)
    by_tests later true e b f =
        let less = ltb-true x from e in
        none_from_here less ∙ (all_below (suc x) from (x ∷ xs) (omega (arith, less)) (omega arith, h.1)
        ∙ sym (all_below (suc x) to (x ∷ xs) (omega (arith, less, l)) (omega arith, h.1)))
      where
        none_from_here : x < from → span from to (x ∷ xs) ++ below from (x ∷ xs) ≡ below from (x ∷ xs)
        none_from_here less = ap (λ ys. ys ++ below from (x ∷ xs)) (none_from (suc x) from to (x ∷ xs) (omega (arith, less)) (omega arith, h.1))
    by_tests later false e true f =
        let there : nat_le from x ≡ true = le-leb from x (ltb-false x from e) in
        rw (there, e, f) (ap (λ ys. x ∷ ys) later)
    by_tests later false e false f =
        let there : nat_le from x ≡ true = le-leb from x (ltb-false x from e) in
        rw (there, e, f) later

-- ---- the places of a node in an order

pub own_places : (own node : Node) (xs : List ℕ) (order : List Place) → is_same_node own node ≡ true
    → places_of node (map (λ at. record { node = own; at = at }) xs ++ order) ≡ xs ++ places_of node order
own_places own node [] order h = refl
own_places own node (x ∷ xs) order h = rw h (ap (λ ys. x ∷ ys) (own_places own node xs order h))

pub other_places : (own node : Node) (xs : List ℕ) (order : List Place) → is_same_node own node ≡ false
    → places_of node (map (λ at. record { node = own; at = at }) xs ++ order) ≡ places_of node order
other_places own node [] order h = refl
other_places own node (x ∷ xs) order h = rw h (other_places own node xs order h)

-- The places of a node's entries in a journal.
abbrev pub noted_at : Node → List Line → List ℕ
noted_at node [] = []
noted_at node (l ∷ older) = if is_same_node l.node node then l.at ∷ noted_at node older else noted_at node older

pub next_le : (node : Node) (journal : List Line) (top : ℕ) → Falls top (noted_at node journal) → next_place node journal ≤ top
next_le node [] top h = omega arith
next_le node (l ∷ older) top h = by_test (λ k. next_le node older top k) (is_same_node l.node node) h
  where
    by_test : (Falls top (noted_at node older) → next_place node older ≤ top) → (b : Bool)
        → Falls top (if b then l.at ∷ noted_at node older else noted_at node older) → (if b then l.at + 1 else next_place node older) ≤ top
    by_test later true h = omega (arith, h.0)
    by_test later false h = later h

-- What is asked of the journal: of each node its entries fall, and stand in its list.
pub record AreNoted (ran : Node → List HistoryEntry) (journal : List Line) : Type 0 where
  pub falls : (node : Node) → (top : ℕ) × Falls top (noted_at node journal)
  pub within : (node : Node) → IsWithin (noted_at node journal) (standing_places (ran node))

older_noted : (ran : Node → List HistoryEntry) (l : Line) (older : List Line) → AreNoted ran (l ∷ older) → AreNoted ran older
older_noted ran l older h = record {
  falls = λ node. fall node (is_same_node l.node node) (h.falls node);
  within = λ node. stand node (is_same_node l.node node) (h.within node);
}
  where
    fall : (node : Node) (b : Bool) → (top : ℕ) × Falls top (if b then l.at ∷ noted_at node older else noted_at node older)
        → (top : ℕ) × Falls top (noted_at node older)
    fall node true f = (l.at, f.1.1)
    fall node false f = f

    stand : (node : Node) (b : Bool) → IsWithin (if b then l.at ∷ noted_at node older else noted_at node older) (standing_places (ran node))
        → IsWithin (noted_at node older) (standing_places (ran node))
    stand node true w = within_rest l.at (noted_at node older) (standing_places (ran node)) w
    stand node false w = w

-- What is known of a journal's last entry.
record IsLast (ran : Node → List HistoryEntry) (l : Line) (older : List Line) : Type 0 where
  behind : next_place l.node older ≤ l.at
  there : IsIn (standing_places (ran l.node)) l.at

last_noted : (ran : Node → List HistoryEntry) (l : Line) (older : List Line) → AreNoted ran (l ∷ older) → IsLast ran l older
last_noted ran l older h = record {
  behind = fall (is_same_node l.node l.node) (is_same_as_itself l.node) (h.falls l.node);
  there = stand (is_same_node l.node l.node) (is_same_as_itself l.node) (h.within l.node);
}
  where
    fall : (b : Bool) → b ≡ true → (top : ℕ) × Falls top (if b then l.at ∷ noted_at l.node older else noted_at l.node older) → next_place l.node older ≤ l.at
    fall true e f = next_le l.node older l.at f.1.1
    fall false e f = cc

    stand : (b : Bool) → b ≡ true → IsWithin (if b then l.at ∷ noted_at l.node older else noted_at l.node older) (standing_places (ran l.node))
        → IsIn (standing_places (ran l.node)) l.at
    stand true e w = within_in l.at (noted_at l.node older) (standing_places (ran l.node)) w
    stand false e w = cc

-- The places that stand fall.
pub standing_falls : (h : List HistoryEntry) → Falls (length h) (standing_places h)
standing_falls [] = tt
standing_falls (l ∷ ls) = by_test (standing_falls ls) (is_left_out l.answer)
  where
    by_test : Falls (length ls) (standing_places ls) → (b : Bool) → Falls (suc (length ls)) (if b then standing_places ls else length ls ∷ standing_places ls)
    by_test later true = falls_wider (length ls) (suc (length ls)) (standing_places ls) (omega arith) later
    by_test later false = (omega arith, later)

-- ---- up to the last entry

pub up_to : (ran : Node → List HistoryEntry) (journal : List Line) → AreNoted ran journal → (node : Node)
    → places_of node (up_to_last ran journal) ≡ below (next_place node journal) (standing_places (ran node))
up_to ran [] h node = sym (none_below (standing_places (ran node)))
up_to ran (l ∷ older) h node = by_test (up_to ran older (older_noted ran l older h) node) (is_same_node l.node node) refl
  where
    from : ℕ
    from = next_place l.node older

    last : IsLast ran l older
    last = last_noted ran l older h

    by_test : places_of node (up_to_last ran older) ≡ below (next_place node older) (standing_places (ran node)) → (b : Bool) → is_same_node l.node node ≡ b
        → places_of node (places_between l.node from (l.at + 1) (ran l.node) ++ up_to_last ran older)
        ≡ below (if b then l.at + 1 else next_place node older) (standing_places (ran node))
    by_test before true e =
        let same = same_node l.node node e in
        own_places l.node node (span from (l.at + 1) (standing_places (ran l.node))) (up_to_last ran older) e
        ∙ (ap (λ ys. span from (l.at + 1) (standing_places (ran l.node)) ++ ys) before
        ∙ subst (λ (m : Node). span from (l.at + 1) (standing_places (ran l.node)) ++ below (next_place m older) (standing_places (ran m))
        ≡ below (l.at + 1) (standing_places (ran m))) same
        (spans_meet (length (ran l.node)) from (l.at + 1) (standing_places (ran l.node)) (omega (arith, last.behind)) (standing_falls (ran l.node))))
    by_test before false e = other_places l.node node (span from (l.at + 1) (standing_places (ran l.node))) (up_to_last ran older) e ∙ before

-- An entry's own event comes first of those up to it.
first_of : (node : Node) (from at top : ℕ) (xs : List ℕ) (lines ws : List Place) → Falls top xs → IsIn xs at → from ≤ at → IsWithin lines ws
    → IsWithin (record { node = node; at = at } ∷ lines) (map (λ k. record { node = node; at = k }) (span from (at + 1) xs) ++ ws)
first_of node from at top [] lines ws h i l w = absurd i
first_of node from at top (x ∷ xs) lines ws h (inl e) l w =
    let low : nat_le from x ≡ true = le-leb from x (omega (arith, l, e)) in
    let high : nat_lt x (at + 1) ≡ true = lt-ltb x (at + 1) (omega (arith, e)) in
    rw (low, high) (inr (
      lines,
      ap (λ k. record { node = node; at = k } ∷ lines) (sym e),
      within_more lines (map (λ k. record { node = node; at = k }) (span from (at + 1) xs)) ws w,
    ))
first_of node from at top (x ∷ xs) lines ws h (inr i) l w =
    let less = in_falls x at xs h.1 i in
    let low : nat_le from x ≡ true = le-leb from x (omega (arith, l, less)) in
    let high : nat_lt x (at + 1) ≡ false = le-ltb x (at + 1) (omega (arith, less)) in
    rw (low, high) (first_of node from at x xs lines ws h.1 i l w)

pub in_order : (ran : Node → List HistoryEntry) (journal : List Line) → AreNoted ran journal → IsWithin (map place_of journal) (up_to_last ran journal)
in_order ran [] h = refl
in_order ran (l ∷ older) h =
    let last = last_noted ran l older h in
    first_of l.node (next_place l.node older) l.at (length (ran l.node)) (standing_places (ran l.node)) (map place_of older) (up_to_last ran older)
    (standing_falls (ran l.node)) last.there last.behind (in_order ran older (older_noted ran l older h))
