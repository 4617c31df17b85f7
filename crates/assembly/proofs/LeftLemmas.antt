-- What is left of histories, and of their order, behind the newest event.
use Rattle.std.proofs.Common.{◌≡◌, refl, sym, ◌∙◌, ap, subst, ◌⊎◌, inl, inr, ℕ, ◌<◌, ◌≤◌, arith, Bool, true, false, ◌==◌, List, [], ◌∷◌, length}
use Rattle.std.specs.Prelude.{map, if◌then◌else◌}
use Rattle.std.proofs.lemmas.Bool.Decides.{nat_tests}
use Rattle.messages.specs.declared.node.Node.{Node}
use Rattle.messages.specs.declared.node.Node.TheVariants.{Server, Client, Mirror}
use Rattle.messages.specs.declared.line.Line.{Line}
use Rattle.messages.specs.Waiting.{is_same_node}
use Rattle.cells.specs.declared.entry.HistoryEntry.{HistoryEntry}
use Rattle.assembly.specs.declared.place.Place.{Place}
use Rattle.messages.specs.Journal.{count_sent}
use Rattle.assembly.specs.Marks.{Mark, mark_of_line, marks_in, marks_of}
use Rattle.assembly.specs.Lists.{EndAt}
use Rattle.assembly.specs.Orders.{IsWithin, place_of, places_of, standing_places}
use Rattle.messages.proofs.NodeLemmas.{same_node}
use Rattle.assembly.proofs.PlaceLemmas.{IsIn, Falls, in_falls, own_places, other_places, standing_falls}
use Rattle.assembly.proofs.MergedLemmas.{below_or_not, marked_at, marks_fall}
use Rattle.assembly.proofs.NodeLemmas.{IsBelow, with_history}

-- ---- the histories

-- A node with an event is one of those that ran.
none_stands : (h : List HistoryEntry) (at : ℕ) (rest : List ℕ) → h ≡ [] → standing_places h ≡ at ∷ rest → ⊥
none_stands h at rest e is = never (sym (ap standing_places e) ∙ is)
  where
    never : [] ≡ at ∷ rest → ⊥
    never h = cc

pub node_below : (n : ℕ) (ran : Node → List HistoryEntry) (node : Node) (at : ℕ) (rest : List ℕ) → EndAt n ran → standing_places (ran node) ≡ at ∷ rest
    → IsBelow n node
node_below n ran Client at rest ends is = tt
node_below n ran Mirror at rest ends is = none_stands (ran Mirror) at rest ends.mirror is
node_below n ran (Server s) at rest ends is = by_number (below_or_not s n)
  where
    by_number : (s < n) ⊎ (n ≤ s) → s < n
    by_number (inl h) = h
    by_number (inr h) = absurd (none_stands (ran (Server s)) at rest (ends.servers s h) is)

pub few_below : (n : ℕ) (node : Node) → n ≤ 8 → IsBelow n node → IsBelow 8 node
few_below n (Server s) l h = omega (arith, l, h)
few_below n Client l h = tt
few_below n Mirror l h = h

pub ends_with : (n : ℕ) (node : Node) (h : List HistoryEntry) (ran : Node → List HistoryEntry) → IsBelow n node → EndAt n ran → EndAt n (with_history node h ran)
ends_with n Client h ran b ends = record { servers = ends.servers; mirror = ends.mirror }
ends_with n Mirror h ran b ends = absurd b
ends_with n (Server r) h ran b ends = record {
  servers = λ s l. ap (λ (t : Bool). if t then h else ran (Server s)) (differ r s (omega (arith, b, l))) ∙ ends.servers s l;
  mirror = ends.mirror;
}
  where
    differ : (a b : ℕ) → a < b → (a == b) ≡ false
    differ a b h = grind (arith, nat_tests, h)

-- So the order without that event has the places of what is left.
pub places_left : (p : Place) (order : List Place) (ran : Node → List HistoryEntry) (older : List HistoryEntry)
    → ((node : Node) → places_of node (p ∷ order) ≡ standing_places (ran node)) → standing_places older ≡ places_of p.node order → (node : Node)
    → places_of node order ≡ standing_places (with_history p.node older ran node)
places_left p order ran older places rest node = by_test (is_same_node p.node node) refl
  where
    by_test : (b : Bool) → is_same_node p.node node ≡ b → places_of node order ≡ standing_places (if b then older else ran node)
    by_test true e = subst (λ (m : Node). places_of m order ≡ standing_places older) (same_node p.node node e) (sym rest)
    by_test false e = sym (other_places p.node node (p.at ∷ []) order e) ∙ places node

-- ---- which entry of the journal it is

-- An entry of a journal is at this place of a node.
abbrev pub HasPlace : List Place → Node → ℕ → Type 0
HasPlace [] node at = ⊥
HasPlace (q ∷ qs) node at = ((is_same_node q.node node ≡ true) × (q.at ≡ at)) ⊎ HasPlace qs node at

pub marked_line : (frames : List (List ℕ)) (node : Node) (journal : List Line) (mark : Mark) (marks : List Mark) → marks_in frames node journal ≡ mark ∷ marks
    → HasPlace (map place_of journal) node mark.at
marked_line frames node [] mark marks h = absurd (never h)
  where
    never : [] ≡ mark ∷ marks → ⊥
    never h = cc
marked_line frames node (l ∷ older) mark marks h = by_test (λ k. marked_line frames node older mark marks k) (is_same_node l.node node) refl h
  where
    same : (m : Mark) (ms : List Mark) → m ∷ ms ≡ mark ∷ marks → m.at ≡ mark.at
    same m ms h = cc

    by_test : (marks_in frames node older ≡ mark ∷ marks → HasPlace (map place_of older) node mark.at) → (b : Bool) → is_same_node l.node node ≡ b
        → (if b then mark_of_line frames (count_sent older) l ∷ marks_in frames node older else marks_in frames node older) ≡ mark ∷ marks
        → HasPlace (place_of l ∷ map place_of older) node mark.at
    by_test later true e h = inl (e, same (mark_of_line frames (count_sent older) l) (marks_in frames node older) h)
    by_test later false e h = inr (later h)

pub has_within : (qs order : List Place) (node : Node) (at : ℕ) → HasPlace qs node at → IsWithin qs order → HasPlace order node at
has_within qs [] node at h w = subst (λ (qs : List Place). HasPlace qs node at) w h
has_within qs (p ∷ order) node at h (inl w) = inr (has_within qs order node at h w)
has_within qs (p ∷ order) node at h (inr w) = by_place (λ k. has_within w.0 order node at k w.2) (subst (λ (qs : List Place). HasPlace qs node at) w.1 h)
  where
    by_place : (HasPlace w.0 node at → HasPlace order node at) → HasPlace (p ∷ w.0) node at → HasPlace (p ∷ order) node at
    by_place later (inl e) = inl e
    by_place later (inr k) = inr (later k)

has_in : (order : List Place) (node : Node) (at : ℕ) → HasPlace order node at → IsIn (places_of node order) at
has_in [] node at h = absurd h
has_in (p ∷ order) node at h = by_test (λ k. has_in order node at k) (is_same_node p.node node) refl h
  where
    by_test : (HasPlace order node at → IsIn (places_of node order) at) → (b : Bool) → is_same_node p.node node ≡ b → HasPlace (p ∷ order) node at
        → IsIn (places_of node (p ∷ order)) at
    by_test later true e (inl k) = subst (λ (xs : List ℕ). IsIn xs at) (sym (own_places p.node node (p.at ∷ []) order e)) (inl k.1)
    by_test later true e (inr k) = subst (λ (xs : List ℕ). IsIn xs at) (sym (own_places p.node node (p.at ∷ []) order e)) (inr (later k))
    by_test later false e (inl k) = absurd (clash (sym k.0 ∙ e))
      where
        clash : true ≡ false → ⊥
        clash h = cc
    by_test later false e (inr k) = subst (λ (xs : List ℕ). IsIn xs at) (sym (other_places p.node node (p.at ∷ []) order e)) (later k)

-- A mark of what is left isn't at the newest event's place.
pub older_place : (older : List HistoryEntry) (at : ℕ) (mark : Mark) (marks : List Mark) → length older ≡ at → marks_of older ≡ mark ∷ marks → mark.at ≡ at → ⊥
older_place older at mark marks len is e =
    let falls = subst (λ (ms : List Mark). Falls (length older) (marked_at ms)) is (marks_fall older) in
    omega (arith, falls.0, len, e)

-- A place that isn't left isn't that of a mark.
pub place_left : (older : List HistoryEntry) (order : List Place) (node : Node) (at : ℕ) → length older ≡ at → standing_places older ≡ places_of node order
    → HasPlace order node at → ⊥
place_left older order node at len rest h =
    let less = in_falls (length older) at (standing_places older) (standing_falls older)
    (subst (λ (xs : List ℕ). IsIn xs at) (sym rest) (has_in order node at h)) in
    omega (arith, less, len)

-- ---- the marks of what is left

pub own_marks : (p : Place) (older : List HistoryEntry) (ran : Node → List HistoryEntry) (node : Node) → is_same_node p.node node ≡ true
    → marks_of (with_history p.node older ran node) ≡ marks_of older
own_marks p older ran node e = ap (λ (b : Bool). marks_of (if b then older else ran node)) e

pub other_marks : (p : Place) (older : List HistoryEntry) (ran : Node → List HistoryEntry) (node : Node) → is_same_node p.node node ≡ false
    → marks_of (with_history p.node older ran node) ≡ marks_of (ran node)
other_marks p older ran node e = ap (λ (b : Bool). marks_of (if b then older else ran node)) e
