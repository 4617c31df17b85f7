-- The orders in which the events of all nodes can be told. All lists are newest first.
use Rattle.std.specs.Prelude.{◌≡◌, ◌⊎◌, ℕ, zero, suc, ◌+◌, ◌&&◌, nat_le, nat_lt, if◌then◌else◌, List, [], ◌∷◌, ◌++◌, length, map, filter}
use Rattle.messages.specs.declared.node.Node.{Node}
use Rattle.messages.specs.declared.node.Node.TheVariants.{Server, Client}
use Rattle.messages.specs.declared.line.Line.{Line}
use Rattle.messages.specs.Waiting.{is_same_node}
use Rattle.cells.specs.declared.entry.HistoryEntry.{HistoryEntry}
use Rattle.cells.specs.AtHub.{is_left_out}
use Rattle.assembly.specs.declared.place.Place.{Place}

-- The places of the events that stand in a node's list: of all but the refusals that change
-- nothing.
abbrev pub standing_places : List HistoryEntry → List ℕ
standing_places [] = []
standing_places (l ∷ ls) =
    if is_left_out l.answer then standing_places ls else length ls ∷ standing_places ls

-- The places of a node's events in an order.
abbrev pub places_of : Node → List Place → List ℕ
places_of node order =
    map (λ place. place.at) (filter (λ place. is_same_node place.node node) order)

-- Some stand among others, in their order.
abbrev pub IsWithin : {X : Type 0} → List X → List X → Type 0
IsWithin xs [] = xs ≡ []
IsWithin {X} xs (y ∷ ys) = IsWithin xs ys ⊎ ((rest : List X) × (xs ≡ y ∷ rest) × IsWithin rest ys)

-- The event that an entry of the journal tells of.
abbrev pub place_of : Line → Place
place_of l = record { node = l.node; at = l.at }

-- An order has the events of each node that stand, in their order, and keeps the order of the
-- journal.
pub record IsMerge (ran : Node → List HistoryEntry) (journal : List Line)
    (order : List Place) : Type 0 where
  pub each_stands : (node : Node) → places_of node order ≡ standing_places (ran node)
  pub as_noted : IsWithin (map place_of journal) order

-- The place behind the newest entry of a node in a journal, 0 where it has none.
abbrev pub next_place : Node → List Line → ℕ
next_place node [] = 0
next_place node (l ∷ older) = if is_same_node l.node node then l.at + 1 else next_place node older

-- The events of a node that stand, from one place on and before another.
abbrev pub places_between : Node → ℕ → ℕ → List HistoryEntry → List Place
places_between node from to history =
    map (λ at. record { node = node; at = at })
    (filter (λ at. nat_le from at && nat_lt at to) (standing_places history))

-- The events up to the last entry of a journal: for each entry those of its node that stand, behind
-- the node's entry before it and up to this one.
abbrev pub up_to_last : (Node → List HistoryEntry) → List Line → List Place
up_to_last ran [] = []
up_to_last ran (l ∷ older) =
    places_between l.node (next_place l.node older) (l.at + 1) (ran l.node) ++ up_to_last ran older

-- What is left of a node behind its last entry.
abbrev pub left_of : (Node → List HistoryEntry) → List Line → Node → List Place
left_of ran journal node =
    places_between node (next_place node journal) (length (ran node)) (ran node)

-- What is left of the first servers, one server behind the other.
abbrev pub left_below : (Node → List HistoryEntry) → List Line → ℕ → List Place
left_below ran journal zero = []
left_below ran journal (suc s) = left_of ran journal (Server s) ++ left_below ran journal s

-- The order that the journal gives: its entries, each behind what its node did before it; then what
-- is left of each server, and of the client.
abbrev pub merged_order : ℕ → (Node → List HistoryEntry) → List Line → List Place
merged_order n ran journal =
    left_of ran journal Client ++ (left_below ran journal n ++ up_to_last ran journal)
