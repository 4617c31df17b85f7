-- Nodes that are followed through the journal, from the oldest entry on. Histories, journals and
-- lists of marks are newest first, the order is oldest first.
use Rattle.std.specs.Prelude.{◌≡◌, ◌≢◌, ◌≤◌, ◌<◌, ℕ, ◌+◌, if◌then◌else◌, List, [], ◌∷◌, ◌++◌}
use Rattle.std.specs.Prelude.{reverse, Option, Some, slice_index_or, slice_set, length, replicate}
use Rattle.messages.specs.declared.node.Node.{Node}
use Rattle.messages.specs.declared.limits.TheConstants.{MAX_NODES}
use Rattle.messages.specs.Nodes.{node_number, is_node}
use Rattle.messages.specs.declared.line.Line.{Line}
use Rattle.messages.specs.Network.{Network}
use Rattle.cells.specs.declared.entry.HistoryEntry.{HistoryEntry}
use Rattle.assembly.specs.declared.place.Place.{Place}
use Rattle.assembly.specs.Marks.{Mark, frame_of, marks_in, marks_of}
use Rattle.assembly.specs.Orders.{places_between, next_place, up_to_last}
use Rattle.assembly.specs.Rising.{marks_before}
use Rattle.assembly.specs.declared.fault.AssembleFault.{AssembleFault}
use Rattle.assembly.specs.declared.fault.AssembleFault.TheVariants.{Unlike, NoMemory}
use Rattle.assembly.specs.Ran.{Ran, history_of}
use Rattle.assembly.specs.Unlike.{GoesOn, first_place, DifferAt}

-- An order so far, and for each node the place from which it is to be followed, by the nodes'
-- numbers.
pub record Followed : Type 0 where
  pub places : List Place
  pub next : List ℕ

-- The place from which a node is to be followed.
abbrev pub next_of : List ℕ → Node → ℕ
next_of next node = if is_node node then slice_index_or next (node_number node) 0 else 0

-- These places with another one for a node.
abbrev pub with_next : List ℕ → Node → ℕ → List ℕ
with_next next node at = if is_node node then slice_set next (node_number node) at else next

-- The mark of an event that has one, at this place.
abbrev pub whole_mark : ℕ → HistoryEntry → Mark
whole_mark at l = record { at = at; taken = frame_of l.came; sent = l.sent }

-- A node was followed from one place up to another: the events that stand there were added, and
-- none of them is marked.
pub record IsPassed (node : Node) (h : List HistoryEntry) (from to : ℕ)
    (old new : List Place) : Type 0 where
  pub places : new ≡ old ++ reverse (places_between node from to h)
  pub unmarked : marks_before to h ≡ marks_before from h

-- From a place on, a node's history goes on with a mark at this place, which is below another.
pub record IsMarkedAt (h : List HistoryEntry) (from to at : ℕ) : Type 0 where
  pub mark : Mark
  pub goes_on : GoesOn (marks_before from h) (marks_of h) (Some mark)
  pub at_is : mark.at ≡ at
  pub below : at < to

-- Why a node wasn't followed: an event is marked that was to be passed.
abbrev pub IsStopped : Node → List HistoryEntry → ℕ → ℕ → AssembleFault → Type 0
IsStopped node h from to (Unlike n at) = (n ≡ node) × IsMarkedAt h from to at
IsStopped node h from to NoMemory = Unit {0}

-- A node was followed up to the event of an entry, whose mark comes next there.
pub record IsTold (node : Node) (h : List HistoryEntry) (entry : Mark)
    (old new : Followed) : Type 0 where
  pub within : entry.at < length h
  pub rises : next_of old.next node ≤ entry.at
  pub places : new.places ≡ old.places
      ++ reverse (places_between node (next_of old.next node) (entry.at + 1) h)
  pub next : new.next ≡ with_next old.next node (entry.at + 1)
  pub marks : marks_before (entry.at + 1) h ≡ entry ∷ marks_before (next_of old.next node) h

-- From a place on, a node's history goes on otherwise than with the mark of an entry.
pub record IsOther (h : List HistoryEntry) (from : ℕ) (entry : Mark) (at : ℕ) : Type 0 where
  pub event : Option Mark
  pub goes_on : GoesOn (marks_before from h) (marks_of h) event
  pub differ : event ≢ Some entry
  pub at_is : at ≡ first_place event (Some entry)

-- Nothing was followed yet.
abbrev pub nothing_followed : Followed
nothing_followed = record { places = []; next = replicate MAX_NODES 0 }

-- Each node was followed up to its last entry in a journal, which has the marks of its history so
-- far.
pub record IsFollowed (r : Ran) (net : Network) (journal : List Line)
    (order : Followed) : Type 0 where
  pub long : length order.next ≡ MAX_NODES
  pub places : order.places ≡ reverse (up_to_last (history_of r) journal)
  pub next : (node : Node) → next_of order.next node ≡ next_place node journal
  pub within : (node : Node) → next_place node journal ≤ length (history_of r node)
  pub marked : (node : Node) → marks_before (next_place node journal) (history_of r node)
      ≡ marks_in net.frames node journal

-- Why an entry wasn't told.
abbrev pub IsUntold : Node → List HistoryEntry → ℕ → Mark → AssembleFault → Type 0
IsUntold node h from entry (Unlike n at) = (n ≡ node) × IsOther h from entry at
IsUntold node h from entry NoMemory = Unit {0}

-- A node's history and the journal differ at a place.
abbrev pub Differs : Ran → Network → AssembleFault → Type 0
Differs r net (Unlike node at) =
    DifferAt (marks_of (history_of r node)) (marks_in net.frames node net.journal) at
Differs r net NoMemory = Unit {0}
