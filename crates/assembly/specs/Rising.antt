-- Histories followed from their oldest event on: what one event more adds to places and marks. All
-- lists are newest first.
use Rattle.std.specs.Prelude.{◌≡◌, ◌≤◌, ℕ, ◌+◌, nat_lt, if◌then◌else◌, List, [], ◌∷◌, ◌++◌, length, filter, reverse, Some, slice_get}
use Rattle.messages.specs.declared.node.Node.{Node}
use Rattle.cells.specs.declared.entry.HistoryEntry.{HistoryEntry}
use Rattle.cells.specs.AtHub.{is_left_out}
use Rattle.assembly.specs.Marks.{Mark, mark_of, marks_of}
use Rattle.assembly.specs.Orders.{places_between}

-- The marks of the events before a place.
abbrev pub marks_before : ℕ → List HistoryEntry → List Mark
marks_before to h = filter (λ mark. nat_lt mark.at to) (marks_of h)

-- Between a place and itself there is none; and the event at a place comes first of those up to it,
-- if it stands.
pub record PlacesRise (node : Node) (h : List HistoryEntry) : Type 0 where
  pub none : (at : ℕ) → places_between node at at h ≡ []
  pub more :
      (from at : ℕ) (l : HistoryEntry) → from ≤ at → slice_get (reverse h) at ≡ Some l
      → places_between node from (at + 1) h
      ≡ (if is_left_out l.answer then places_between node from at h
      else record { node = node; at = at } ∷ places_between node from at h)

-- Before the first place there is no mark; that of the event at a place comes first of those up to
-- it; and those of all events are the history's.
pub record MarksRise (h : List HistoryEntry) : Type 0 where
  pub none : marks_before 0 h ≡ []
  pub more : (at : ℕ) (l : HistoryEntry) → slice_get (reverse h) at ≡ Some l
      → marks_before (at + 1) h ≡ mark_of at l ++ marks_before at h
  pub all : marks_before (length h) h ≡ marks_of h

-- In every history, places and marks rise as `PlacesRise` and `MarksRise` say: one event more adds
-- at most its own.
abbrev pub HistoriesRise : Type 0
HistoriesRise = (node : Node) (h : List HistoryEntry) → PlacesRise node h × MarksRise h
