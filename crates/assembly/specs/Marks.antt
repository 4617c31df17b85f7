-- The events of nodes that have to do with the network: in a history, and in the journal. All lists
-- are newest first.
use Rattle.std.specs.Prelude.{◌≡◌, ℕ, if◌then◌else◌, List, [], ◌∷◌, ◌++◌, length, take, drop, Option, Some, None, slice_get}
use Rattle.std.specs.Option.{option_and_then}
use Rattle.messages.specs.declared.node.Node.{Node}
use Rattle.messages.specs.declared.line.Line.{Line}
use Rattle.messages.specs.Network.{Network}
use Rattle.messages.specs.Waiting.{is_same_node}
use Rattle.cells.specs.declared.input.NodeInput.{NodeInput}
use Rattle.cells.specs.declared.input.NodeInput.TheVariants.{Frame}
use Rattle.cells.specs.declared.entry.HistoryEntry.{HistoryEntry}
use Rattle.cells.specs.AtHub.{is_left_out}
use Rattle.messages.specs.Journal.{count_sent}

-- The mark of an event: its place in its node's history, the frame that it took, and those that it
-- sent.
pub record Mark : Type 0 where
  pub at : ℕ
  pub taken : Option (List ℕ)
  pub sent : List (List ℕ)

-- The mark that an entry of the journal tells of, before which so many frames were sent.
abbrev pub mark_of_line : List (List ℕ) → ℕ → Line → Mark
mark_of_line frames before l = record {
  at = l.at;
  taken = option_and_then (λ i. slice_get frames i) l.taken;
  sent = take l.sent (drop before frames);
}

-- The marks that the journal tells of a node.
abbrev pub marks_in : List (List ℕ) → Node → List Line → List Mark
marks_in frames node [] = []
marks_in frames node (l ∷ older) =
    if is_same_node l.node node then mark_of_line frames (count_sent older) l
    ∷ marks_in frames node older else marks_in frames node older

-- The frame that came, if one did.
abbrev pub frame_of : NodeInput → Option (List ℕ)
frame_of (Frame bytes) = Some bytes
frame_of _ = None

-- An event that took or sent frames is marked.
abbrev pub marks_if : ℕ → Option (List ℕ) → List (List ℕ) → List Mark
marks_if at None [] = []
marks_if at None (f ∷ fs) = record { at = at; taken = None; sent = f ∷ fs } ∷ []
marks_if at (Some bytes) sent = record { at = at; taken = Some bytes; sent = sent } ∷ []

-- The mark of the event at a place of a history. There is none where it took and sent no frame, nor
-- where it is left out: a frame that is refused isn't taken.
abbrev pub mark_of : ℕ → HistoryEntry → List Mark
mark_of at l = if is_left_out l.answer then [] else marks_if at (frame_of l.came) l.sent

-- The marks of a history.
abbrev pub marks_of : List HistoryEntry → List Mark
marks_of [] = []
marks_of (l ∷ ls) = mark_of (length ls) l ++ marks_of ls

-- The histories agree with the journal: the marks of each are those that the journal tells of its
-- node.
abbrev pub AreMarked : (Node → List HistoryEntry) → Network → Type 0
AreMarked ran net = (node : Node) → marks_of (ran node) ≡ marks_in net.frames node net.journal
