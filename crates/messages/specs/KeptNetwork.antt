-- How a hub keeps its network.
use Rattle.std.specs.Prelude.{◌≡◌, ◌<◌, ℕ, min, List, [], ◌∷◌, length, if◌then◌else◌, not, ◌==◌, filter, Option, Some, None, All, slice_index_or, slice_set}
use Rattle.std.specs.Option.{ForSome}
use Rattle.messages.specs.declared.limits.TheConstants.{MAX_NODES}
use Rattle.messages.specs.declared.node.Node.{Node}
use Rattle.messages.specs.Nodes.{node_number, is_node}
use Rattle.messages.specs.declared.line.Line.{Line}
use Rattle.messages.specs.Network.{Network, IsSpelled}
use Rattle.messages.specs.Waiting.{waiting_frames}
use Rattle.messages.specs.Journal.{IsLegal}

-- Frames one behind the other, and for how many more of them, and of their bytes, there is room.
pub record Stored : Type 0 where
  pub frames : List (List ℕ)
  pub more : ℕ
  pub bytes : ℕ

-- A list of numbers for each node, in the order of the nodes' numbers, and how many more fit into
-- each of them.
pub record Queued : Type 0 where
  pub lists : List (List ℕ)
  pub more : ℕ

-- The least of some numbers, none of which is above the first.
abbrev pub least : ℕ → List ℕ → ℕ
least most [] = most
least most (n ∷ ns) = min n (least most ns)

-- The list of a node, which is empty where the node is none of the ten.
abbrev pub list_of : List (List ℕ) → Node → List ℕ
list_of lists node = if is_node node then slice_index_or lists (node_number node) [] else []

-- The lists with this one for a node.
abbrev pub with_list : List (List ℕ) → Node → List ℕ → List (List ℕ)
with_list lists node list = if is_node node then slice_set lists (node_number node) list else lists

-- The lists without the number that a node took, if it took one.
abbrev pub without_frame : List (List ℕ) → Node → Option ℕ → List (List ℕ)
without_frame lists node None = lists
without_frame lists node (Some n) =
    with_list lists node (filter (λ k. not (n == k)) (list_of lists node))

-- The frame that an entry took is one of the first n.
abbrev pub IsTakenBelow : ℕ → Line → Type 0
IsTakenBelow n l = ForSome l.taken (λ i. i < n)

-- All frames are spelled, those that were taken are there, and each node's list has the frames that
-- wait for it.
pub record IsKept (net : Network) (lists : List (List ℕ)) : Type 0 where
  pub spelled : All IsSpelled net.frames
  pub taken : All (IsTakenBelow (length net.frames)) net.journal
  pub long : length lists ≡ MAX_NODES
  pub waiting : (node : Node) → list_of lists node ≡ waiting_frames net node

-- With these frames more, whatever the journal was, the network is kept as it was before.
abbrev pub StayKept : List (List ℕ) → List (List ℕ) → List (List ℕ) → List (List ℕ) → Type 0
StayKept frames more lists longer =
    (journal : List Line) → IsKept (record { frames = frames; journal = journal }) lists
    → IsKept (record { frames = more; journal = journal }) longer

-- What is true of every hub: it keeps its network, whose journal is legal.
pub record IsHub (net : Network) (lists : List (List ℕ)) : Type 0 where
  pub kept : IsKept net lists
  pub legal : IsLegal net
