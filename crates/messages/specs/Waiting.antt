-- Which frames are for a node, and which of them it hasn't taken.
use Rattle.std.specs.Prelude.{ℕ, ◌%◌, ◌&&◌, ◌==◌, Bool, true, false, not, List, length, filter, Option, slice_get}
use Rattle.std.specs.Option.{option_map, option_map_or}
use Rattle.std.specs.List.{list_any}
use Rattle.fc_base.specs.Counted.{numbers_below}
use Rattle.messages.specs.declared.node.Node.{Node}
use Rattle.messages.specs.declared.node.Node.TheVariants.{Server, Client, Mirror}
use Rattle.messages.specs.FrameBytes.{frame_at}
use Rattle.messages.specs.Looks.{look_of}
use Rattle.messages.specs.declared.line.Line.{Line}
use Rattle.messages.specs.Network.{Network}

-- Two nodes are one.
abbrev pub is_same_node : Node → Node → Bool
is_same_node (Server s) (Server r) = s == r
is_same_node Client Client = true
is_same_node Mirror Mirror = true
is_same_node _ _ = false

-- The node that a frame is for.
abbrev pub node_of : List ℕ → Option Node
node_of bytes = option_map (λ frame. (look_of frame).to) (frame_at bytes)

-- The frame is for this node.
abbrev pub is_for : Node → List ℕ → Bool
is_for node bytes = option_map_or (λ to. is_same_node to node) (node_of bytes) false

-- By this entry the node took frame i.
abbrev pub is_taken_by : Node → ℕ → Line → Bool
is_taken_by node i l = is_same_node l.node node && option_map_or (λ taken. taken == i) l.taken false

-- Frame i is for the node, which hasn't taken it.
abbrev pub is_waiting : Network → Node → ℕ → Bool
is_waiting net node i = option_map_or (is_for node) (slice_get net.frames i) false && not
    (list_any (is_taken_by node i) net.journal)

-- The numbers of the frames to a node that it hasn't taken, ascending.
unfoldable pub waiting_frames : Network → Node → List ℕ
waiting_frames net node = filter (is_waiting net node) (numbers_below (length net.frames))

-- The one of them at word mod their number, if there are any.
abbrev pub picked_frame : ℕ → List ℕ → Option ℕ
picked_frame word frames = slice_get frames (word % length frames)
