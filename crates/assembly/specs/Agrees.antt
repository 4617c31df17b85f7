-- When the nodes that ran agree with the journal of their frames.
use Rattle.std.specs.Prelude.{◌≡◌, ◌≤◌, true, List, length, slice_get, All}
use Rattle.std.specs.Option.{ForSome}
use Rattle.fc_base.specs.declared.limits.TheConstants.{MAX_SERVERS}
use Rattle.messages.specs.declared.node.Node.{Node}
use Rattle.messages.specs.declared.node.Node.TheVariants.{Server, Client, Mirror}
use Rattle.messages.specs.Network.{Network}
use Rattle.client_core.specs.Note.{is_blank}
use Rattle.cells.specs.Seated.{Seated}
use Rattle.cells.specs.Seats.{times}
use Rattle.net_world.specs.Trace.{opening_of}
use Rattle.assembly.specs.Marks.{marks_in, marks_of}
use Rattle.assembly.specs.Ran.{Ran, history_of}

-- The client was opened over a blank note, and drives just the servers that ran, eight at most; the
-- cell at each place is the server of that number, opened over a note that says of no boot and no
-- run. There is no mirror to be opened.
abbrev pub IsOpened : Ran → Node → Type 0
IsOpened r Client = (is_blank r.client.opening.noted ≡ true)
    × (r.client.opening.servers ≡ length r.servers) × (length r.servers ≤ MAX_SERVERS)
IsOpened r Mirror = Unit {0}
IsOpened r (Server s) = ForSome (slice_get r.servers s) (λ cell. cell.opening ≡ opening_of s)

-- A seat of a node has applied as many events as the node's history has of it.
abbrev pub IsSeatOf : Ran → Node → Seated → Type 0
IsSeatOf r node seat =
    Server seat.server ≡ node → seat.applied ≡ times seat.number (history_of r node)

-- The events of a node that took or sent frames are just those that the journal tells of it, in its
-- order.
abbrev pub IsMarked : Ran → Network → Node → Type 0
IsMarked r net node = marks_of (history_of r node) ≡ marks_in net.frames node net.journal

-- A node agrees with the journal: it was opened rightly, its seats that were handed in fit its
-- history, and the journal tells of its history.
pub record Agrees (r : Ran) (net : Network) (seats : List Seated) (node : Node) : Type 0 where
  pub opened : IsOpened r node
  pub seated : All (IsSeatOf r node) seats
  pub marked : IsMarked r net node

-- Every node agrees with the journal of the frames.
abbrev pub AllAgree : Ran → Network → List Seated → Type 0
AllAgree r net seats = (node : Node) → Agrees r net seats node
