-- A client and a server that ran, which can be followed by hand. All lists are newest first.
use Rattle.std.specs.Prelude.{◌≡◌, ℕ, zero, suc, List, [], ◌∷◌, Some, None, Result, Ok, Err}
use Rattle.fc_base.specs.declared.fault.Fault.{Fault}
use Rattle.fc_base.specs.declared.fault.Fault.TheVariants.{NodeOff}
use Rattle.messages.specs.declared.node.Node.{Node}
use Rattle.messages.specs.declared.node.Node.TheVariants.{Server, Client, Mirror}
use Rattle.messages.specs.declared.refusal.Act.TheVariants as acts
use Rattle.messages.specs.Network.{Network}
use Rattle.cells.specs.declared.answer.Answer.TheVariants.{Plain}
use Rattle.cells.specs.declared.answer.Reply.{Reply}
use Rattle.cells.specs.declared.input.NodeInput.{NodeInput}
use Rattle.cells.specs.declared.input.NodeInput.TheVariants as came
use Rattle.cells.specs.declared.entry.HistoryEntry.{HistoryEntry}
use Rattle.assembly.specs.declared.place.Place.{Place}
use Rattle.assembly.specs.Marks.{marks_in, marks_of}
use Rattle.assembly.specs.Orders.{merged_order}

-- The bytes of two frames.
abbrev pub request_bytes : List ℕ
request_bytes = 7 ∷ []

-- The bytes of the second frame.
abbrev pub reply_bytes : List ℕ
reply_bytes = 8 ∷ []

-- An event that was answered, or refused.
abbrev pub event : NodeInput → Result Reply Fault → List (List ℕ) → HistoryEntry
event came answer sent = record { by = None; came = came; answer = answer; sent = sent }

-- The answer of an event that is done, which tells nothing and asks for no act.
abbrev pub good : Result Reply Fault
good = Ok (record { answer = Plain; act = acts.None })

-- The client ticks, and sends a frame; it ticks and sends none; and a frame comes to it. To the
-- server comes what asks for a write, and then the client's frame, to which it sends one; what asks
-- for a write is refused; and it is cut.
abbrev pub history_of : Node → List HistoryEntry
history_of Client =
    event (came.Frame reply_bytes) good [] ∷ event came.Tick good
    [] ∷ event came.Tick good (request_bytes ∷ []) ∷ []
history_of (Server zero) =
    event came.Cut good [] ∷ event (came.Issue 0) (Err NodeOff) []
    ∷ event (came.Frame request_bytes) good (reply_bytes ∷ []) ∷ event (came.Issue 0) good [] ∷ []
history_of (Server (suc s)) = []
history_of Mirror = []

-- The journal tells of three of these events.
abbrev pub net : Network
net = record {
  frames = request_bytes ∷ reply_bytes ∷ [];
  journal =
      record { node = Client; at = 2; taken = Some 1; sent = 0 }
      ∷ record { node = Server 0; at = 1; taken = Some 0; sent = 1 }
      ∷ record { node = Client; at = 0; taken = None; sent = 1 } ∷ [];
}

-- The marks of the client's history and of server 0's are those that the journal tells of them.
abbrev pub AgreeWithIt : Type 0
AgreeWithIt =
    (marks_of (history_of Client) ≡ marks_in net.frames Client net.journal)
    × (marks_of (history_of (Server 0)) ≡ marks_in net.frames (Server 0) net.journal)

-- A place in the history of a node.
abbrev pub place : Node → ℕ → Place
place node at = record { node = node; at = at }

-- What was asked of the server at first is told before the frame that came to it, the client's
-- second tick before the frame that came to that, and the cut at the end; the refusal isn't told.
abbrev pub AreToldSo : Type 0
AreToldSo =
    merged_order 1 history_of net.journal
    ≡ place (Server 0) 3 ∷ place Client 2 ∷ place Client 1 ∷ place (Server 0) 1 ∷ place (Server 0) 0
    ∷ place Client 0 ∷ []
