-- A client's list of frames, and the list of packets that it hears in them.
use Rattle.std.specs.Prelude.{ℕ, Bool, true, false, ◌&&◌, List, map}
use Rattle.messages.specs.Kinds.{is_of_server}
use Rattle.messages.specs.Nodes.{is_client}
use Rattle.messages.specs.declared.piece.PieceParts.{PieceParts}
use Rattle.messages.specs.Assemblies.{Row}
use Rattle.messages.specs.Hearing.{Rules, Heard, Coming, Happens, heard}
use Rattle.messages.specs.Senses.{Arrival, Framed, Unframed, coming}
use Rattle.disk_model.specs.declared.save_outcome.SaveOutcome.{SaveOutcome}
use Rattle.client_core.specs.Inputs.{PacketInput, FrameInput, Begin, Trigger, Stop, Verify, Deliver, Tick}
use Rattle.client_core.specs.Inputs as inputs
use Rattle.client_core.specs.History as history
use Rattle.client_core.specs.History.{Opening}
use Rattle.client_core.specs.Refusals.{is_server_of}
use Rattle.client_core.specs.Words.{is_on, refusal}

-- What came to a client, with what its save left; a cut; a restart, which makes no save, with a
-- mirror or without one; a renewal with what its save left; the loss of the note.
pub data FrameEntry : Type 0 where
  Met : FrameInput → SaveOutcome → FrameEntry
  Cut : FrameEntry
  Restart : Bool → FrameEntry
  Renew : ℕ → SaveOutcome → FrameEntry
  Lose : FrameEntry

-- A piece is for a client of so many servers: it is from one of them to it, of a kind that servers
-- send. The mirror sends no pieces.
abbrev pub is_piece_for : ℕ → PieceParts → Bool
is_piece_for servers q = is_client q.to && (is_server_of servers q.from && is_of_server q.tag.whole)

-- The entry ends a life.
abbrev pub is_end : history.Entry → Bool
is_end (history.Met c left) = false
is_end history.Cut = true
is_end (history.Restart mirror) = true
is_end (history.Renew g left) = true
is_end history.Lose = true

-- How a client hears.
abbrev pub rules : Opening → Rules PacketInput history.Entry SaveOutcome
rules opening = record {
  delivers = inputs.Deliver;
  met = history.Met;
  refusal = refusal opening;
  is_on = is_on;
  is_for = is_piece_for opening.servers;
  ends = is_end;
}

-- What comes to a client is a frame, or its caller asks, past the network.
abbrev pub arrival : FrameInput → Arrival PacketInput
arrival (Begin text) = Unframed (inputs.Begin text)
arrival (Trigger run act) = Unframed (inputs.Trigger run act)
arrival (Stop run) = Unframed (inputs.Stop run)
arrival (Verify run text) = Unframed (inputs.Verify run text)
arrival (Deliver f) = Framed f
arrival Tick = Unframed inputs.Tick

-- What happens to a client, in the terms of hearing.
abbrev pub coming_of : FrameEntry → Coming history.Entry SaveOutcome
coming_of (Met e left) = coming history.Met (arrival e) left
coming_of Cut = Happens history.Cut
coming_of (Restart mirror) = Happens (history.Restart mirror)
coming_of (Renew g left) = Happens (history.Renew g left)
coming_of Lose = Happens history.Lose

-- What a client has heard.
abbrev pub heard_at : Opening → List FrameEntry → Heard history.Entry
heard_at opening past = heard (rules opening) (map coming_of past)

-- The list of packets that a list of frames says.
abbrev pub packets_heard : Opening → List FrameEntry → List history.Entry
packets_heard opening past = (heard_at opening past).entries

-- The client is on, by its list of frames.
abbrev pub is_up : Opening → List FrameEntry → Bool
is_up opening past = is_on (packets_heard opening past)

-- What has come together of pieces.
abbrev pub assembly : Opening → List FrameEntry → List Row
assembly opening past = (heard_at opening past).rows
