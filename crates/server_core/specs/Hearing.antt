-- A server's list of frames, and the list of packets that it hears in them.
use Rattle.std.specs.Prelude.{ℕ, Bool, true, false, ◌&&◌, List, map}
use Rattle.messages.specs.Kinds.{is_of_client}
use Rattle.messages.specs.Nodes.{is_client, is_server}
use Rattle.messages.specs.declared.piece.PieceParts.{PieceParts}
use Rattle.messages.specs.Assemblies.{Row}
use Rattle.messages.specs.Hearing.{Rules, Heard, Coming, Happens, heard}
use Rattle.messages.specs.Senses.{Arrival, Framed, Unframed, coming}
use Rattle.disk_model.specs.declared.save_outcome.SaveOutcome.{SaveOutcome}
use Rattle.server_core.specs.Inputs.{PacketInput, FrameInput}
use Rattle.server_core.specs.declared.input.Input.TheVariants as inputs
use Rattle.server_core.specs.declared.input.Input.TheVariants.{Deliver, Issue, WriteDone, CheckDone}
use Rattle.server_core.specs.History as history
use Rattle.server_core.specs.History.{Opening}
use Rattle.server_core.specs.Words.{is_on}
use Rattle.server_core.specs.Answers.{refusal}

-- What came to a server, with what its save left; a cut; a restart with what its save left.
pub data FrameEntry : Type 0 where
  Met : FrameInput → SaveOutcome → FrameEntry
  Cut : FrameEntry
  Restart : SaveOutcome → FrameEntry

-- A piece is for this server: it is from the client to it, of a kind that the client sends.
abbrev pub is_piece_for : ℕ → PieceParts → Bool
is_piece_for me q = is_client q.from && (is_server me q.to && is_of_client q.tag.whole)

-- The entry is a cut or a restart.
abbrev pub is_end : history.Entry → Bool
is_end (history.Met e left) = false
is_end history.Cut = true
is_end (history.Restart left) = true

-- How a server hears.
abbrev pub rules : Opening → Rules PacketInput history.Entry SaveOutcome
rules opening = record {
  delivers = inputs.Deliver;
  met = history.Met;
  refusal = refusal opening;
  is_on = is_on;
  is_for = is_piece_for opening.me;
  ends = is_end;
}

-- What comes to a server is a frame, or an input past the network.
abbrev pub arrival : FrameInput → Arrival PacketInput
arrival (Deliver f) = Framed f
arrival (Issue j) = Unframed (inputs.Issue j)
arrival (WriteDone ticket end) = Unframed (inputs.WriteDone ticket end)
arrival (CheckDone boot a j report) = Unframed (inputs.CheckDone boot a j report)

-- What happens to a server, in the terms of hearing.
abbrev pub coming_of : FrameEntry → Coming history.Entry SaveOutcome
coming_of (Met e left) = coming history.Met (arrival e) left
coming_of Cut = Happens history.Cut
coming_of (Restart left) = Happens (history.Restart left)

-- What a server has heard.
abbrev pub heard_at : Opening → List FrameEntry → Heard history.Entry
heard_at opening past = heard (rules opening) (map coming_of past)

-- The list of packets that a list of frames says.
abbrev pub packets_heard : Opening → List FrameEntry → List history.Entry
packets_heard opening past = (heard_at opening past).entries

-- The server is on, by its list of frames.
abbrev pub is_up : Opening → List FrameEntry → Bool
is_up opening past = is_on (packets_heard opening past)

-- What has come together of pieces.
abbrev pub assembly : Opening → List FrameEntry → List Row
assembly opening past = (heard_at opening past).rows
