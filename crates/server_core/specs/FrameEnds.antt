-- Which lists of frames a server stands for, and how its step ends.
use Rattle.std.specs.Prelude.{◌≡◌, ℕ, ◌+◌, List, ◌∷◌, map, Result, Ok, Err}
use Rattle.fc_base.specs.declared.fault.Fault.{Fault}
use Rattle.disk_model.specs.declared.save_outcome.SaveOutcome.TheVariants.{Saved}
use Rattle.disk_model.specs.Notes.{Note}
use Rattle.node.specs.Steps.{Words, Steps}
use Rattle.messages.specs.FrameBytes.{frame_spelling}
use Rattle.node.specs.Hearers as hearers
use Rattle.node.specs.Nodes as nodes
use Rattle.node.specs.Nodes.{Node}
use Rattle.server_core.specs.Inputs.{PacketInput, FrameInput}
use Rattle.server_core.specs.declared.outs.Outs.{Outs}
use Rattle.server_core.specs.declared.packet_server.PacketServer.{PacketServer}
use Rattle.server_core.specs.declared.server.Server.{Server}
use Rattle.server_core.specs.declared.note.ServerNote.{ServerNote}
use Rattle.server_core.specs.History.{Opening, Entry}
use Rattle.server_core.specs.Note.{Says, spelling}
use Rattle.server_core.specs.Words as words
use Rattle.server_core.specs.Words.{Staged}
use Rattle.server_core.specs.Bounds.{AreShort}
use Rattle.server_core.specs.Ranges.{OpensInRange, CameInRange}
use Rattle.server_core.specs.Ends as whole
use Rattle.server_core.specs.Hearing.{FrameEntry, Met, Restart, arrival, coming_of, packets_heard}
use Rattle.server_core.specs.FrameAnswers.{frames, issue, act, answered_entry}
use Rattle.server_core.specs.HearingKind.{hearing_kind}

-- What a server's note says, by what is said of its notes.
abbrev pub note_in : {T : Type 0} → (T → Note) → Server T → Note
note_in note server = note server.hearer.core.durable.notes

-- A server stands for a list of frames where its core stands for the packets that are heard in it,
-- and, while it is on, keeps what has come together of pieces.
abbrev pub StandsFor : {T : Type 0} → (T → Note) → Server T → Opening → List FrameEntry → Type 0
StandsFor note server opening past =
    hearers.StandsFor (hearing_kind note opening) (map coming_of past) server.hearer

-- What is answered and sent is what the list says; and where the packets that were heard keep their
-- ranges, the frames are few and short.
pub record Sends (opening : Opening) (past : List FrameEntry) (e : FrameInput)
    (outs : Outs) : Type 0 where
  pub frames_are : outs.frames
      ≡ map frame_spelling (frames opening past (answered_entry opening past e))
  pub issue_is : outs.issue ≡ issue opening past e
  pub act_is : outs.act ≡ act opening past e
  pub short : OpensInRange opening → CameInRange (packets_heard opening past) → AreShort outs.frames

-- A server as a node whose core hears frames.
abbrev pub server_node : {T : Type 0} → (T → Note) → Opening →
    Node (Server T) FrameInput FrameEntry (PacketServer T) PacketInput Entry Staged Outs
server_node note opening = record {
  kind = hearing_kind note opening;
  hearer = λ server. server.hearer;
  arrival = arrival;
  coming = coming_of;
  met = Met;
  Sends = Sends opening;
}

-- What the list of a server says, whatever its notes are.
abbrev pub words_of : Opening → Words FrameInput FrameEntry Staged
words_of opening = nodes.words (server_node (λ (note : Note). note) opening)

-- The steps of a server: its note, what its list says of what comes, and what is answered and sent.
-- What is refused leaves it as it was, but where it drops a tag: that alone changes.
abbrev pub steps : {T : Type 0} → (T → Note) → Opening →
    Steps (Server T) FrameInput FrameEntry Staged Outs
steps note opening = nodes.steps (server_node note opening)

-- For each list whose words the note said, the server stands for it with the restart. The note said
-- something, so there is such a list: the empty one. Now it has the next boot.
pub record Restarts {T : Type 0} (note : T → Note) (me : ℕ) (notes : T)
    (server : Server T) : Type 0 where
  pub said : ServerNote
  pub says : Says (note notes).bytes said
  pub leaves : note_in note server
      ≡ record (note notes) { bytes = spelling (record said { boot = said.boot + 1 }) }
  pub stands :
      (opening : Opening) (past : List FrameEntry) → opening.me ≡ me
      → Says (note notes).bytes (words.words_noted opening (packets_heard opening past))
      → StandsFor note server opening (Restart Saved ∷ past)

-- How a restart ends.
abbrev pub Opens : {T : Type 0} → (T → Note) → ℕ → T → Result (Server T) (T × Fault) → Type 0
Opens note me notes (Ok server) = Restarts note me notes server
Opens note me notes (Err e) = whole.NotOpened (note notes) (note e.0) e.1
