-- Which lists of frames a client stands for, and how its calls end.
use Rattle.std.specs.Prelude.{◌≡◌, ◌≢◌, ℕ, ◌+◌, ◌*◌, Bool, true, List, [], ◌∷◌, map}
use Rattle.std.specs.Prelude.{Result, Ok, Err, IsTrue}
use Rattle.fc_base.specs.declared.limits.TheConstants.{MAX_SERVERS}
use Rattle.fc_base.specs.declared.fault.Fault.{Fault}
use Rattle.disk_model.specs.declared.save_outcome.SaveOutcome.TheVariants.{Saved}
use Rattle.disk_model.specs.Notes.{Note}
use Rattle.node.specs.Steps.{Words, Steps}
use Rattle.messages.specs.FrameBytes.{frame_spelling}
use Rattle.messages.specs.Ranges.{is_generation}
use Rattle.node.specs.Hearers as hearers
use Rattle.node.specs.Nodes as nodes
use Rattle.node.specs.Nodes.{Node}
use Rattle.client_core.specs.Inputs.{PacketInput, FrameInput, Tick}
use Rattle.client_core.specs.declared.packet_client.PacketClient.{PacketClient}
use Rattle.client_core.specs.declared.client.Client.{Client}
use Rattle.client_core.specs.declared.note.ClientNote.{ClientNote}
use Rattle.client_core.specs.History.{Opening, Entry}
use Rattle.client_core.specs.Note.{Says, new_note, spelling}
use Rattle.client_core.specs.Words as words
use Rattle.client_core.specs.Saves.{Addition}
use Rattle.client_core.specs.Bounds.{AreShort, requests, most_copies}
use Rattle.client_core.specs.Ranges.{OpensInRange, CameInRange}
use Rattle.client_core.specs.Stands as whole
use Rattle.client_core.specs.Hearing.{FrameEntry, Met, Restart, Renew, arrival, coming_of, packets_heard}
use Rattle.client_core.specs.FrameAnswers.{frames, answered_entry}
use Rattle.client_core.specs.HearingKind.{hearing_kind}

-- What a client's note says, by what is said of its notes.
abbrev pub note_in : {T : Type 0} → (T → Note) → Client T → Note
note_in note client = note client.hearer.core.durable.notes

-- What a client knows of its note.
abbrev pub noted_in : {T : Type 0} → Client T → ClientNote
noted_in client = client.hearer.core.noted

-- A client stands for a list of frames where its core stands for the packets that are heard in it,
-- and, while it is on, keeps what has come together of pieces.
abbrev pub StandsFor : {T : Type 0} → (T → Note) → Client T → Opening → List FrameEntry → Type 0
StandsFor note client opening past =
    hearers.StandsFor (hearing_kind note opening) (map coming_of past) client.hearer

-- A tick sends at most one packet to each server for each request of this life, and those to the
-- mirror; any other input at most 8 packets.
abbrev pub most_packets : Opening → List FrameEntry → FrameInput → ℕ
most_packets opening past Tick =
    opening.servers * requests opening (packets_heard opening past)
    + most_copies opening (packets_heard opening past)
most_packets opening past _ = MAX_SERVERS

-- The frames that are sent are those of the list; and where the packets that were heard keep their
-- ranges, they are few and short.
pub record Sends (opening : Opening) (past : List FrameEntry) (e : FrameInput)
    (sent : List (List ℕ)) : Type 0 where
  pub frames_are : sent ≡ map frame_spelling (frames opening past (answered_entry opening past e))
  pub short : OpensInRange opening → CameInRange (packets_heard opening past)
      → AreShort (most_packets opening past e) sent

-- A client as a node whose core hears frames.
abbrev pub client_node : {T : Type 0} → (T → Note) → Opening →
    Node (Client T) FrameInput FrameEntry (PacketClient T) PacketInput Entry Addition (List (List ℕ))
client_node note opening = record {
  kind = hearing_kind note opening;
  hearer = λ client. client.hearer;
  arrival = arrival;
  coming = coming_of;
  met = Met;
  Sends = Sends opening;
}

-- What the list of a client says, whatever its notes are.
abbrev pub words_of : Opening → Words FrameInput FrameEntry Addition
words_of opening = nodes.words (client_node (λ (note : Note). note) opening)

-- The steps of a client: its note, what its list says of what comes, and what is sent. What is
-- refused leaves it as it was, but where it drops a tag: that alone changes.
abbrev pub steps : {T : Type 0} → (T → Note) → Opening →
    Steps (Client T) FrameInput FrameEntry Addition (List (List ℕ))
steps note opening = nodes.steps (client_node note opening)

-- For each list of which the durable bytes say what it says, the client stands for that list with a
-- restart. They say something, so there is such a list: the empty one; and with a mirror they
-- aren't empty. They stay as they were.
pub record Opens {T : Type 0} (note : T → Note) (servers : ℕ) (mirror : Bool) (old : Note)
    (client : Client T) : Type 0 where
  pub same : note_in note client ≡ old
  pub some : mirror ≡ true → old.bytes ≢ []
  pub said : ClientNote
  pub says : Says old.bytes said
  pub stands :
      (opening : Opening) (past : List FrameEntry) → opening.servers ≡ servers →
      Says old.bytes (words.words_noted opening (packets_heard opening past)) →
      StandsFor note client opening (Restart mirror ∷ past)

-- A client is opened, or the notes come back with the reason.
abbrev pub Restarts : {T : Type 0} → (T → Note) → ℕ → Bool → Note → Result (Client T) (T × Fault)
    → Type 0
Restarts note servers mirror old (Ok client) = Opens note servers mirror old client
Restarts note servers mirror old (Err back) = whole.NotOpened mirror old (note back.0) back.1

-- The note was empty, and is now the spelling of what begins anew; nothing failed. For each list of
-- which the old bytes say what it says, the client stands for that list with the renewal.
pub record BeginsAnew {T : Type 0} (note : T → Note) (servers g : ℕ) (old : Note)
    (client : Client T) : Type 0 where
  pub free : IsTrue (is_generation g)
  pub empty : old.bytes ≡ []
  pub leaves : note_in note client ≡ record old { bytes = spelling (new_note g) }
  pub stands :
      (opening : Opening) (past : List FrameEntry) → opening.servers ≡ servers →
      Says old.bytes (words.words_noted opening (packets_heard opening past)) →
      StandsFor note client opening (Renew g Saved ∷ past)

-- A client is renewed, or the notes come back with the reason.
abbrev pub Renews : {T : Type 0} → (T → Note) → ℕ → ℕ → Note → Result (Client T) (T × Fault)
    → Type 0
Renews note servers g old (Ok client) = BeginsAnew note servers g old client
Renews note servers g old (Err back) = whole.NotRenewed g old (note back.0) back.1
