-- How the calls of a client end.
use Rattle.std.specs.Prelude.{◌≡◌, ℕ, true, List, Result}
use Rattle.fc_base.specs.declared.fault.Fault.{Fault}
use Rattle.disk_model.specs.SaveOutcome.{saved_for}
use Rattle.disk_model.specs.Notes.{Note}
use Rattle.node.specs.Saving.{Save, Saves}
use Rattle.node.specs.Steps.{Steps}
use Rattle.client_core.specs.Inputs.{PacketInput}
use Rattle.client_core.specs.declared.packet_client.PacketClient.{PacketClient}
use Rattle.client_core.specs.declared.note.ClientNote.{ClientNote}
use Rattle.client_core.specs.Note.{spelling}
use Rattle.client_core.specs.History.{Opening, Entry, Met}
use Rattle.client_core.specs.Framed.{frame_bytes}
use Rattle.client_core.specs.Saves.{Addition, with_addition}
use Rattle.client_core.specs.Words.{is_on, words_noted, refusal, due}
use Rattle.client_core.specs.Packets.{packets}
use Rattle.client_core.specs.Stands.{StandsFor}

-- What an answered call leaves in the list: it saved, where it was due to.
abbrev pub answered_entry : Opening → List Entry → PacketInput → Entry
answered_entry opening past c = Met c (saved_for (due opening past c))

-- The steps of a client that takes packets: its note, what its list says of a call, and what is
-- sent. A refused call leaves it as it was.
abbrev pub steps : {T : Type 0} → (T → Note) → Opening →
    Steps (PacketClient T) PacketInput Entry Addition (List (List ℕ))
steps note opening = record {
  words = record {
    is_up = is_on;
    refusal = refusal opening;
    due = due opening;
    met = Met;
    spelled = λ past. spelling (words_noted opening past);
  };
  note = λ client. note client.durable.notes;
  StandsFor = λ past client. StandsFor note client opening past;
  Sends = λ past c frames.
      frames ≡ frame_bytes (packets opening past (answered_entry opening past c));
  Stays = λ past c client. StandsFor note client opening past;
}

-- The save of what is noted so, and what it leaves of a client.
abbrev pub save_of : {T : Type 0} → ClientNote → PacketClient T → PacketClient T →
    Save (PacketClient T)
save_of noted old new = record {
  bytes = spelling noted;
  saved = record old {
    durable = record { notes = new.durable.notes; down = old.durable.down };
    noted = noted;
  };
  same = record old { durable = record { notes = new.durable.notes; down = old.durable.down } };
  down = record old { durable = record { notes = new.durable.notes; down = true } };
}

-- How the save of an addition ends.
abbrev pub Stores : {T : Type 0} → (T → Note) → Addition → PacketClient T → PacketClient T →
    Result (Unit {0}) Fault → Type 0
Stores note a old new result =
    Saves (λ client. note client.durable.notes) (save_of (with_addition a old.noted) old new)
    old new result

-- How the save of what is noted ends.
abbrev pub Writes : {T : Type 0} → (T → Note) → PacketClient T → PacketClient T →
    Result (Unit {0}) Fault → Type 0
Writes note old new result =
    Saves (λ client. note client.durable.notes) (save_of old.noted old new) old new result
