-- How the delivery of a frame ends.
use Rattle.std.specs.Prelude.{◌≡◌, ℕ, true, List, Result}
use Rattle.fc_base.specs.declared.fault.Fault.{Fault}
use Rattle.disk_model.specs.SaveOutcome.{saved_for}
use Rattle.disk_model.specs.Notes.{Note}
use Rattle.node.specs.Saving.{Save, Saves}
use Rattle.node.specs.Steps.{Steps}
use Rattle.messages.specs.declared.frame.Frame.{Frame}
use Rattle.mirror_core.specs.declared.note.MirrorNote.{MirrorNote}
use Rattle.mirror_core.specs.declared.mirror.Mirror.{Mirror}
use Rattle.mirror_core.specs.History.{Entry, Met}
use Rattle.mirror_core.specs.Note.{spelling}
use Rattle.mirror_core.specs.Saves.{Addition, with_addition}
use Rattle.mirror_core.specs.Words.{is_on, words_noted, refusal, due}
use Rattle.mirror_core.specs.Packets.{packets, frame_bytes}
use Rattle.mirror_core.specs.Stands.{note_in, StandsFor}

-- What an answered frame leaves in the list: it saved, where it was due to.
abbrev pub answered_entry : MirrorNote → List Entry → Frame → Entry
answered_entry opening past f = Met f (saved_for (due opening past f))

-- The steps of a mirror: its note, what its list says of a frame, and what is sent. A refused frame
-- leaves it as it was.
abbrev pub steps : {T : Type 0} → (T → Note) → MirrorNote →
    Steps (Mirror T) Frame Entry Addition (List (List ℕ))
steps note opening = record {
  words = record {
    is_up = is_on;
    refusal = refusal opening;
    due = due opening;
    met = Met;
    spelled = λ past. spelling (words_noted opening past);
  };
  note = note_in note;
  StandsFor = λ past mirror. StandsFor note mirror opening past;
  Sends = λ past f frames.
      frames ≡ frame_bytes (packets opening past (answered_entry opening past f));
  Stays = λ past f mirror. StandsFor note mirror opening past;
}

-- The save of what is noted so, and what it leaves of a mirror.
abbrev pub save_of : {T : Type 0} → MirrorNote → Mirror T → Mirror T → Save (Mirror T)
save_of noted old new = record {
  bytes = spelling noted;
  saved = record old {
    durable = record { notes = new.durable.notes; down = old.durable.down };
    noted = noted;
  };
  same = record old { durable = record { notes = new.durable.notes; down = old.durable.down } };
  down = record old { durable = record { notes = new.durable.notes; down = true } };
}

-- How the save of an addition ends.
abbrev pub Stores : {T : Type 0} → (T → Note) → Addition → Mirror T → Mirror T →
    Result (Unit {0}) Fault → Type 0
Stores note a old new result =
    Saves (note_in note) (save_of (with_addition a old.noted) old new)
    old new result

-- How the save of what is noted ends.
abbrev pub Writes : {T : Type 0} → (T → Note) → Mirror T → Mirror T →
    Result (Unit {0}) Fault → Type 0
Writes note old new result =
    Saves (note_in note) (save_of old.noted old new) old new result
