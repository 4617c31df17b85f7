-- Which lists a mirror stands for, and how its opening ends.
use Rattle.std.specs.Prelude.{◌≡◌, ◌<◌, not, List, ◌∷◌, Result, Ok, Err}
use Rattle.fc_base.specs.declared.fault.Fault.{Fault}
use Rattle.fc_base.specs.declared.fault.Fault.TheVariants.{NoMemory, LoadFault, BadNote}
use Rattle.disk_model.specs.Notes.{Note}
use Rattle.mirror_core.specs.declared.note.MirrorNote.{MirrorNote}
use Rattle.mirror_core.specs.declared.mirror.Mirror.{Mirror}
use Rattle.mirror_core.specs.Note.{Says}
use Rattle.mirror_core.specs.History.{Entry, Restart}
use Rattle.mirror_core.specs.Words.{is_on, words_noted, shown_entries}

-- What a mirror's note says, by what is said of its notes.
abbrev pub note_in : {T : Type 0} → (T → Note) → Mirror T → Note
note_in note mirror = note mirror.durable.notes

-- A mirror stands for a list where it is on as the list says, where the durable bytes say what the
-- list says, and where it knows of its note what that said before the first failed save.
pub record StandsFor {T : Type 0} (note : T → Note) (mirror : Mirror T) (opening : MirrorNote)
    (past : List Entry) : Type 0 where
  pub on : mirror.durable.down ≡ not (is_on past)
  pub durable : Says (note_in note mirror).bytes (words_noted opening past)
  pub knows : mirror.noted ≡ words_noted opening (shown_entries past)

-- For each list of which the durable bytes say what it says, the mirror stands for that list with a
-- restart. They say something, so there is such a list: the empty one. They stay as they were.
pub record Opens {T : Type 0} (note : T → Note) (old : Note) (mirror : Mirror T) : Type 0 where
  pub same : note_in note mirror ≡ old
  pub said : MirrorNote
  pub says : Says old.bytes said
  pub stands :
      (opening : MirrorNote) (past : List Entry) → Says old.bytes (words_noted opening past) →
      StandsFor note mirror opening (Restart ∷ past)

-- Why no mirror is opened: the device failed, the bytes are no note, or memory ran out. The durable
-- bytes stay as they were.
abbrev pub NotOpened : Note → Note → Fault → Type 0
NotOpened old new LoadFault = (old.failures < new.failures) × (new.bytes ≡ old.bytes)
NotOpened old new BadNote = (new ≡ old) × ((said : MirrorNote) → Says old.bytes said → ⊥)
NotOpened old new NoMemory = new ≡ old
NotOpened old new _ = ⊥

-- A mirror is opened, or the notes come back with the reason.
abbrev pub Restarts : {T : Type 0} → (T → Note) → Note → Result (Mirror T) (T × Fault) → Type 0
Restarts note old (Ok mirror) = Opens note old mirror
Restarts note old (Err back) = NotOpened old (note back.0) back.1
