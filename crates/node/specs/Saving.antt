-- How the save of a core ends, whichever core it is.
use Rattle.std.specs.Prelude.{◌≡◌, ◌⊎◌, ◌<◌, ℕ, true, List, Result, Ok, Err}
use Rattle.fc_base.specs.declared.fault.Fault.{Fault}
use Rattle.fc_base.specs.declared.fault.Fault.TheVariants.{NoMemory}
use Rattle.fc_base.specs.declared.fault.FaultSort.{FaultSort}
use Rattle.fc_base.specs.declared.fault.FaultSort.TheVariants as sorts
use Rattle.fc_base.specs.Fault.{sort_of}
use Rattle.node.specs.declared.durable.Durable.{Durable}
use Rattle.disk_model.specs.Notes.{Note}

-- A save of a core of states S: its bytes, and what it is to leave of the core.
pub record Save (S : Type 0) : Type 0 where
  pub bytes : List ℕ  -- what is to be durable
  pub saved : S  -- the core where the save answered Ok
  pub same : S  -- the core where memory ran out
  pub down : S  -- the core where the device failed

-- How a save ends that isn't answered: memory ran out, and the note is as it was; or the device
-- failed, and the durable bytes are the old or the new.
abbrev pub Unsaved : {S : Type 0} → (S → Note) → Save S → FaultSort → Fault → S → S → Type 0
Unsaved note save sorts.Memory fault old new =
    (fault ≡ NoMemory) × (note new ≡ note old) × (new ≡ save.same)
Unsaved note save sorts.Save fault old new =
    ((note old).failures < (note new).failures)
    × (((note new).bytes ≡ (note old).bytes) ⊎ ((note new).bytes ≡ save.bytes))
    × (new ≡ save.down)
Unsaved note save sorts.Refusal fault old new = ⊥

-- How a save ends: the bytes are durable.
abbrev pub Saves : {S : Type 0} → (S → Note) → Save S → S → S → Result (Unit {0}) Fault → Type 0
Saves note save old new (Ok _) =
    (note new ≡ record (note old) { bytes = save.bytes }) × (new ≡ save.saved)
Saves note save old new (Err fault) = Unsaved note save (sort_of fault) fault old new

-- The save of these bytes, and what it leaves of a node's notes, which were old and are new then.
abbrev pub save_of_notes : {T : Type 0} → List ℕ → Durable T → Durable T → Save (Durable T)
save_of_notes bytes old new = record {
  bytes = bytes;
  saved = record { notes = new.notes; down = old.down };
  same = record { notes = new.notes; down = old.down };
  down = record { notes = new.notes; down = true };
}
