-- What an event's save left in the notes.
use Rattle.std.specs.Prelude.{◌≡◌, ◌≢◌, Bool, true, false, if◌then◌else◌, List, ℕ}
use Rattle.std.specs.Prelude.{Option, Some, None, Result, Err, is_ok}
use Rattle.fc_base.specs.declared.fault.Fault.{Fault}
use Rattle.fc_base.specs.declared.fault.Fault.TheVariants.{NoMemory}
use Rattle.disk_model.specs.Notes.{Note, IsSaved}
use Rattle.disk_model.specs.declared.save_outcome.SaveOutcome.{SaveOutcome}
use Rattle.disk_model.specs.declared.save_outcome.SaveOutcome.TheVariants.{NoSave, Saved, LostNew, LostOld}

-- What the save of an answered event left: none was made, where nothing was due.
abbrev pub saved_for : {D : Type 0} → Option D → SaveOutcome
saved_for None = NoSave
saved_for (Some addition) = Saved

-- A save answered Ok.
abbrev pub is_saved : SaveOutcome → Bool
is_saved NoSave = false
is_saved Saved = true
is_saved LostNew = false
is_saved LostOld = false

-- A save failed, whichever bytes it left.
abbrev pub is_lost : SaveOutcome → Bool
is_lost NoSave = false
is_lost Saved = false
is_lost LostNew = true
is_lost LostOld = true

-- The new bytes are there.
abbrev pub has_new : SaveOutcome → Bool
has_new NoSave = false
has_new Saved = true
has_new LostNew = true
has_new LostOld = false

-- The durable bytes: the new ones where they are there, else the old.
abbrev pub bytes_left : SaveOutcome → List ℕ → List ℕ → List ℕ
bytes_left left new old = if has_new left then new else old

-- A save that did not want for memory answered Ok or failed, and left the new bytes or the old.
abbrev pub TellsWhatIsLeft : Type 0
TellsWhatIsLeft =
    (old new : Note) (bytes : List ℕ) (result : Result (Unit {0}) Fault) →
    IsSaved old new bytes result → result ≢ Err NoMemory →
    (left : SaveOutcome) × (is_saved left ≡ is_ok result) × (is_lost left ≢ is_saved left)
    × (new.bytes ≡ bytes_left left bytes old.bytes)
