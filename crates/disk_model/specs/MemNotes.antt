-- Notes in memory, which can lose their last save.
use Rattle.std.specs.Prelude.{ℕ, List}
use Rattle.disk_model.specs.Notes.{Note}

-- The durable bytes, and those from before the last save that answered Ok, which are the opening
-- ones where there was none.
pub record Saved : Type 0 where
  pub bytes : List ℕ
  pub before : List ℕ

-- The note that they are. Such notes never fail.
abbrev pub note_of : Saved → Note
note_of saved = record { bytes = saved.bytes; failures = 0 }

-- What a save that answers Ok leaves.
abbrev pub after_save : Saved → List ℕ → Saved
after_save saved bytes = record { bytes = bytes; before = saved.bytes }
