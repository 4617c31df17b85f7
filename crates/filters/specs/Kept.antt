-- The note of a filter.
use Rattle.std.specs.Prelude.{ℕ, List, Option, Some, None}
use Rattle.disk_model.specs.Notes.{Note}
use Rattle.filters.specs.declared.note_buffer.NoteBuffer.{NoteBuffer}

-- The note of a filter lies in memory, and no save of it fails.
abbrev pub note_kept : NoteBuffer → Note
note_kept notes = record { bytes = notes.bytes.items; failures = 0 }

-- The note behind a save of what is due: these new bytes, or the old ones where nothing is due.
abbrev pub note_with : {D : Type 0} → Option D → List ℕ → List ℕ → List ℕ
note_with None new old = old
note_with (Some addition) new old = new
