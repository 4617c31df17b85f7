-- Notes of which one save fails.
use Rattle.std.specs.Prelude.{ℕ, Bool, Option}
use Rattle.disk_model.specs.Notes.{Note}
use Rattle.disk_model.specs.MemNotes.{Saved}
use Rattle.disk_model.specs.Countdown.{left_of, failures_of}
use Rattle.disk_model.specs.declared.fault_notes.FaultNotes.{FaultNotes}

-- The durable bytes are those of the notes in memory; the failing save is the one failure.
abbrev pub faulty_note : FaultNotes → Note
faulty_note notes = record { bytes = notes.notes.bytes; failures = failures_of notes.countdown }

-- How many saves come before the one that fails, or none once that save was made.
abbrev pub saves_left : FaultNotes → Option ℕ
saves_left notes = left_of notes.countdown

-- Whether the failing save leaves the new bytes.
abbrev pub lands : FaultNotes → Bool
lands notes = notes.landed

-- The notes in memory.
abbrev pub notes_of : FaultNotes → Saved
notes_of notes = notes.notes
