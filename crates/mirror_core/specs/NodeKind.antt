-- What kind of node a mirror is.
use Rattle.std.specs.Prelude.{ℕ, List}
use Rattle.disk_model.specs.Notes.{Note}
use Rattle.messages.specs.declared.frame.Frame.{Frame}
use Rattle.mirror_core.specs.declared.mirror.Mirror.{Mirror}
use Rattle.mirror_core.specs.declared.note.MirrorNote.{MirrorNote}
use Rattle.mirror_core.specs.History.{Entry, Cut}
use Rattle.mirror_core.specs.Note.{Says}
use Rattle.mirror_core.specs.Saves.{Addition}
use Rattle.mirror_core.specs.Words.{words_noted}
use Rattle.mirror_core.specs.Ends.{steps}
use Rattle.node.specs.Kinds.{Kind}

-- The kind of a mirror whose note said this.
abbrev pub mirror_kind : {T : Type 0} → (T → Note) → MirrorNote →
    Kind (Mirror T) T Frame Entry Addition (List (List ℕ))
mirror_kind note opening = record {
  core = steps note opening;
  note = note;
  Says = λ past notes. Says (note notes).bytes (words_noted opening past);
  cut = Cut;
}
