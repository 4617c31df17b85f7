-- The list of what came to a mirror since its opening, the newest first.
use Rattle.disk_model.specs.declared.save_outcome.SaveOutcome.{SaveOutcome}
use Rattle.messages.specs.declared.frame.Frame.{Frame}

-- A frame with what its save left in the note; a cut; a restart, which makes no save.
pub data Entry : Type 0 where
  Met : Frame → SaveOutcome → Entry
  Cut : Entry
  Restart : Entry
