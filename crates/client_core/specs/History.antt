-- What a client is opened with, and the list of what came to it since, the newest first.
use Rattle.std.specs.Prelude.{ℕ, Bool}
use Rattle.disk_model.specs.declared.save_outcome.SaveOutcome.{SaveOutcome}
use Rattle.client_core.specs.Inputs.{PacketInput}
use Rattle.client_core.specs.declared.note.ClientNote.{ClientNote}

-- How many servers a client drives, and what its note says at the opening.
pub record Opening : Type 0 where
  pub servers : ℕ
  pub noted : ClientNote

-- What came, with what its save left in the note; a cut; a restart, which makes no save, with a mirror
-- or without one; a renewal with this generation, which has a mirror, with what its save left; the
-- loss of the note of a client that is off.
pub data Entry : Type 0 where
  Met : PacketInput → SaveOutcome → Entry
  Cut : Entry
  Restart : Bool → Entry
  Renew : ℕ → SaveOutcome → Entry
  Lose : Entry
