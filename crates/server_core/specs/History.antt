-- What a server is opened with, and the list of what came to it since, the newest first.
use Rattle.std.specs.Prelude.{ℕ}
use Rattle.disk_model.specs.declared.save_outcome.SaveOutcome.{SaveOutcome}
use Rattle.server_core.specs.Inputs.{PacketInput}

-- A server's number, and what its note says at the opening: the boot and the last run.
pub record Opening : Type 0 where
  pub me : ℕ
  pub boot : ℕ
  pub last : ℕ

-- An input with what its save left in the note; a cut; a restart with what its save left.
pub data Entry : Type 0 where
  Met : PacketInput → SaveOutcome → Entry
  Cut : Entry
  Restart : SaveOutcome → Entry
