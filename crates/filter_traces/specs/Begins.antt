-- A fleet that begins over empty notes.
use Rattle.std.specs.Prelude.{◌≡◌, ℕ, Bool, true, false, List}
use Rattle.server_core.specs.Note.{blank as server_blank}
use Rattle.client_core.specs.declared.note.ClientNote.{ClientNote}
use Rattle.client_core.specs.Note.{blank, new_note}
use Rattle.net_world.specs.Setup.{Setup}
use Rattle.filters.specs.ServerLives.{next_boot}
use Rattle.filter_traces.specs.Fleets.{FleetAt, FleetBegins}

-- What the note of a client says that begins: with a mirror that it begins anew, in this
-- generation, and without one nothing.
abbrev pub first_note : Bool → ℕ → ClientNote
first_note true g = new_note g
first_note false g = blank

-- A fleet begins with these notes of its client and of its mirror, and over empty ones of its
-- servers, each of which has saved its first boot.
pub record BeginsEmpty (w : Setup) (note copies : List ℕ) (first : FleetAt) : Type 0 where
  pub begins : FleetBegins w first
  pub client : first.client.note ≡ note
  pub mirror : first.mirror.note ≡ copies
  pub servers : (s : ℕ) → (first.servers s).note ≡ next_boot server_blank
