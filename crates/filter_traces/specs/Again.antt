-- A fleet that begins anew over servers which have served others.
use Rattle.std.specs.Prelude.{◌≡◌, ◌≤◌, ◌<◌, ℕ, ◌^◌, []}
use Rattle.server_core.specs.declared.note.ServerNote.{ServerNote}
use Rattle.client_core.specs.declared.note.ClientNote.{ClientNote}
use Rattle.client_core.specs.Note.{Says}
use Rattle.net_world.specs.Setup.{without_mirror}
use Rattle.filters.specs.ServerLives.{next_boot}
use Rattle.filter_traces.specs.Fleets.{FleetAt, FleetBegins}

-- A client's note of no states that says how many runs and attempts were given.
abbrev pub drawn : ℕ → ℕ → ClientNote
drawn runs attempts = record { generation = 0; runs = runs; attempts = attempts; kept = [] }

-- Numbers that can be drawn: a run was begun, and there are more of eight bytes.
pub record CanBeDrawn (runs attempts : ℕ) : Type 0 where
  pub begun : 1 ≤ runs
  pub runs_fit : runs < 2 ^ 64
  pub attempts_fit : attempts < 2 ^ 64

-- What the note of a server says that may have served other fleets: its last run isn't above these,
-- and it began one only once it had booted.
pub record IsOlder (runs : ℕ) (said : ServerNote) : Type 0 where
  pub last : said.last_run ≤ runs
  pub booted : said.boot ≡ 0 → said.last_run ≡ 0

-- A fleet without a mirror begins over a client's note with these numbers, and over these notes of
-- its servers, each of which has saved its next boot.
pub record BeginsAgain (n runs attempts : ℕ) (said : ℕ → ServerNote) (first : FleetAt) : Type 0
  where
    pub begins : FleetBegins (without_mirror n) first
    pub client : Says first.client.note (drawn runs attempts)
    pub servers : (s : ℕ) → s < n → (first.servers s).note ≡ next_boot (said s)
