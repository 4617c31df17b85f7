-- The places of a run: each server with each of its jobs.
use Rattle.std.specs.Prelude.{ℕ, ◌/◌, ◌%◌, Bool, ◌&&◌, ◌==◌, List, map}
use Rattle.fc_base.specs.Counted.{numbers_below}
use Rattle.fc_base.specs.declared.limits.TheConstants.{MAX_JOBS}
use Rattle.fc_base.specs.declared.numbers.Key.{Key}
use Rattle.attempt_ends.specs.declared.place.Place.{Place}
use Rattle.attempt_ends.specs.declared.place.TheConstants.{PLACES}

-- The place with this number: those of a server stand one behind the other, by their jobs.
abbrev pub place_numbered : ℕ → Place
place_numbered n = record { server = n / MAX_JOBS; job = n % MAX_JOBS }

-- All places that there can be, ascending.
unfoldable pub all_places : List Place
all_places = map place_numbered (numbers_below PLACES)

-- The key of a place in a run.
abbrev pub key_at : ℕ → Place → Key
key_at run place = record { run = run; server = place.server; job = place.job }

-- Two places are of one server and job.
abbrev pub is_same_place : Place → Place → Bool
is_same_place a b = (a.server == b.server) && (a.job == b.job)
