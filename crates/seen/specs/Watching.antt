-- What is seen of the worlds that run.
use Rattle.std.specs.Prelude.{◌≡◌, ◌≤◌, List, [], ◌∷◌, ◌++◌, drop, length}
use Rattle.fc_base.specs.declared.limits.TheConstants.{MAX_SERVERS}
use Rattle.net_world.specs.declared.config.Config.{Config}
use Rattle.net_world.specs.declared.event.WorldEvent.{WorldEvent}
use Rattle.net_world.specs.Setup.{Setup, setup_of}
use Rattle.net_world.specs.Happenings.{Happening}
use Rattle.net_world.specs.Claims.{happenings_of}
use Rattle.net_world.specs.World.{world, frames, saved_state, told_of_happening}
use Rattle.seen.specs.Observations.{Observation}

-- What is seen of one more event: what `apply` answers, the frames that stand behind those that
-- stood there before, and what `saved` answers.
abbrev pub observation : Setup → List Happening → Happening → Observation
observation w events e = record {
  event = e;
  told = told_of_happening w (world w events) e;
  frames = drop (length (frames w (world w events))) (frames w (world w (e ∷ events)));
  saved = saved_state w (world w (e ∷ events));
}

-- What is seen of all that has happened in a world, the newest first.
abbrev pub observations : Setup → List Happening → List Observation
observations w [] = []
observations w (e ∷ events) = observation w events e ∷ observations w events

-- The claim holds of what is seen of each world of at most 8 servers.
abbrev pub OfAllThatIsSeen : (List Observation → Type 0) → Type 0
OfAllThatIsSeen Claim =
    (w : Setup) (events : List Happening) → w.servers ≤ MAX_SERVERS → Claim (observations w events)

-- The claim holds of what is seen at each moment of the list: behind each event, and before the
-- first.
abbrev pub WhenSeen : (List Observation → Type 0) → Config → List WorldEvent → Type 0
WhenSeen Claim config events =
    (newer older : List Happening) → happenings_of events ≡ newer ++ older →
    Claim (observations (setup_of config) older)
