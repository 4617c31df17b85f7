-- What the client's note is seen to keep: each State that has come to it, until the note is lost.
use Rattle.std.specs.Prelude.{◌≡◌, ◌⊎◌, ℕ, ◌<◌, Bool, true, false, not, ◌&&◌, List, ◌∷◌, ◌++◌, Some, is_ok}
use Rattle.std.specs.List.{list_all}
use Rattle.verify_state.specs.State.{State}
use Rattle.messages.specs.Nodes.{is_client}
use Rattle.messages.specs.declared.body.Body.TheVariants.{NoState, State as StateBody}
use Rattle.messages.specs.declared.packet.PacketParts.{PacketParts}
use Rattle.net_world.specs.Happenings.{Happening, Begin, Trigger, StopRun, Verify, Tick, Restart, LoseNote}
use Rattle.net_world.specs.Holders.{key_at}
use Rattle.seen.specs.Observations.{Observation}
use Rattle.seen.specs.Sightings.{Comes, from_server}

-- A call of the client, or its restart: where it isn't refused, the client is on behind it.
abbrev pub is_of_client : Happening → Bool
is_of_client (Begin text) = true
is_of_client (Trigger run act) = true
is_of_client (StopRun run) = true
is_of_client (Verify run text) = true
is_of_client Tick = true
is_of_client (Restart node) = is_client node
is_of_client _ = false

-- The client answers a call, or is restarted.
abbrev pub is_answer : Observation → Bool
is_answer o = is_of_client o.event && is_ok o.told

-- The loss of the client's note.
abbrev pub is_loss : Happening → Bool
is_loss LoseNote = true
is_loss _ = false

-- In none of these was the client's note lost.
abbrev pub keeps_note : List Observation → Bool
keeps_note seen = list_all (λ o. not (is_loss o.event && is_ok o.told)) seen

-- The client's note shows the state that came with an event: at once, and behind each answer of the
-- client among those that are newer, as long as the note isn't lost.
pub record StaysKept (newer : List Observation) (came : Observation) (state : State) : Type 0 where
  pub at_once : came.saved state.key ≡ Some state
  pub later :
      (after between : List Observation) (o : Observation) → newer ≡ after ++ o ∷ between
      → keeps_note between ≡ true → is_answer o ≡ true → o.saved state.key ≡ Some state

-- The packet came to its node among the recent of these, behind the old ones.
pub record CameAmong (recent old : List Observation) (p : PacketParts) : Type 0 where
  pub later : List Observation
  pub now : Observation
  pub earlier : List Observation
  pub split : recent ≡ later ++ now ∷ earlier
  pub comes : Comes (earlier ++ old) now p

-- The server has told of a job of the run, and of how many jobs there are: in a State, or in a
-- NoState.
abbrev pub TellsOf : List Observation → List Observation → ℕ → ℕ → ℕ → ℕ → Type 0
TellsOf recent old s run job jobs =
    ((state : State) × (state.key ≡ key_at run s job)
    × CameAmong recent old (from_server s (StateBody jobs state)))
    ⊎ CameAmong recent old (from_server s (NoState run job jobs))

-- What a trigger of the run that ends well at the server leaves, though no Trigger is asked for: a
-- State or a NoState has come to the client of each job below the number that one of these told.
pub record EndedWell (recent old : List Observation) (s run : ℕ) : Type 0 where
  pub jobs : ℕ
  pub first : ℕ
  pub told : TellsOf recent old s run first jobs
  pub each : (job : ℕ) → job < jobs → (number : ℕ) × TellsOf recent old s run job number
