-- When a server asks for its cut, and what an acknowledgement says, as far as it is seen.
use Rattle.std.specs.Prelude.{◌≡◌, ◌⊎◌, ℕ, List, ◌∷◌, Some}
use Rattle.verify_state.specs.State.{State}
use Rattle.messages.specs.declared.body.Body.TheVariants.{NoState, StateAck, Trigger}
use Rattle.messages.specs.declared.refusal.Act.TheVariants.{Cut}
use Rattle.net_world.specs.Holders.{key_at}
use Rattle.seen.specs.Observations.{Observation, frames_in}
use Rattle.seen.specs.Sightings.{Comes, IsAmong, IsSeen, from_server, to_server}
use Rattle.seen.specs.Reports.{HasCome}

-- A server asks for its cut where the acknowledgement of a state of a run comes to it. By then a
-- Trigger of that run that asks for the cut has come to it, and the acknowledgement of each state
-- which was seen of the run and server.
pub record IsAcknowledged (seen : List Observation) (o : Observation) : Type 0 where
  pub server : ℕ
  pub run : ℕ
  pub job : ℕ
  pub asks : Comes seen o (to_server server (StateAck run job))
  pub ordered : HasCome seen (to_server server (Trigger run Cut))
  pub each :
      (state : State) → IsSeen seen state → state.key.server ≡ server → state.key.run ≡ run
      → HasCome (o ∷ seen) (to_server server (StateAck run state.key.job))

-- The client's note shows a state of the job; or its server had said that it has none, and no state
-- of it is seen.
abbrev pub IsKeptOrNone : List Observation → Observation → ℕ → ℕ → ℕ → Type 0
IsKeptOrNone seen o s run job =
    ((state : State) × (o.saved (key_at run s job) ≡ Some state))
    ⊎ (((jobs : ℕ) × IsAmong (frames_in seen) (from_server s (NoState run job jobs)))
    × ((other : State) → other.key ≡ key_at run s job → IsSeen seen other → ⊥))
