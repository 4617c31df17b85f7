-- What is seen of a world, event by event: what happened, what it was told, the frames that were
-- sent, and what the client's note shows. How a node comes to its answers can't be seen.
use Rattle.std.specs.Prelude.{ℕ, List, [], ◌∷◌, ◌++◌, Option, Result}
use Rattle.fc_base.specs.declared.fault.Fault.{Fault}
use Rattle.fc_base.specs.declared.numbers.Key.{Key}
use Rattle.verify_state.specs.State.{State}
use Rattle.net_world.specs.declared.told.Told.{Told}
use Rattle.net_world.specs.Happenings.{Happening}

-- What is seen of an event: the event; what it was told, or why it was refused; the bytes of each
-- frame that was sent with it; and the state of each key that `saved` shows behind it.
pub record Observation : Type 0 where
  pub event : Happening
  pub told : Result Told Fault
  pub frames : List (List ℕ)
  pub saved : Key → Option State

-- All frames that were sent, the oldest first, so that frame i stands at place i. Observations are
-- told newest first.
abbrev pub frames_in : List Observation → List (List ℕ)
frames_in [] = []
frames_in (o ∷ past) = frames_in past ++ o.frames
