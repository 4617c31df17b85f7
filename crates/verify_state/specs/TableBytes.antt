-- The bytes of states in a note: each behind its number of bytes, in whichever layout.
use Rattle.std.specs.Prelude.{◌≡◌, ℕ, ◌^◌, ◌<◌, List, [], ◌∷◌, ◌++◌, length}
use Rattle.std.specs.List.{flat_map}
use Rattle.std.specs.Int.{w32}
use Rattle.fc_base.specs.Layouts.{bytes_of}
use Rattle.verify_state.specs.State.{State}
use Rattle.verify_state.specs.Reading.{faults_of, state_in}

-- The bytes of a state behind their number.
abbrev pub counted_bytes : List ℕ → List ℕ
counted_bytes bytes = bytes_of w32 (length bytes) ++ bytes

-- The bytes of states behind how many they are.
abbrev pub counted_states : List (List ℕ) → List ℕ
counted_states parts = bytes_of w32 (length parts) ++ flat_map counted_bytes parts

-- The bytes say this state, in whichever layout; their number has four bytes.
pub record SaysState (bytes : List ℕ) (state : State) : Type 0 where
  pub short : length bytes < 2 ^ 32
  pub sound : faults_of bytes ≡ []
  pub said : state_in bytes ≡ state

-- Each says the state at its place.
abbrev pub SayStates : List (List ℕ) → List State → Type 0
SayStates [] [] = Unit {0}
SayStates (bytes ∷ more) (state ∷ states) = SaysState bytes state × SayStates more states
SayStates _ _ = ⊥
