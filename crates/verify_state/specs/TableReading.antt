-- How the states of a note are read.
use Rattle.std.specs.Prelude.{◌≡◌, ◌<◌, ℕ, zero, suc, nat_lt, is_some, List, [], ◌∷◌, length, take, drop, Option, Some, None, IsTrue, if◌then◌else◌}
use Rattle.std.specs.Option.{option_map, option_and_then}
use Rattle.std.specs.Int.{w32}
use Rattle.fc_base.specs.declared.fault.Fault.{Fault}
use Rattle.fc_base.specs.Layouts.{number_in}
use Rattle.verify_state.specs.State.{State}
use Rattle.verify_state.specs.Reading.{faults_of, state_in}
use Rattle.verify_state.specs.StateTable.{has_distinct_keys}

-- The state that the bytes say, where they have no fault.
abbrev pub unless_faulty : List Fault → State → Option State
unless_faulty [] state = Some state
unless_faulty (fault ∷ faults) state = None

-- The state of so many bytes, and what stands behind them.
abbrev pub state_behind : ℕ → List ℕ → Option (State × List ℕ)
state_behind n bytes =
    if nat_lt (length bytes) n then None
    else option_map (λ state. (state, drop n bytes))
    (unless_faulty (faults_of (take n bytes)) (state_in (take n bytes)))

-- The first state, whose length stands before it, and what stands behind it.
unfoldable pub first_state : List ℕ → Option (State × List ℕ)
first_state bytes =
    if nat_lt (length bytes) 4 then None else state_behind (number_in w32 bytes) (drop 4 bytes)

-- This many states one after another, and nothing behind them.
abbrev pub states_at : ℕ → List ℕ → Option (List State)
states_at zero [] = Some []
states_at zero (byte ∷ bytes) = None
states_at (suc n) bytes =
    option_and_then (λ first. option_map (λ states. first.0 ∷ states) (states_at n first.1))
    (first_state bytes)

-- There are to be states, and the bytes of so many are there, each sound, with nothing behind them.
abbrev pub HoldStates : ℕ → List ℕ → Type 0
HoldStates n bytes = (0 < n) × IsTrue (is_some (states_at n bytes))

-- A reader gives so many states, of different keys, and nothing where the bytes aren't that.
abbrev pub ReadsStates : ℕ → List ℕ → Option (List State) → Type 0
ReadsStates n bytes (Some states) =
    (states_at n bytes ≡ Some states) × IsTrue (has_distinct_keys states)
ReadsStates n bytes None =
    (states : List State) → states_at n bytes ≡ Some states → IsTrue (has_distinct_keys states) → ⊥
