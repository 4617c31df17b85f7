-- What holds of every table of states, and of its bytes.
use Rattle.std.specs.Prelude.{◌≡◌, ◌⊎◌, ℕ, ◌<◌, List, [], ◌∷◌, ◌++◌, length, Some, None, IsTrue}
use Rattle.std.specs.List.{AllByRecursion, flat_map}
use Rattle.fc_base.specs.declared.numbers.Key.{Key}
use Rattle.verify_state.specs.State.{State, IsState}
use Rattle.verify_state.specs.StateTable.{kept_of, has_distinct_keys}
use Rattle.verify_state.specs.TableBytes.{counted_bytes, SayStates}
use Rattle.verify_state.specs.TableReading.{states_at}

-- The state that is found of a key stays the one that is found, whatever comes behind.
abbrev pub FoundStays : Type 0
FoundStays =
    (key : Key) (states more : List State) (state : State) →
    kept_of key states ≡ Some state → kept_of key (states ++ more) ≡ Some state

-- The state that is found of a key has it.
abbrev pub FoundHasItsKey : Type 0
FoundHasItsKey =
    (key : Key) (states : List State) (state : State) → kept_of key states ≡ Some state
    → state.key ≡ key

-- A state that comes last is found, where none of its key stood before it.
abbrev pub LastIsFound : Type 0
LastIsFound =
    (states : List State) (state : State) → kept_of state.key states ≡ None →
    kept_of state.key (states ++ state ∷ []) ≡ Some state

-- The state that is found of a key was found before the last one came, or is the last one, of this
-- key.
abbrev pub FoundOrLast : Type 0
FoundOrLast =
    (key : Key) (states : List State) (last state : State) →
    kept_of key (states ++ last ∷ []) ≡ Some state →
    (kept_of key states ≡ Some state) ⊎ ((last ≡ state) × (last.key ≡ key))

-- All keys stay different where a state comes of whose key there was none.
abbrev pub KeysStayApart : Type 0
KeysStayApart =
    (states : List State) (state : State) → kept_of state.key states ≡ None →
    IsTrue (has_distinct_keys states) → IsTrue (has_distinct_keys (states ++ state ∷ []))

-- States are read from the bytes that say them, each behind its number of bytes, and are as many.
abbrev pub SpelledAreRead : Type 0
SpelledAreRead =
    (parts : List (List ℕ)) (states : List State) → SayStates parts states →
    (length parts ≡ length states)
    × (states_at (length parts) (flat_map counted_bytes parts) ≡ Some states)

-- The bytes are those of so many states, each behind its number of bytes, and the states keep their
-- ranges.
pub record AreSpelled (n : ℕ) (bytes : List ℕ) (states : List State) : Type 0 where
  pub parts : List (List ℕ)
  pub count : length parts ≡ n
  pub spelled : bytes ≡ flat_map counted_bytes parts
  pub says : SayStates parts states
  pub ranges : AllByRecursion IsState states

-- States that are read stand in the bytes so.
abbrev pub ReadWereSpelled : Type 0
ReadWereSpelled =
    (n : ℕ) (bytes : List ℕ) (states : List State) → AllByRecursion (λ byte. byte < 256) bytes →
    states_at n bytes ≡ Some states → AreSpelled n bytes states
