-- A table of states, in the order in which they came.
use Rattle.std.specs.Prelude.{Bool, true, ◌&&◌, is_none, List, [], ◌∷◌, Option, find}
use Rattle.fc_base.specs.declared.numbers.Key.{Key}
use Rattle.fc_base.specs.Keys.{is_same_key}
use Rattle.verify_state.specs.State.{State}

-- The first state of a key.
abbrev pub kept_of : Key → List State → Option State
kept_of key states = find (λ state. is_same_key key state.key) states

-- No two states are of one key.
abbrev pub has_distinct_keys : List State → Bool
has_distinct_keys [] = true
has_distinct_keys (state ∷ states) = is_none (kept_of state.key states) && has_distinct_keys states
