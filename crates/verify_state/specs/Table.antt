-- How kept states are held, each beside its key. No public contract cites this.
use Rattle.std.specs.Prelude.{◌≤◌, Bool, true, ◌&&◌, List, [], ◌∷◌, length, IsTrue}
use Rattle.fc_base.specs.declared.numbers.Key.{Key}
use Rattle.fc_base.specs.Keys.{is_same_key}
use Rattle.verify_state.specs.declared.table.TheConstants.{KEPT_LIMIT}
use Rattle.verify_state.specs.State.{State}

-- Each state stands beside its own key.
abbrev pub are_keyed : List (Key × State) → Bool
are_keyed [] = true
are_keyed (entry ∷ entries) = is_same_key entry.0 entry.1.key && are_keyed entries

-- What the entries of a table of states are: each is a state beside its key, and they are at most
-- 1,024. That no two are of one key is the map's own.
pub record IsTable (entries : List (Key × State)) : Type 0 where
  pub keyed : IsTrue (are_keyed entries)
  pub few : length entries ≤ KEPT_LIMIT
