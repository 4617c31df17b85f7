-- What holds of states and of their spellings alone.
use Rattle.std.specs.Prelude.{◌≡◌, ℕ, false, ◌<◌, List, [], ◌++◌, length, IsTrue}
use Rattle.std.specs.List.{AllByRecursion}
use Rattle.fc_base.specs.declared.numbers.Key.{Key}
use Rattle.fc_base.specs.declared.record.JobParts.{JobParts}
use Rattle.verify_state.specs.State.{State, IsState, IsSame}
use Rattle.verify_state.specs.Misfit.{misfit}
use Rattle.verify_state.specs.Spelling.{spelling}
use Rattle.verify_state.specs.Reading.{is_layout_1, is_layout_2, faults_of, state_in, state_listed}

-- The spelling of a state is of layout 2, has 136 bytes and no fault, and says that state.
pub record IsReadBack (s : State) : Type 0 where
  pub layout : IsTrue (is_layout_2 (spelling s))
  pub long : length (spelling s) ≡ 136
  pub sound : faults_of (spelling s) ≡ []
  pub said : state_in (spelling s) ≡ s

-- Each state is read back from its spelling.
abbrev pub ReadsBack : Type 0
ReadsBack = (s : State) → IsState s → IsReadBack s

-- Bytes that have no fault, and aren't of layout 1, are the spelling of the state that they say.
abbrev pub IsSpelled : Type 0
IsSpelled =
    (bytes : List ℕ) → AllByRecursion (λ byte. byte < 256) bytes → faults_of bytes ≡ [] →
    is_layout_1 bytes ≡ false → spelling (state_in bytes) ≡ bytes

-- Bytes of layout 1 that have no fault say the state of their list.
abbrev pub SaysItsList : Type 0
SaysItsList =
    (bytes : List ℕ) → faults_of bytes ≡ [] → IsTrue (is_layout_1 bytes)
    → state_in bytes ≡ state_listed bytes

-- Whatever bytes have no fault say a state in its ranges.
abbrev pub SaysAState : Type 0
SaysAState =
    (bytes : List ℕ) → AllByRecursion (λ byte. byte < 256) bytes → faults_of bytes ≡ []
    → IsState (state_in bytes)

-- Bytes without a fault, of either layout, are no proper prefix of others.
abbrev pub IsNoPrefix : Type 0
IsNoPrefix =
    (bytes rest : List ℕ) → faults_of bytes ≡ [] → faults_of (bytes ++ rest) ≡ [] → rest ≡ []

-- Two states that are the same misfit a key and a job for the same reason, or both fit them.
abbrev pub FitAlike : Type 0
FitAlike = (a b : State) → IsSame a b → (key : Key) (job : JobParts)
    → misfit a key job ≡ misfit b key job
