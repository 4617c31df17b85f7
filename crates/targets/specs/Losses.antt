-- What a check by a run's state tells of the writes that the run was told as done.
use Rattle.std.specs.Prelude.{◌≡◌, ◌<◌, ◌≤◌, ℕ, Bool, false, List, IsTrue, Some}
use Rattle.fc_base.specs.JobParts.{is_within_limits}
use Rattle.fc_base.specs.Counted.{has}
use Rattle.write_order.specs.Blocks.{block_of}
use Rattle.engine.specs.History.{Event, issued}
use Rattle.engine.specs.Running.{Origin}
use Rattle.engine.specs.Taken.{state_after}
use Rattle.recheck.specs.Expected.{expected_by}
use Rattle.recheck.specs.Faults.{is_fault}
use Rattle.recheck.specs.Laws.{Holds}
use Rattle.targets.specs.declared.notice.Notice.{Notice}
use Rattle.targets.specs.Notices.{told_done}
use Rattle.targets.specs.Runs.{IsHistory}
use Rattle.targets.specs.Fronts.{IsBehind}

-- Write j survives in what the blocks hold: its block holds what j puts there, or what a later write
-- does of those that were ordered by this history.
pub record Survives (origin : Origin) (h : List Event) (held : ℕ → List ℕ) (j : ℕ)
    : Type 0 where
  pub write : ℕ
  pub later : j ≤ write
  pub ordered : write < issued h
  pub goes : block_of origin.job write ≡ block_of origin.job j
  pub holds : Holds origin.key origin.job held (block_of origin.job j) write

-- Each write survives that is told as done.
abbrev pub AllSurvive : Origin → List Notice → List Event → (ℕ → List ℕ) → Type 0
AllSurvive origin notices h held =
    (j : ℕ) → IsTrue (has (told_done notices) j) → Survives origin h held j

-- A block is a fault by the state of this history.
abbrev pub is_fault_after : Origin → List Event → (ℕ → List ℕ) → ℕ → Bool
is_fault_after origin h held block =
    is_fault (expected_by origin.key origin.job (Some (state_after origin h))) held block

-- Where each write survives that the run ahead was told as done, by writes that the run behind has
-- ordered, no block is a fault by the state of the one ahead.
abbrev pub SurvivorsAreNoFaults : Type 0
SurvivorsAreNoFaults =
    (origin : Origin) (first notices : List Notice) (behind ahead : List Event)
    (held : ℕ → List ℕ) →
    IsBehind origin first notices behind ahead → AllSurvive origin notices behind held
    → (block : ℕ) → block < origin.job.blocks → is_fault_after origin ahead held block ≡ false

-- Where a write doesn't survive that a run was told as done, its block is a fault by the run's
-- state.
abbrev pub LossesAreFaults : Type 0
LossesAreFaults =
    (origin : Origin) (notices : List Notice) (h : List Event) (held : ℕ → List ℕ) (j : ℕ) →
    IsTrue (is_within_limits origin.job) → IsHistory origin notices h →
    IsTrue (has (told_done notices) j) → (Survives origin h held j → ⊥)
    → IsTrue (is_fault_after origin h held (block_of origin.job j))
