-- The rules of a job's history: those of its window, and those that the job adds.
use Rattle.std.specs.Prelude.{◌≡◌, ℕ, ◌<◌, ◌==◌, Bool, false, List, [], ◌∷◌, nat_lt, length}
use Rattle.std.specs.List.{list_any}
use Rattle.fc_base.specs.declared.record.JobParts.{JobParts}
use Rattle.write_order.specs.Blocks.{block_of}
use Rattle.engine.specs.History.{Event, issue, done, fail, failures, in_flight}
use Rattle.engine.specs.WindowRules as window

-- Some write has failed.
abbrev pub has_failed : List Event → Bool
has_failed h = nat_lt 0 (length (failures h))

-- One of these writes goes to the block.
abbrev pub any_goes_to : JobParts → ℕ → List ℕ → Bool
any_goes_to job block writes = list_any (λ j. block_of job j == block) writes

-- No more writes are issued than the job has, none to a block that a write in flight goes to, and
-- none after a failure.
abbrev pub KeepsToItsJob : JobParts → List Event → Type 0
KeepsToItsJob job [] = Unit {0}
KeepsToItsJob job (issue k ∷ h) =
    KeepsToItsJob job h
    × (k < job.total)
    × (any_goes_to job (block_of job k) (in_flight h) ≡ false)
    × (has_failed h ≡ false)
KeepsToItsJob job (done k ∷ h) = KeepsToItsJob job h
KeepsToItsJob job (fail k ∷ h) = KeepsToItsJob job h

-- All rules of a job's history: those of its window (writes are issued as 0, 1, 2 and so on, each
-- with fewer than depth in flight and the window clear, and only an open write completes or fails),
-- and those of the job.
pub record IsLegal (job : JobParts) (h : List Event) : Type 0 where
  pub by_window : window.IsLegal job.depth job.window h
  pub by_job : KeepsToItsJob job h
