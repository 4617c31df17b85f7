-- Two runs of one job, of which one is told only the first notices of the other: as where a run on
-- the machine under test is told of a write only once that of a witness was.
use Rattle.std.specs.Prelude.{◌≡◌, ◌<◌, ℕ, true, false, List, ◌++◌, IsTrue}
use Rattle.fc_base.specs.JobParts.{is_within_limits}
use Rattle.fc_base.specs.Counted.{has}
use Rattle.engine.specs.History.{Event, issued, open_writes}
use Rattle.engine.specs.Running.{Origin}
use Rattle.engine.specs.Taken.{state_after}
use Rattle.targets.specs.declared.notice.Notice.{Notice}
use Rattle.targets.specs.Notices.{told_bytes, told_done, told_failed}
use Rattle.targets.specs.Orders.{orders}
use Rattle.targets.specs.Runs.{IsHistory}

-- Notices have at most one history.
abbrev pub HistoriesAreOne : Type 0
HistoriesAreOne =
    (origin : Origin) (notices : List Notice) (a b : List Event) →
    IsHistory origin notices a → IsHistory origin notices b → a ≡ b

-- One run of a job was told some notices, and `ahead` is its history; another was told the first of
-- them, and maybe no more, and `behind` is its history. In a list of notices the last stands first.
pub record IsBehind (origin : Origin) (first notices : List Notice) (behind ahead : List Event)
    : Type 0 where
  pub more : List Notice
  pub front : notices ≡ more ++ first
  pub first_history : IsHistory origin first behind
  pub history : IsHistory origin notices ahead

-- A run is behind where the bytes of its notices are a front of those of the other's.
abbrev pub FrontsAreBehind : Type 0
FrontsAreBehind =
    (origin : Origin) (first notices : List Notice) (behind ahead : List Event) (rest : List ℕ) →
    IsTrue (is_within_limits origin.job) →
    IsHistory origin first behind → IsHistory origin notices ahead
    → told_bytes notices ≡ told_bytes first ++ rest → IsBehind origin first notices behind ahead

-- The history of the run ahead is that of the one behind, with newer events.
abbrev pub HistoriesGoOn : Type 0
HistoriesGoOn =
    (origin : Origin) (first notices : List Notice) (behind ahead : List Event) →
    IsBehind origin first notices behind ahead →
    (newer : List Event) × (ahead ≡ newer ++ behind)

-- The orders of the run behind are a front of those of the one ahead.
abbrev pub OrdersGoOn : Type 0
OrdersGoOn =
    (origin : Origin) (first notices : List Notice) (behind ahead : List Event) →
    IsBehind origin first notices behind ahead → (more : List ℕ)
    × (orders origin.key origin.job ahead ≡ orders origin.key origin.job behind ++ more)

-- Each write that the run behind has ordered is issued by the state of the one ahead.
abbrev pub OrderedAreIssued : Type 0
OrderedAreIssued =
    (origin : Origin) (first notices : List Notice) (behind ahead : List Event) →
    IsBehind origin first notices behind ahead → (k : ℕ) →
    k < issued behind → k < (state_after origin ahead).issued

-- A state counts just the writes that its run was told as done.
abbrev pub ToldAreCounted : Type 0
ToldAreCounted =
    (origin : Origin) (notices : List Notice) (h : List Event) →
    IsHistory origin notices h → (k : ℕ) →
    has (state_after origin h).counted k ≡ has (told_done notices) k

-- A write that the run behind has ordered is open for the one ahead, until that one is told of it.
abbrev pub OrderedAreOpen : Type 0
OrderedAreOpen =
    (origin : Origin) (first notices : List Notice) (behind ahead : List Event) →
    IsBehind origin first notices behind ahead → (k : ℕ) →
    k < issued behind → has (told_done notices) k ≡ false → has (told_failed notices) k ≡ false
    → has (open_writes ahead) k ≡ true
