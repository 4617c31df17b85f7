-- What the report of a server's check tells of the writes of a job, by the blocks that came.
use Rattle.std.specs.Prelude.{◌≡◌, ◌↔◌, ◌<◌, ◌≤◌, ℕ, List, IsTrue, Some}
use Rattle.fc_base.specs.Counted.{has}
use Rattle.fc_base.specs.JobParts.{is_within_limits}
use Rattle.fc_base.specs.declared.numbers.Key.{Key}
use Rattle.fc_base.specs.declared.record.JobParts.{JobParts}
use Rattle.fc_base.specs.declared.report.ReportParts.{ReportParts}
use Rattle.write_order.specs.Blocks.{block_of}
use Rattle.engine.specs.History.{Event, is_done}
use Rattle.engine.specs.Legal.{IsLegal}
use Rattle.engine.specs.Running.{Origin}
use Rattle.engine.specs.Taken.{state_after}
use Rattle.verify_state.specs.State.{State}
use Rattle.recheck.specs.Laws.{HasLost, Holds}
use Rattle.server_core.specs.History.{Opening}
use Rattle.filters.specs.UnderWay.{BlockBytes, UnderWay, IsOver, held_by}
use Rattle.filters.specs.ServerAt.{ServerAt}
use Rattle.filters.specs.ServerTurns.{IsNew}

-- A check of job j begins, as the server's words say here; these blocks came to it since; and it is
-- over, with this report.
pub record Reports (opening : Opening) (at : ServerAt) (j : ℕ) (came : List BlockBytes)
    (r : ReportParts) : Type 0 where
  pub first : UnderWay
  pub new : IsNew opening at j first
  pub over : IsOver (record first { came = came }) r

-- Whose writes a check goes by: those of the server's last run.
abbrev pub key_of : {opening : Opening} → {at : ServerAt} → {j : ℕ} → {came : List BlockBytes}
    → {r : ReportParts} → Reports opening at j came r → Key
key_of {opening} {at} {j} c = record { run = c.new.shown.last_run; server = opening.me; job = j }

-- A block has lost its writes, by the state of the check and the blocks that came: it holds neither
-- its last completed write, nor one in flight to it.
abbrev pub HasLostIn : {opening : Opening} → {at : ServerAt} → {j : ℕ} → {came : List BlockBytes}
    → {r : ReportParts} → Reports opening at j came r → ℕ → Type 0
HasLostIn {came = came} c block =
    HasLost (key_of c) c.new.job.rec c.new.state (held_by came) block

-- A report tells of no fault just where no block of the job has lost its writes.
abbrev pub FaultsAreLosses : Type 0
FaultsAreLosses =
    (opening : Opening) (at : ServerAt) (j : ℕ) (came : List BlockBytes) (r : ReportParts)
    (c : Reports opening at j came r) →
    (r.faults ≡ 0) ↔ ((block : ℕ) → block < c.new.job.rec.blocks → HasLostIn c block → ⊥)

-- Each block that a report lists has lost its writes.
abbrev pub ListedHaveLost : Type 0
ListedHaveLost =
    (opening : Opening) (at : ServerAt) (j : ℕ) (came : List BlockBytes) (r : ReportParts)
    (c : Reports opening at j came r) →
    (block : ℕ) → IsTrue (has r.first block) → HasLostIn c block

-- Write k survives in what the blocks hold: its block holds what k puts there, or what a later write
-- does of the first n.
pub record Survives (key : Key) (job : JobParts) (n : ℕ) (held : ℕ → List ℕ) (k : ℕ)
    : Type 0 where
  pub write : ℕ
  pub later : k ≤ write
  pub issued : write < n
  pub goes : block_of job write ≡ block_of job k
  pub holds : Holds key job held (block_of job k) write

-- Write k survives in the blocks that came, by this state of the check.
abbrev pub SurvivesIn : {opening : Opening} → {at : ServerAt} → {j : ℕ} → {came : List BlockBytes}
    → {r : ReportParts} → Reports opening at j came r → State → ℕ → Type 0
SurvivesIn {came = came} c state k =
    Survives (key_of c) c.new.job.rec state.issued (held_by came) k

-- Where each write survives that the state counts, the report tells of no fault.
abbrev pub SurvivorsAreNoFaults : Type 0
SurvivorsAreNoFaults =
    (opening : Opening) (at : ServerAt) (j : ℕ) (came : List BlockBytes) (r : ReportParts)
    (c : Reports opening at j came r) (state : State) →
    c.new.state ≡ Some state
    → ((k : ℕ) → IsTrue (has state.counted k) → SurvivesIn c state k) → r.faults ≡ 0

-- A state is the one that is taken behind a legal history of the job that is checked.
pub record IsTakenOf (job : JobParts) (state : State) (h : List Event) : Type 0 where
  pub origin : Origin
  pub job_is : origin.job ≡ job
  pub limits : IsTrue (is_within_limits origin.job)
  pub legal : IsLegal origin.job h
  pub taken : state ≡ state_after origin h

-- Where a write doesn't survive that had completed by the time that the state was taken, the report
-- tells of a fault.
abbrev pub LossesAreFaults : Type 0
LossesAreFaults =
    (opening : Opening) (at : ServerAt) (j : ℕ) (came : List BlockBytes) (r : ReportParts)
    (c : Reports opening at j came r) (state : State) (h : List Event) →
    c.new.state ≡ Some state → IsTakenOf c.new.job.rec state h
    → (k : ℕ) → IsTrue (is_done h k) → (SurvivesIn c state k → ⊥) → 0 < r.faults
