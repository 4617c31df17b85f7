-- What a job is checked with, and its exact report.
use Rattle.std.specs.Prelude.{◌≡◌, ℕ, false, List, ◌∷◌, ◌++◌, Option, Some, None, slice_get}
use Rattle.fc_base.specs.declared.report.ReportParts.{ReportParts}
use Rattle.job_file.specs.declared.job.Job.{Job}
use Rattle.verify_state.specs.State.{State}
use Rattle.disk_model.specs.declared.save_outcome.SaveOutcome.{SaveOutcome}
use Rattle.disk_model.specs.declared.save_outcome.SaveOutcome.TheVariants.{Saved}
use Rattle.server_core.specs.Inputs.{PacketInput}
use Rattle.server_core.specs.History.{Opening, Entry, Met}
use Rattle.server_core.specs.Accepted.{IsTaking}
use Rattle.server_core.specs.Answers.{issue}
use Rattle.server_core.specs.Laws.{gives_write}
use Rattle.server_core.specs.Check.{Check, Full, With, check, progress}
use Rattle.net_world.specs.Setup.{Setup}
use Rattle.net_world.specs.Trace.{opening_of, of_server}
use Rattle.net_world.specs.Holders.{key_at}
use Rattle.net_world.specs.Changes.{Change, trace}
use Rattle.net_world.specs.Contents.{content}
use Rattle.net_world.specs.Checks.{key_of, report_of}

-- Since a taking no event at its server was answered with a write.
abbrev pub IsQuiet :
    {opening : Opening} {run j : ℕ} {list : List Entry} {state : State} →
    IsTaking opening run j list state
    → Type 0
IsQuiet {opening} taking =
    (later between : List Entry) (e : PacketInput) (left : SaveOutcome) →
    taking.newer ≡ later ++ Met e left ∷ between →
    gives_write (issue opening (between ++ Met taking.trigger taking.left
    ∷ (taking.between ++ Met taking.start Saved ∷ taking.older)) e) ≡ false

-- A state of the run that is checked, of this server and this job, which was taken here; and since
-- its taking no write was issued here, of any job or run.
pub record IsBased (s j : ℕ) (list : List Entry) (state : State) : Type 0 where
  pub run : ℕ
  pub key : state.key ≡ key_at run s j
  pub taking : IsTaking (opening_of s) run j list state
  pub quiet : IsQuiet taking

-- What a job is checked with: no state in a full pass, else such a one.
abbrev pub IsMadeWith : ℕ → ℕ → List Entry → Option State → Type 0
IsMadeWith s j list None = progress (opening_of s) list j ≡ Some Full
IsMadeWith s j list (Some state) =
    (progress (opening_of s) list j ≡ Some (With state)) × IsBased s j list state

-- The report of job j's check at server s, as it is with the file's content now: by the state that
-- the job is checked with, or in a full pass.
pub record IsExact (w : Setup) (past : List Change) (s j : ℕ) (r : ReportParts) : Type 0 where
  pub now : Check
  pub is_open : check (opening_of s) (of_server s (trace w past)) ≡ Some now
  pub job : Job
  pub has_job : slice_get now.jobs j ≡ Some job
  pub state : Option State
  pub made : IsMadeWith s j (of_server s (trace w past)) state
  pub report : r ≡ report_of (key_of now j) job state (content w past s j)
