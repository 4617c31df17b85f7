-- What a world finds in its servers: an open write, and a job that is ready to be checked.
use Rattle.std.specs.Prelude.{◌≡◌, ◌⊎◌, ℕ, ◌<◌, true, List, Option, Some, None, slice_get, Result, Ok, Err}
use Rattle.fc_base.specs.declared.limits.TheConstants.{MAX_JOBS}
use Rattle.fc_base.specs.declared.fault.Fault.{Fault}
use Rattle.fc_base.specs.declared.fault.Fault.TheVariants.{NotInFlight}
use Rattle.fc_base.specs.declared.fault.FaultSort.TheVariants.{Refusal}
use Rattle.fc_base.specs.declared.record.JobParts.{JobParts}
use Rattle.fc_base.specs.Fault.{sort_of}
use Rattle.job_file.specs.declared.job.Job.{Job}
use Rattle.verify_state.specs.State.{State}
use Rattle.engine.specs.declared.issue.Ticket.{Ticket}
use Rattle.engine.specs.Answers.{ticket_of}
use Rattle.engine.specs.Running.{Origin}
use Rattle.messages.specs.declared.node.Node.TheVariants.{Server}
use Rattle.disk_model.specs.MemNotes.{Saved, note_of}
use Rattle.server_core.specs.declared.server.Server.{Server as Core}
use Rattle.server_core.specs.FrameEnds.{StandsFor as ServerStands}
use Rattle.server_core.specs.Check.{Check, Progress, Full, With, check, progress_after}
use Rattle.net_world.specs.declared.ready.Ready.{Ready}
use Rattle.net_world.specs.Setup.{Setup}
use Rattle.net_world.specs.Trace.{of_server, opening_of}
use Rattle.net_world.specs.Changes.{Change, trace}
use Rattle.net_world.specs.Writes.{open_at}
use Rattle.net_world.specs.Checks.{key_of, end_of_check}
use Rattle.net_world.specs.Barred.{unless_on, unless_open}
use Rattle.server_core.specs.Hearing.{is_up}
use Rattle.net_world.specs.Serving.{entries}

-- This is server s, which is there and on, and stands for its list.
pub record IsRunning (w : Setup) (past : List Change) (s : ℕ) (core : Core Saved) : Type 0 where
  pub on : unless_on w (trace w past) (Server s) ≡ None
  pub stands : ServerStands note_of core (opening_of s) (entries past s)
  pub up : is_up (opening_of s) (entries past s) ≡ true

-- The server is off or isn't there.
abbrev pub IsAway : Setup → List Change → ℕ → Fault → Type 0
IsAway w past s fault =
    (unless_on w (trace w past) (Server s) ≡ Some fault) × (sort_of fault ≡ Refusal)

-- Write k of job j at server s is open: its ticket, and what its job does.
pub record IsOpen (w : Setup) (past : List Change) (s j k : ℕ) (ticket : Ticket)
    (rec : JobParts) : Type 0 where
  pub there : unless_open w (trace w past) s j k ≡ None
  pub on : unless_on w (trace w past) (Server s) ≡ None
  pub below : j < MAX_JOBS
  pub origin : Origin
  pub is_open : open_at (trace w past) s j k ≡ Some origin
  pub ticket_is : ticket ≡ ticket_of origin k
  pub rec_is : rec ≡ origin.job

-- The open write is found, or the world refuses what asks for it.
abbrev pub FindsWrite : Setup → List Change → ℕ → ℕ → ℕ → Result (Ticket × JobParts) Fault → Type 0
FindsWrite w past s j k (Ok found) = IsOpen w past s j k found.0 found.1
FindsWrite w past s j k (Err fault) =
    (unless_open w (trace w past) s j k ≡ Some fault) × (sort_of fault ≡ Refusal)

-- The state with which a check is made.
abbrev pub state_of : Progress → Option State
state_of (With state) = Some state
state_of _ = None

-- A job is ready in this check: in a full pass, or with its state.
abbrev pub IsMadeBy : Check → ℕ → Job → Option State → Type 0
IsMadeBy c j job None = progress_after c j job c.since ≡ Full
IsMadeBy c j job (Some state) = progress_after c j job c.since ≡ With state

-- Job j of the open check at server s is ready to be checked.
pub record IsReady (w : Setup) (past : List Change) (s j : ℕ) (ready : Ready) : Type 0 where
  pub on : unless_on w (trace w past) (Server s) ≡ None
  pub below : j < MAX_JOBS
  pub now : Check
  pub is_open : check (opening_of s) (of_server s (trace w past)) ≡ Some now
  pub job : Job
  pub has_job : slice_get now.jobs j ≡ Some job
  pub made : IsMadeBy now j job ready.state
  pub boot : ready.boot ≡ now.boot
  pub attempt : ready.attempt ≡ now.attempt
  pub key : ready.key ≡ key_of now j
  pub rec_is : ready.rec ≡ job.rec
  pub fatal : ready.fatal ≡ job.fatal

-- The server is off or isn't there; or it has no such job that is ready.
abbrev pub IsUnready : Setup → List Change → ℕ → ℕ → Fault → Type 0
IsUnready w past s j fault =
    IsAway w past s fault
    ⊎ ((unless_on w (trace w past) (Server s) ≡ None) × (fault ≡ NotInFlight)
    × (end_of_check w past s j ≡ None))

-- The job is found, or why it isn't.
abbrev pub FindsReady : Setup → List Change → ℕ → ℕ → Result Ready Fault → Type 0
FindsReady w past s j (Ok ready) = IsReady w past s j ready
FindsReady w past s j (Err fault) = IsUnready w past s j fault
