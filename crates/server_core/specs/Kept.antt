-- What a server keeps of its present run.
use Rattle.std.specs.Prelude.{◌≡◌, ℕ, ◌+◌, ◌<◌, IsTrue, Bool, true, List, [], ◌∷◌, Option, Some, None, if◌then◌else◌, Result, Ok, Err}
use Rattle.fc_base.specs.declared.limits.TheConstants.{MAX_SERVERS}
use Rattle.fc_base.specs.declared.fault.Fault.{Fault}
use Rattle.fc_base.specs.declared.fault.Fault.TheVariants.{NotInFlight}
use Rattle.fc_base.specs.Counted.{has}
use Rattle.job_file.specs.declared.job.Job.{Job}
use Rattle.messages.specs.declared.body.Body.{Body}
use Rattle.messages.specs.declared.body.Body.TheVariants as bodies
use Rattle.messages.specs.Ranges.{is_run}
use Rattle.verify_state.specs.State.{State}
use Rattle.messages.specs.declared.refusal.Act.{Act}
use Rattle.engine.specs.Running.{running_of}
use Rattle.engine.specs.Taken.{state_now}
use Rattle.server_core.specs.declared.job_run.JobRun.{JobRun}
use Rattle.server_core.specs.declared.job_run.End.{End}
use Rattle.server_core.specs.declared.job_run.End.TheVariants as ends
use Rattle.server_core.specs.Request.{Request}
use Rattle.server_core.specs.Run.{Work, Halt, Triggered, Stopped, halt_of, is_halted, origin_of, history}
use Rattle.server_core.specs.Words.{Staged}
use Rattle.server_core.specs.Taken.{taken_by_halt}
use Rattle.server_core.specs.Answers.{marks}
use Rattle.server_core.specs.Laws.{IsSet}

-- A run as it is kept: its number, how it came to its end, its jobs, and what is kept of each.
pub record Kept : Type 0 where
  pub number : ℕ
  pub end : Option End
  pub jobs : List Job
  pub kept : List JobRun

-- What is kept of how a run came to its end: of a Trigger its act.
abbrev pub end_kept : Option Halt → Option End
end_kept None = None
end_kept (Some (Triggered act before)) = Some (ends.Taken act)
end_kept (Some Stopped) = Some ends.Stopped

-- What is kept of job j: what an engine keeps of its history, whether a Trigger takes its state,
-- the state that was taken, and whether the client has told that it is kept.
abbrev pub job_kept : Work → ℕ → Job → JobRun
job_kept w j job =
    let origin = origin_of w j job in
    record {
      engine = running_of origin (is_halted w) (history origin w.since);
      save = job.save;
      taken = taken_by_halt w j (halt_of w.run w.since);
      marked = has (marks w.run w.since) j;
    }

-- What f gives for jobs, numbered on from j.
abbrev pub map_numbered : {A : Type 0} → (ℕ → Job → A) → ℕ → List Job → List A
map_numbered f j [] = []
map_numbered f j (job ∷ jobs) = f j job ∷ map_numbered f (j + 1) jobs

-- What is kept of jobs, numbered on from j.
abbrev pub jobs_kept : Work → ℕ → List Job → List JobRun
jobs_kept w j jobs = map_numbered (job_kept w) j jobs

-- All that is kept of a run.
abbrev pub kept_of : Work → Kept
kept_of w = record {
  number = w.run;
  end = end_kept (halt_of w.run w.since);
  jobs = w.jobs;
  kept = jobs_kept w 0 w.jobs;
}

-- Just this is kept of the run, whose jobs are a set, and whose number and server are in their
-- ranges.
pub record RunIs (kept : Kept) (w : Work) : Type 0 where
  pub is : kept ≡ kept_of w
  pub jobs : IsSet w.jobs
  pub run : IsTrue (is_run w.run)
  pub server : w.server < MAX_SERVERS

-- The state that was taken, else that of now, where the job saves one.
abbrev pub state_or : Option State → Bool → State → Option State
state_or (Some state) save now = Some state
state_or None save now = if save then Some now else None

-- The state of a job: the one that was taken, else that of now, where the job saves one.
abbrev pub state_kept : JobRun → Option State
state_kept k = state_or k.taken k.save (state_now k.engine)

-- What is kept of a job, once it issues no more writes.
abbrev pub stopped_kept : JobRun → JobRun
stopped_kept k = record k { engine = record k.engine { stopped = true } }

-- What is kept of a job, once its state is taken and it issues no more writes.
abbrev pub taken_kept : JobRun → JobRun
taken_kept k = stopped_kept (record k { taken = state_kept k })

-- P holds of each run of which this is kept.
abbrev pub EachRun : Kept → (Work → Type 0) → Type 0
EachRun kept P = (w : Work) → RunIs kept w → P w

-- Behind this request, the new is kept of each run of which the old was kept.
abbrev pub GoesOn : Kept → Kept → Request → Type 0
GoesOn old new x = EachRun old (λ w. RunIs new (record w { since = x ∷ w.since }))

-- A ticket that names an open write is accepted, and any other is refused as not in flight.
abbrev pub open_answer : Bool → Result (Unit {0}) Fault
open_answer names = if names then Ok tt else Err NotInFlight

-- The act of the Trigger that has taken the run, if one has.
abbrev pub act_of_end : Option End → Option Act
act_of_end (Some (ends.Taken act)) = Some act
act_of_end (Some ends.Stopped) = None
act_of_end None = None

-- The run that begins with a staged set.
abbrev pub new_work : ℕ → ℕ → Staged → Work
new_work me now_boot s = record {
  server = me;
  boot = now_boot;
  run = s.run;
  jobs = s.jobs;
  since = [];
}

-- This is kept of the jobs of a run of which nothing was asked yet; they are a set, and its number
-- and server are in their ranges.
pub record Begins (number : ℕ) (jobs : List Job) (kept : List JobRun) (w : Work) : Type 0 where
  pub run_is : w.run ≡ number
  pub jobs_are : w.jobs ≡ jobs
  pub since : w.since ≡ []
  pub kept_is : kept ≡ jobs_kept w 0 jobs
  pub set : IsSet jobs
  pub run : IsTrue (is_run number)
  pub server : w.server < MAX_SERVERS

-- There is a run of which nothing was asked yet, and this is kept of its jobs.
abbrev pub IsBegun : ℕ → List Job → List JobRun → Type 0
IsBegun number jobs kept = ∥ ((w : Work) × Begins number jobs kept w) ∥₁

-- P holds of each such run.
abbrev pub EachBegun : ℕ → List Job → List JobRun → (Work → Type 0) → Type 0
EachBegun number jobs kept P = (w : Work) → Begins number jobs kept w → P w

-- What was asked of a run before the Trigger that took it; all, where none did.
abbrev pub before_halt : Option Halt → List Request → List Request
before_halt (Some (Triggered act before)) since = before
before_halt (Some Stopped) since = since
before_halt None since = since

-- What was asked of a run before its states were taken; all, where they were not.
abbrev pub asked_before : Work → List Request
asked_before w = before_halt (halt_of w.run w.since) w.since

-- What is said of a job: its state, or that it has none.
abbrev pub state_body : ℕ → ℕ → ℕ → Option State → Body
state_body run jobs j (Some state) = bodies.State jobs state
state_body run jobs j None = bodies.NoState run j jobs
