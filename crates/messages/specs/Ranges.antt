-- The ranges of what a body says.
use Rattle.std.specs.Prelude.{ℕ, ◌^◌, Bool, true, ◌&&◌, ◌==◌, nat_le, nat_lt, List, length}
use Rattle.fc_base.specs.Report.{is_report}
use Rattle.fc_base.specs.declared.limits.TheConstants.{MAX_GENERATION, MAX_JOBS, MAX_SERVERS, MAX_TEXT}
use Rattle.verify_state.specs.State.{IsState}
use Rattle.messages.specs.declared.body.Body.{Body}
use Rattle.messages.specs.declared.body.Body.TheVariants.{Jobs, JobsOk, Start, Started, Trigger, State, NoState, StateAck, Stop, Stopped}
use Rattle.messages.specs.declared.body.Body.TheVariants.{Verify, WantState, Saved, NoSaved, Report, Refused, Copy, CopyOk, Fetch, Granted}
use Rattle.messages.specs.declared.refusal.RefusedRequest.{RefusedRequest}
use Rattle.messages.specs.declared.refusal.RefusedRequest.TheVariants as asks
use Rattle.messages.specs.declared.refusal.Refusal.{Refusal}
use Rattle.messages.specs.declared.refusal.Reason.{Reason}
use Rattle.messages.specs.declared.refusal.Reason.TheVariants as reasons

-- A number of eight bytes.
abbrev pub is_word : ℕ → Bool
is_word n = nat_lt n (2 ^ 64)

-- Runs count from 1.
abbrev pub is_run : ℕ → Bool
is_run n = nat_le 1 n && is_word n

-- Attempts count from 1.
abbrev pub is_attempt : ℕ → Bool
is_attempt n = nat_le 1 n && is_word n

-- A job file has 1 to 16 jobs.
abbrev pub is_jobs : ℕ → Bool
is_jobs n = nat_le 1 n && nat_le n MAX_JOBS

-- A job's number is below 16.
abbrev pub is_job : ℕ → Bool
is_job n = nat_lt n MAX_JOBS

-- A job is one of so many.
abbrev pub is_job_of : ℕ → ℕ → Bool
is_job_of job jobs = is_jobs jobs && nat_lt job jobs

-- A server's number is below 8.
abbrev pub is_server_no : ℕ → Bool
is_server_no n = nat_lt n MAX_SERVERS

-- Generations count from 1, and fit four bytes.
abbrev pub is_generation : ℕ → Bool
is_generation n = nat_le 1 n && nat_le n MAX_GENERATION

-- A job file has at most 16,384 bytes.
abbrev pub is_text : List ℕ → Bool
is_text text = nat_le (length text) MAX_TEXT

-- A refusal names a job, and how many there are, where a state didn't fit; else both are 0.
abbrev pub is_job_refused : Reason → ℕ → ℕ → Bool
is_job_refused reasons.Misfit job jobs = is_job_of job jobs
is_job_refused _ job jobs = (job == 0) && (jobs == 0)

-- A refusal names the attempt of a Verify; else it is 0.
abbrev pub is_attempt_refused : RefusedRequest → ℕ → Bool
is_attempt_refused asks.Verify attempt = is_attempt attempt
is_attempt_refused _ attempt = attempt == 0

-- The ranges of a refusal.
abbrev pub is_refusal : Refusal → Bool
is_refusal r =
    is_run r.run && is_word r.value && is_job_refused r.reason r.job r.jobs
    && is_attempt_refused r.asked r.attempt

-- The ranges, by kind.
abbrev pub is_body : Body → Bool
is_body (Jobs run text) = is_run run && is_text text
is_body (JobsOk run jobs) = is_run run && is_jobs jobs
is_body (Start run) = is_run run
is_body (Started run) = is_run run
is_body (Trigger run act) = is_run run
is_body (State jobs state) = is_job_of state.key.job jobs
is_body (NoState run job jobs) = is_run run && is_job_of job jobs
is_body (StateAck run job) = is_run run && is_job job
is_body (Stop run) = is_run run
is_body (Stopped run) = is_run run
is_body (Verify run attempt text) = is_run run && is_attempt attempt && is_text text
is_body (WantState run attempt job) = is_run run && is_attempt attempt && is_job job
is_body (Saved attempt state) = is_attempt attempt
is_body (NoSaved run attempt job) = is_run run && is_attempt attempt && is_job job
is_body (Report run attempt job jobs report) =
    is_run run && is_attempt attempt && is_job_of job jobs && is_report report
is_body (Refused r) = is_refusal r
is_body (Copy state) = true
is_body (CopyOk run server job) = is_run run && is_server_no server && is_job job
is_body (Fetch generation) = is_generation generation
is_body (Granted generation) = is_generation generation

-- What a verify state keeps, where a body has one.
abbrev pub KeepsState : Body → Type 0
KeepsState (State jobs state) = IsState state
KeepsState (Saved attempt state) = IsState state
KeepsState (Copy state) = IsState state
KeepsState _ = Unit {0}
