-- What a server keeps of its open check.
use Rattle.std.specs.Prelude.{◌≡◌, ℕ, ◌==◌, ◌&&◌, Bool, true, false, List, ◌∷◌, Option, Some, None, length, nat_lt, set, slice_get, if◌then◌else◌}
use Rattle.fc_base.specs.Fault.{number_of}
use Rattle.job_file.specs.declared.job.Job.{Job}
use Rattle.messages.specs.declared.refusal.Refusal.{Refusal}
use Rattle.messages.specs.declared.refusal.RefusedRequest.TheVariants.{Verify}
use Rattle.messages.specs.declared.refusal.Reason.TheVariants.{Misfit}
use Rattle.verify_state.specs.State.{State}
use Rattle.verify_state.specs.Misfit.{misfit}
use Rattle.server_core.specs.declared.progress.Progress as kept
use Rattle.server_core.specs.declared.progress.Progress.TheVariants as kept_as
use Rattle.server_core.specs.Request.{Request}
use Rattle.server_core.specs.Check.{Check, Progress, Wanting, Full, With, Refused, Done, progress_with_state, progress_at_first, progress_after}
use Rattle.server_core.specs.Answers.{is_ready}
use Rattle.server_core.specs.Kept.{map_numbered}

-- How far the check of a job is, by what is kept of it.
abbrev pub progress_of : kept.Progress → Progress
progress_of kept_as.Wanting = Wanting
progress_of kept_as.Full = Full
progress_of (kept_as.With state) = With state
progress_of (kept_as.Refused fault) = Refused (number_of fault)
progress_of (kept_as.Done report) = Done report

-- How far the check of a job is at first.
abbrev pub progress_begun : Job → Progress
progress_begun job = progress_at_first job.load

-- The job waits for its state.
abbrev pub is_wanting : Option Progress → Bool
is_wanting (Some Wanting) = true
is_wanting _ = false

-- A check as it is kept: its run, its attempt and its jobs, and how far the check of each is.
pub record CheckKept : Type 0 where
  pub run : ℕ
  pub attempt : ℕ
  pub jobs : List Job
  pub progress : List Progress

-- How far the check of job j is.
abbrev pub job_progress : Check → ℕ → Job → Progress
job_progress c j job = progress_after c j job c.since

-- All that is kept of a check.
abbrev pub check_kept : Check → CheckKept
check_kept c = record {
  run = c.run;
  attempt = c.attempt;
  jobs = c.jobs;
  progress = map_numbered (job_progress c) 0 c.jobs;
}

-- P holds of each check of which this is kept.
abbrev pub EachCheck : CheckKept → (Check → Type 0) → Type 0
EachCheck kept P = (c : Check) → kept ≡ check_kept c → P c

-- Behind this request, the new is kept of each check of which the old was kept.
abbrev pub GoesOn : CheckKept → CheckKept → Request → Type 0
GoesOn old new x = EachCheck old (λ c. new ≡ check_kept (record c { since = x ∷ c.since }))

-- The job waits for its state, in this attempt.
abbrev pub wants_in : CheckKept → ℕ → ℕ → Bool
wants_in kept attempt job = (attempt == kept.attempt) && is_wanting (slice_get kept.progress job)

-- The check of the job may be made, in this attempt.
abbrev pub ready_in : CheckKept → ℕ → ℕ → Bool
ready_in kept attempt job = (kept.attempt == attempt) && is_ready (slice_get kept.progress job)

-- There is an open check by which the check of the job may be made, in this attempt.
abbrev pub ready_now : Option CheckKept → ℕ → ℕ → Bool
ready_now None attempt job = false
ready_now (Some kept) attempt job = ready_in kept attempt job

-- What a state makes of its job, which waits for one: it is held where it fits, and else refused.
abbrev pub judgement_of_job : ℕ → ℕ → State → Option Job → Option Progress
judgement_of_job me run state None = None
judgement_of_job me run state (Some job) =
    Some (progress_with_state (misfit state
    (record { run = run; server = me; job = state.key.job }) job.rec) state Wanting)

-- What a state that comes in an attempt makes of its job, where that waits for one.
abbrev pub judgement : ℕ → CheckKept → ℕ → State → Option Progress
judgement me kept attempt state =
    if wants_in kept attempt state.key.job
    then judgement_of_job me kept.run state (slice_get kept.jobs state.key.job) else None

-- The refusal of a state that doesn't fit job j, with the number of why.
abbrev pub misfit_of : CheckKept → ℕ → ℕ → Refusal
misfit_of kept j value = record {
  asked = Verify;
  reason = Misfit;
  job = j;
  jobs = length kept.jobs;
  run = kept.run;
  attempt = kept.attempt;
  value = value;
}

-- What a state that comes in an attempt makes of its job, where the open check waits for one.
abbrev pub judgement_now : ℕ → Option CheckKept → ℕ → State → Option Progress
judgement_now me None attempt state = None
judgement_now me (Some kept) attempt state = judgement me kept attempt state

-- The open check has a job with this number.
abbrev pub has_job : Option CheckKept → ℕ → Bool
has_job None j = false
has_job (Some kept) j = nat_lt j (length kept.progress)

-- A check where it is noted how far a job is.
abbrev pub with_progress : ℕ → Progress → CheckKept → CheckKept
with_progress j p kept = record kept { progress = set kept.progress j p }
