-- How a trigger, a stop or a verify at a server is kept: without a list of the answers.
use Rattle.std.specs.Prelude.{◌≡◌, ◌⊎◌, ℕ, ◌≤◌, ◌<◌, Bool, true, false, ◌&&◌, ◌||◌, ◌==◌, nat_lt}
use Rattle.std.specs.Prelude.{if◌then◌else◌, List, [], length, take, slice_set, slice_index_or}
use Rattle.std.specs.List.{list_all}
use Rattle.fc_base.specs.declared.limits.TheConstants.{MAX_JOBS}
use Rattle.messages.specs.declared.refusal.Reason.TheVariants as reasons
use Rattle.client_core.specs.declared.outcome.Outcome.{Outcome}
use Rattle.client_core.specs.declared.outcome.Outcome.TheVariants as outcomes
use Rattle.client_core.specs.declared.request_status.RequestStatus.{RequestStatus}
use Rattle.client_core.specs.Requests as requests
use Rattle.client_core.specs.Requests.{Request, Telling, jobs_told, tells_of, has_misfit}

-- What is kept of an open request: how many jobs there are, at most 16, which of them have an
-- answer, and whether one that counts tells of a misfit.
pub record IsOpen (s : RequestStatus) (told : List Telling) : Type 0 where
  pub open_yet : s.outcome ≡ outcomes.Open
  pub jobs : s.jobs ≡ jobs_told told
  pub few : s.jobs ≤ MAX_JOBS
  pub any : (told ≡ []) ⊎ (1 ≤ jobs_told told)
  pub told_of : (job : ℕ) → job < length s.told
      → slice_index_or s.told job false ≡ tells_of told job
  pub misfit : s.misfit ≡ has_misfit told

-- What is kept of a request.
abbrev pub IsRequestKept : RequestStatus → Request → Type 0
IsRequestKept s requests.Unasked = s.outcome ≡ outcomes.None
IsRequestKept s (requests.Open told) = IsOpen s told
IsRequestKept s requests.Served = s.outcome ≡ outcomes.Good
IsRequestKept s (requests.Denied reason) = s.outcome ≡ outcomes.Refused reason

-- The first answer fixes the number of jobs.
abbrev pub jobs_with : ℕ → ℕ → ℕ
jobs_with jobs more = if jobs == 0 then more else jobs

-- Each job below the number of jobs has an answer.
abbrev pub all_told : ℕ → List Bool → Bool
all_told jobs told = list_all (λ has_answer. has_answer) (take jobs told)

-- How a request ends once each job has an answer.
abbrev pub outcome_with : Bool → Bool → Outcome
outcome_with all misfit =
    if all then (if misfit then outcomes.Refused reasons.Misfit else outcomes.Good)
    else outcomes.Open

-- How a request stands by its answers: how many jobs there are, which of them have one, and whether
-- some state was a misfit.
abbrev pub standing_of : ℕ → List Bool → Bool → RequestStatus
standing_of jobs told misfit = record {
  outcome = outcome_with (all_told jobs told) misfit;
  jobs = jobs;
  told = told;
  misfit = misfit;
}

-- One more answer to an open request.
abbrev pub with_answer : Telling → RequestStatus → RequestStatus
with_answer t s =
    standing_of (jobs_with s.jobs t.jobs) (slice_set s.told t.job true)
    (s.misfit || (t.misfit && nat_lt t.job (jobs_with s.jobs t.jobs)))
