-- What holds of the jobs of every text.
use Rattle.std.specs.Prelude.{◌≡◌, ℕ, ◌<◌, ◌≤◌, ◌^◌, List, length, IsTrue, None}
use Rattle.std.specs.List.{AllByRecursion}
use Rattle.fc_base.specs.declared.limits.TheConstants.{MAX_JOBS}
use Rattle.fc_base.specs.JobParts.{is_within_limits}
use Rattle.job_file.specs.declared.job.Job.{Job}
use Rattle.job_file.specs.JobSet.{jobs_of, refusal_of}

-- There are 1 to 16 jobs, and each is within the limits.
pub record AreWithinLimits (jobs : List Job) : Type 0 where
  pub some : 1 ≤ length jobs
  pub few : length jobs ≤ MAX_JOBS
  pub within : AllByRecursion (λ job. IsTrue (is_within_limits job.rec)) jobs

-- The jobs of each text without faults are 1 to 16, and each is within the limits.
abbrev pub JobsAreWithinLimits : Type 0
JobsAreWithinLimits = (text : List ℕ) → refusal_of text ≡ None → AreWithinLimits (jobs_of text)

-- The seed is a number of 64 bits, and the pattern a byte.
pub record FitsItsWidths (job : Job) : Type 0 where
  pub seed : job.rec.seed < 2 ^ 64
  pub pattern : job.rec.pattern < 256

-- The seed and the pattern of each job of a text fit their widths, whether the text has faults or
-- not.
abbrev pub JobsFit : Type 0
JobsFit = (text : List ℕ) → AllByRecursion FitsItsWidths (jobs_of text)
