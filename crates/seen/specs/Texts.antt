-- Which job files runs and attempts have, as it is seen: those of the calls that were told their
-- numbers.
use Rattle.std.specs.Prelude.{ℕ, Bool, false, ◌==◌, if◌then◌else◌, List, [], ◌∷◌, Option, Some, None, slice_get, Result, Ok}
use Rattle.std.specs.Option.{option_or, option_and_then}
use Rattle.fc_base.specs.declared.fault.Fault.{Fault}
use Rattle.fc_base.specs.declared.numbers.Key.{Key}
use Rattle.job_file.specs.declared.job.Job.{Job}
use Rattle.job_file.specs.JobSet.{jobs_of}
use Rattle.net_world.specs.declared.told.Told.{Told}
use Rattle.net_world.specs.declared.told.WorldAnswer.{WorldAnswer}
use Rattle.net_world.specs.declared.told.WorldAnswer.TheVariants.{Run, Attempt}
use Rattle.net_world.specs.Happenings.{Happening, Begin, Verify}
use Rattle.seen.specs.Observations.{Observation}

-- An answer tells this number of a run.
abbrev pub is_run : ℕ → WorldAnswer → Bool
is_run run (Run r) = r == run
is_run run _ = false

-- An answer tells this number of an attempt.
abbrev pub is_attempt : ℕ → WorldAnswer → Bool
is_attempt attempt (Attempt a) = a == attempt
is_attempt attempt _ = false

-- The job file of a Begin that was told the number of this run.
abbrev pub text_with : ℕ → Happening → Result Told Fault → Option (List ℕ)
text_with run (Begin text) (Ok told) = if is_run run told.answer then Some text else None
text_with run _ _ = None

-- The job file with which a run was begun.
abbrev pub text_of : ℕ → List Observation → Option (List ℕ)
text_of run [] = None
text_of run (o ∷ past) = option_or (text_with run o.event o.told) (text_of run past)

-- What is to be checked: a run, by a job file.
pub record Asked : Type 0 where
  pub run : ℕ
  pub text : List ℕ

-- What a Verify asks that was told the number of this attempt.
abbrev pub asked_with : ℕ → Happening → Result Told Fault → Option Asked
asked_with attempt (Verify run text) (Ok told) =
    if is_attempt attempt told.answer then Some (record { run = run; text = text }) else None
asked_with attempt _ _ = None

-- What an attempt is to check.
abbrev pub asked_of : ℕ → List Observation → Option Asked
asked_of attempt [] = None
asked_of attempt (o ∷ past) = option_or (asked_with attempt o.event o.told) (asked_of attempt past)

-- Job j of this job file.
abbrev pub job_in : ℕ → List ℕ → Option Job
job_in j text = slice_get (jobs_of text) j

-- The job of a key.
abbrev pub job_of : Key → List Observation → Option Job
job_of key seen = option_and_then (job_in key.job) (text_of key.run seen)
