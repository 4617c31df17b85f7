-- The jobs that a text gives to a phase.
use Rattle.std.specs.Prelude.{ℕ, Bool, true, false, List, Option, Some, None, Result, Ok, Err, if◌then◌else◌}
use Rattle.fc_base.specs.declared.fault.Fault.TheVariants.{WrongPhase}
use Rattle.fc_base.specs.Fault.{number_of}
use Rattle.job_file.specs.declared.fault.JobFault.{JobFault}
use Rattle.job_file.specs.declared.job.Job.{Job}
use Rattle.job_file.specs.declared.job.Phase.{Phase}
use Rattle.job_file.specs.declared.job.Phase.TheVariants.{Read, Write}
use Rattle.job_file.specs.Fault.{fault_of}
use Rattle.job_file.specs.JobSet.{jobs_of, phase_in, refusal_of}

-- The phases are the same.
abbrev pub is_phase : Phase → Phase → Bool
is_phase Read Read = true
is_phase Read Write = false
is_phase Write Read = false
is_phase Write Write = true

-- The jobs where the text is not refused and is of the right phase; else the number of its refusal,
-- or that of a wrong phase.
abbrev pub jobs_by : Option JobFault → Bool → List Job → Result (List Job) ℕ
jobs_by None right jobs = if right then Ok jobs else Err (number_of WrongPhase)
jobs_by (Some fault) right jobs = Err (number_of (fault_of fault))

-- The jobs that a text gives to a phase, or the number of what is wrong with it.
unfoldable pub jobs_for : Phase → List ℕ → Result (List Job) ℕ
jobs_for phase text = jobs_by (refusal_of text) (is_phase phase (phase_in text)) (jobs_of text)
