-- What `drive tour` answers for a job of a job file.
use Rattle.std.specs.Prelude.{◌≡◌, ◌⊎◌, ℕ, List, [], Option}
use Rattle.job_file.specs.declared.job.Job.{Job}
use Rattle.job_file.specs.declared.job.Phase.TheVariants.{Write}
use Rattle.job_file.specs.JobSet.{phase_in}
use Rattle.program_io.specs.declared.refusal.PrintedRefusal.{PrintedRefusal}
use Rattle.program_io.specs.Words.{Finishes}
use Rattle.program_io.specs.Refusals.{plain}
use Rattle.targets.specs.declared.tour.TourEnd.{TourEnd}
use Rattle.targets.specs.declared.tour.TourEnd.TheVariants.{Over, Refused}
use Rattle.targets.specs.Jobs.{BeginsWithJob, CannotRun, Refuses}
use Rattle.targets.specs.Tours.{Tours}

-- Behind the pieces of a tour stands nothing, and the status is 0; or the line that says why it isn't
-- whole, and it is 2.
abbrev pub FinishesTour : TourEnd → Option (List ℕ) → Option (List ℕ) → ℕ → Type 0
FinishesTour Over old new status = Finishes [] 0 old new status
FinishesTour (Refused fault) old new status = Refuses (plain fault) old new status

-- The job of an input writes, its tour is that of what stands behind the text, and is finished.
pub record RunsTour (number : ℕ) (input : List ℕ) (old new : Option (List ℕ)) (status : ℕ)
    : Type 0 where
  pub job : Job
  pub behind : List ℕ
  pub end : TourEnd
  pub told : Option (List ℕ)
  pub begins : BeginsWithJob number input behind job
  pub writes : phase_in begins.text ≡ Write
  pub tours : Tours number job.rec behind old told end
  pub finishes : FinishesTour end told new status

-- What is answered where a job is to be toured.
abbrev pub ToursJob : ℕ → List ℕ → Option (List ℕ) → Option (List ℕ) → ℕ → Type 0
ToursJob number input old new status =
    RunsTour number input old new status
    ⊎ ((refusal : PrintedRefusal) × CannotRun input number refusal × Refuses refusal old new status)
