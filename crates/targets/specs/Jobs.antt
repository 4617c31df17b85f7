-- What `drive` answers for a job of a job file.
use Rattle.std.specs.Prelude.{◌≡◌, ◌⊎◌, ℕ, List, Option, Some, None, slice_get}
use Rattle.fc_base.specs.declared.limits.TheConstants.{MAX_TEXT}
use Rattle.fc_base.specs.declared.numbers.Key.{Key}
use Rattle.fc_base.specs.declared.fault.Fault.{Fault}
use Rattle.fc_base.specs.declared.fault.Fault.TheVariants.{WrongPhase, NoJob, NoMemory, JobNoMemory}
use Rattle.job_file.specs.declared.job.Job.{Job}
use Rattle.job_file.specs.declared.job.Phase.TheVariants.{Write}
use Rattle.job_file.specs.JobSet.{refusal_of, jobs_of, phase_in}
use Rattle.verify_state.specs.Spelling.{spelling}
use Rattle.engine.specs.Running.{Origin}
use Rattle.program_io.specs.declared.refusal.PrintedRefusal.{PrintedRefusal}
use Rattle.program_io.specs.Words.{with_line_feed, Finishes}
use Rattle.program_io.specs.Refusals.{plain, refusal_line, RefusesText}
use Rattle.targets.specs.declared.job_setup.JobSetup.{JobSetup}
use Rattle.targets.specs.declared.writing.RunEnd.{RunEnd}
use Rattle.targets.specs.declared.writing.RunEnd.TheVariants.{Taken, Refused}
use Rattle.targets.specs.Texts.{IsText, HasNoText}
use Rattle.targets.specs.Runs.{Runs}

-- Server 0's job of this number in this run.
abbrev pub key_of : ℕ → ℕ → Key
key_of run job = record { run = run; server = 0; job = job }

-- A text has no fault, and this is its job of this number.
pub record IsJobOf (text : List ℕ) (number : ℕ) (job : Job) : Type 0 where
  pub sound : refusal_of text ≡ None
  pub is : slice_get (jobs_of text) number ≡ Some job

-- Why a text gives no job of this number: its first fault; it has no such job; or there is no
-- memory for it.
abbrev pub HasNoJob : List ℕ → ℕ → PrintedRefusal → Type 0
HasNoJob text number refusal =
    RefusesText refusal text
    ⊎ (((refusal_of text ≡ None) × (slice_get (jobs_of text) number ≡ None)
    × (refusal ≡ plain NoJob))
    ⊎ (refusal ≡ plain JobNoMemory))

-- Why an input gives no job: it gives no text, or its text gives none.
abbrev pub GivesNoJob : Option (List ℕ) → ℕ → PrintedRefusal → Type 0
GivesNoJob input number refusal =
    ((fault : Fault) × HasNoText MAX_TEXT input fault × (refusal ≡ plain fault))
    ⊎ ((text : List ℕ) × (rest : Option (List ℕ)) × IsText MAX_TEXT input rest text
    × HasNoJob text number refusal)

-- A text has the job of this number, and it is the one that is asked for.
pub record IsAsked (text : List ℕ) (number : ℕ) (asked : JobSetup) : Type 0 where
  pub job : Job
  pub is_job : IsJobOf text number job
  pub rec : asked.rec ≡ job.rec
  pub fatal : asked.fatal ≡ job.fatal
  pub phase : asked.phase ≡ phase_in text

-- The job that is asked for stands in a text that comes behind its length.
pub record ReadsJob (number : ℕ) (old new : Option (List ℕ)) (asked : JobSetup) : Type 0 where
  pub text : List ℕ
  pub is_text : IsText MAX_TEXT old new text
  pub is_asked : IsAsked text number asked

-- The one line of a refusal is written, and the status is 2.
abbrev pub Refuses : PrintedRefusal → Option (List ℕ) → Option (List ℕ) → ℕ → Type 0
Refuses refusal old new status = Finishes (with_line_feed (refusal_line refusal)) 2 old new status

-- Behind the orders of a run stands its state, and the status is 0; or why there is none, want of
-- memory at last, and it is 2.
abbrev pub FinishesRun : RunEnd → Option (List ℕ) → Option (List ℕ) → ℕ → Type 0
FinishesRun (Taken state) old new status =
    Finishes (spelling state) 0 old new status ⊎ Refuses (plain NoMemory) old new status
FinishesRun (Refused fault) old new status = Refuses (plain fault) old new status

-- A run is that of an input, and is finished; or there was no memory for it.
abbrev pub RunsRest : Origin → List ℕ → Option (List ℕ) → Option (List ℕ) → ℕ → Type 0
RunsRest origin rest old new status =
    ((end : RunEnd) × (ordered : Option (List ℕ)) × Runs origin rest old ordered end
    × FinishesRun end ordered new status)
    ⊎ Refuses (plain NoMemory) old new status

-- An input begins with a job file that has the job of this number, and this stands behind it.
pub record BeginsWithJob (number : ℕ) (input behind : List ℕ) (job : Job) : Type 0 where
  pub text : List ℕ
  pub is_text : IsText MAX_TEXT (Some input) (Some behind) text
  pub is_job : IsJobOf text number job

-- The job of an input is run: it writes, and its run is that of what stands behind the text.
pub record RunsJob (run number : ℕ) (input : List ℕ) (old new : Option (List ℕ))
    (status : ℕ) : Type 0 where
  pub job : Job
  pub behind : List ℕ
  pub begins : BeginsWithJob number input behind job
  pub writes : phase_in begins.text ≡ Write
  pub runs : RunsRest (record { boot = 0; key = key_of run number; job = job.rec }) behind old new
      status

-- The job of an input isn't run: there is none, or it doesn't write.
abbrev pub CannotRun : List ℕ → ℕ → PrintedRefusal → Type 0
CannotRun input number refusal =
    GivesNoJob (Some input) number refusal
    ⊎ ((text : List ℕ) × (rest : Option (List ℕ)) × IsText MAX_TEXT (Some input) rest text
    × (refusal_of text ≡ None)
    × (phase_in text ≡ Write → ⊥) × (refusal ≡ plain WrongPhase))

-- What is answered where a job is to be written.
abbrev pub WritesJob : ℕ → ℕ → List ℕ → Option (List ℕ) → Option (List ℕ) → ℕ → Type 0
WritesJob run number input old new status =
    RunsJob run number input old new status
    ⊎ ((refusal : PrintedRefusal) × CannotRun input number refusal × Refuses refusal old new status)
