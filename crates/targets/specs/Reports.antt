-- What `drive` answers where a target is to be checked.
use Rattle.std.specs.Prelude.{◌≡◌, ◌⊎◌, ◌<◌, ◌≤◌, ℕ, nat_lt, List, [], ◌∷◌, length, Option, Some, None, codes, if◌then◌else◌, Result, Ok, Err}
use Rattle.fc_base.specs.declared.fault.Fault.{Fault}
use Rattle.fc_base.specs.declared.fault.Fault.TheVariants.{StateTrailing}
use Rattle.fc_base.specs.declared.numbers.Key.{Key}
use Rattle.fc_base.specs.declared.report.ReportEnd.{ReportEnd}
use Rattle.fc_base.specs.declared.report.ReportEnd.TheVariants.{Whole, AtFault, ReadFault}
use Rattle.fc_base.specs.declared.report.ReportParts.{ReportParts}
use Rattle.job_file.specs.declared.job.Job.{Job}
use Rattle.verify_state.specs.State.{State}
use Rattle.verify_state.specs.Reading.{Answers}
use Rattle.program_io.specs.declared.refusal.PrintedRefusal.{PrintedRefusal}
use Rattle.program_io.specs.Words.{with_blanks_between, with_line_feed, Finishes}
use Rattle.program_io.specs.Refusals.{plain}
use Rattle.program_io.specs.Reports.{report_words}
use Rattle.targets.specs.declared.drive_check.TheConstants.{MAX_STATE}
use Rattle.targets.specs.Texts.{IsText, HasNoText}
use Rattle.targets.specs.Jobs.{key_of, BeginsWithJob, GivesNoJob, Refuses}
use Rattle.targets.specs.Checks.{Checks}

-- The line of a report.
abbrev pub report_line : ReportParts → List ℕ
report_line r = with_blanks_between (codes "report" ∷ report_words r)

-- The status of a report: 2 where the bytes of the target ended early, else 1 where there are
-- faults, else 0.
abbrev pub report_status : ReportParts → ℕ
report_status r = by r.end
  where
    by : ReportEnd → ℕ
    by (ReadFault block) = 2
    by Whole = if nat_lt 0 r.faults then 1 else 0
    by AtFault = if nat_lt 0 r.faults then 1 else 0

-- A state comes behind its length, or a length of 0 in place of one.
abbrev pub IsStateIn : Option (List ℕ) → Option (List ℕ) → Option State → Type 0
IsStateIn old new None = IsText MAX_STATE old new []
IsStateIn old new (Some state) = (bytes : List ℕ) × IsText MAX_STATE old new bytes
    × (length bytes ≤ MAX_STATE) × Answers (Ok state) bytes

-- Why there is no state: its bytes don't come, they are no state, or there are too many of them.
abbrev pub HasNoState : Option (List ℕ) → Fault → Type 0
HasNoState input fault =
    HasNoText MAX_STATE input fault
    ⊎ ((bytes : List ℕ) × (rest : Option (List ℕ)) × IsText MAX_STATE input rest bytes
    × (Answers (Err fault) bytes ⊎ ((MAX_STATE < length bytes) × (fault ≡ StateTrailing))))

-- An input is checked: it has the job, its state or none, and the bytes of the target, and this
-- comes of them.
pub record ChecksInput (key : Key) (input : List ℕ)
    (answer : Result ReportParts Fault) : Type 0 where
  pub job : Job
  pub state : Option State
  pub behind : List ℕ
  pub target : List ℕ
  pub begins : BeginsWithJob key.job input behind job
  pub is_state : IsStateIn (Some behind) (Some target) state
  pub checks : Checks key job.rec state job.fatal target answer

-- Why an input isn't checked: it gives no job, or no state behind it, or its check is refused.
abbrev pub CannotCheck : Key → List ℕ → PrintedRefusal → Type 0
CannotCheck key input refusal =
    GivesNoJob (Some input) key.job refusal
    ⊎ (((job : Job) × (behind : List ℕ) × (fault : Fault) × BeginsWithJob key.job input behind job
    × HasNoState (Some behind) fault × (refusal ≡ plain fault))
    ⊎ ((fault : Fault) × ChecksInput key input (Err fault) × (refusal ≡ plain fault)))

-- The report of the input is written, and the status is its.
pub record WritesReport (key : Key) (input : List ℕ) (old new : Option (List ℕ))
    (status : ℕ) : Type 0 where
  pub report : ReportParts
  pub checks : ChecksInput key input (Ok report)
  pub finishes : Finishes (with_line_feed (report_line report))
      (report_status report) old new status

-- What is answered where a target is to be checked.
abbrev pub ChecksJob : ℕ → ℕ → List ℕ → Option (List ℕ) → Option (List ℕ) → ℕ → Type 0
ChecksJob run number input old new status =
    WritesReport (key_of run number) input old new status
    ⊎ ((refusal : PrintedRefusal) × CannotCheck (key_of run number) input refusal
    × Refuses refusal old new status)
