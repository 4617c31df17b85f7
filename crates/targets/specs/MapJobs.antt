-- What `drive` answers where a target is to be mapped.
use Rattle.std.specs.Prelude.{◌≡◌, ◌⊎◌, ℕ, Bool, false, IsTrue, List, length, Option, Some, Ok, if◌then◌else◌}
use Rattle.fc_base.specs.declared.fault.Fault.TheVariants.{OutOfLimits}
use Rattle.fc_base.specs.declared.numbers.Key.{Key}
use Rattle.fc_base.specs.declared.report.ReportParts.{ReportParts}
use Rattle.job_file.specs.declared.job.Job.{Job}
use Rattle.verify_state.specs.State.{State}
use Rattle.program_io.specs.declared.refusal.PrintedRefusal.{PrintedRefusal}
use Rattle.recheck.specs.Expected.{expected_by}
use Rattle.recheck.specs.Check.{FitsIfAny, start}
use Rattle.targets.specs.declared.map.Map.{Map}
use Rattle.targets.specs.Jobs.{BeginsWithJob, Refuses}
use Rattle.targets.specs.Reports.{CannotCheck, IsStateIn, report_status}
use Rattle.targets.specs.Maps.{MapsTarget}
use Rattle.targets.specs.Units.{unit_fits}

-- An input begins with a job file that has the job of this key, and a state that fits it, or none;
-- and the blocks of the target stand behind.
pub record BeginsMap (key : Key) (input target : List ℕ) (job : Job)
    (state : Option State) : Type 0 where
  pub behind : List ℕ
  pub begins : BeginsWithJob key.job input behind job
  pub is_state : IsStateIn (Some behind) (Some target) state
  pub fits : FitsIfAny state key job.rec (Ok tt)

-- The target of an input is mapped by its job and its state, and by a unit that fits its blocks.
pub record MapsInput (key : Key) (unit : Option ℕ) (input : List ℕ)
    (old new : Option (List ℕ)) (status : ℕ) : Type 0 where
  pub job : Job
  pub state : Option State
  pub target : List ℕ
  pub begins : BeginsMap key input target job state
  pub fits : IsTrue (unit_fits unit job.rec.bs)
  pub maps : MapsTarget unit (expected_by key job.rec state) target old new status

-- The blocks of the job are past a limit: the unit doesn't fit them.
abbrev pub misfit : ℕ → PrintedRefusal
misfit number = record { fault = OutOfLimits; line_or_job = Some number }

-- Why a target isn't mapped: what refuses a check refuses a map; or the unit doesn't fit.
abbrev pub CannotMap : Key → Option ℕ → List ℕ → PrintedRefusal → Type 0
CannotMap key unit input refusal =
    CannotCheck key input refusal
    ⊎ ((job : Job) × (state : Option State) × (target : List ℕ)
    × BeginsMap key input target job state × (unit_fits unit job.rec.bs ≡ false)
    × (refusal ≡ misfit key.job))

-- What is answered where a target is to be mapped.
abbrev pub MapsJob : Key → Option ℕ → List ℕ → Option (List ℕ) → Option (List ℕ) → ℕ → Type 0
MapsJob key unit input old new status =
    MapsInput key unit input old new status
    ⊎ ((refusal : PrintedRefusal) × CannotMap key unit input refusal
    × Refuses refusal old new status)

-- A map is started by the front of an input, and this is left.
pub record StartsMap (key : Key) (input : List ℕ) (left : Option (List ℕ))
    (map : Map) : Type 0 where
  pub job : Job
  pub state : Option State
  pub target : List ℕ
  pub leaves : left ≡ Some target
  pub begins : BeginsMap key input target job state
  pub check : map.check ≡ start (expected_by key job.rec state) false
  pub room : length map.bytes.items ≡ job.rec.bs
  pub wanted : length map.wanted.items ≡ job.rec.bs
  pub none : map.unread ≡ false

-- The status of a report, where a checked block could not be read or none such.
abbrev pub status_with : Bool → ReportParts → ℕ
status_with unread r = if unread then 2 else report_status r
