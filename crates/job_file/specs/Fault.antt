-- The refusals of a job file: their rows in the table of faults, and the first of several.
use Rattle.std.specs.Prelude.{◌≡◌, ◌⊎◌, ℕ, Bool, List, [], ◌∷◌, Option, Some, None, Result, Ok, Err, slice_get, if◌then◌else◌}
use Rattle.fc_base.specs.declared.fault.Fault.{Fault}
use Rattle.fc_base.specs.declared.fault.Fault.TheVariants as base
use Rattle.job_file.specs.declared.fault.JobFault.{JobFault}
use Rattle.job_file.specs.declared.fault.JobFault.TheVariants.{TooLong, NotAscii, BadLine, UnknownOption, BadValue, NoJobs}
use Rattle.job_file.specs.declared.fault.JobFault.TheVariants.{TooManyJobs, NoSize, OutOfLimits, SharedFile, MixedPhases, NoMemory}

-- Each refusal of a job file is a row of the table.
abbrev pub fault_of : JobFault → Fault
fault_of TooLong = base.JobTooLong
fault_of NotAscii = base.NotAscii
fault_of (BadLine line) = base.BadLine
fault_of (UnknownOption line) = base.UnknownOption
fault_of (BadValue line) = base.BadValue
fault_of NoJobs = base.JobNoJobs
fault_of TooManyJobs = base.TooManyJobs
fault_of (NoSize job) = base.NoSize
fault_of (OutOfLimits job) = base.OutOfLimits
fault_of (SharedFile job) = base.SharedFile
fault_of MixedPhases = base.MixedPhases
fault_of NoMemory = base.JobNoMemory

-- A refusal of a line has the line's number, and one of a job the job's.
abbrev pub line_or_job_of : JobFault → Option ℕ
line_or_job_of (BadLine line) = Some line
line_or_job_of (UnknownOption line) = Some line
line_or_job_of (BadValue line) = Some line
line_or_job_of (NoSize job) = Some job
line_or_job_of (OutOfLimits job) = Some job
line_or_job_of (SharedFile job) = Some job
line_or_job_of _ = None

-- A fault where a test holds.
abbrev pub when : Bool → JobFault → List JobFault
when test fault = if test then fault ∷ [] else []

-- A layer finds no fault, or the first of its faults, unless memory ran out.
abbrev pub Checks : {X : Type 0} → Result X JobFault → List JobFault → Type 0
Checks (Ok found) faults = faults ≡ []
Checks (Err fault) faults = (fault ≡ NoMemory) ⊎ (slice_get faults 0 ≡ Some fault)

-- A layer finds no fault and gives this value, or it finds the first of its faults, unless memory
-- ran out.
abbrev pub Gives : {X Y : Type 0} → (X → Y) → Result X JobFault → List JobFault → Y → Type 0
Gives view (Ok found) faults value = (faults ≡ []) × (view found ≡ value)
Gives view (Err fault) faults value = (fault ≡ NoMemory) ⊎ (slice_get faults 0 ≡ Some fault)
