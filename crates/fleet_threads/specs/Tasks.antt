-- What the checks of a list of tasks answer.
use Rattle.std.specs.Prelude.{◌≡◌, List, ◌∷◌, ◌++◌, Result, Ok, Err}
use Rattle.std.specs.List.{AllZip}
use Rattle.fc_base.specs.declared.fault.Fault.{Fault}
use Rattle.fc_base.specs.declared.report.ReportParts.{ReportParts}
use Rattle.disk_model.specs.File.{File}
use Rattle.recheck.specs.Disk.{ChecksDisk}
use Rattle.fleet_threads.specs.declared.task.CheckTask.{CheckTask}

-- What the check of a task's disk may answer, whatever it leaves of the disk.
abbrev pub Answers : {T : Type 0} → (T → File) → CheckTask T → Result ReportParts Fault → Type 0
Answers {T} file task answer =
    (left : T) × ChecksDisk answer task.key task.rec task.state task.fatal (file task.disk)
    (file left)

-- These are the reports of the tasks, one for each, in their order.
abbrev pub AreReports : {T : Type 0} → (T → File) → List (CheckTask T) → List ReportParts → Type 0
AreReports file tasks reports = AllZip (λ task report. Answers file task (Ok report)) tasks reports

-- This is the refusal of a task before which each has a report.
pub record IsFirstRefusal {T : Type 0} (file : T → File) (tasks : List (CheckTask T))
    (fault : Fault) : Type 0 where
  pub before : List (CheckTask T)
  pub task : CheckTask T
  pub behind : List (CheckTask T)
  pub place : tasks ≡ before ++ task ∷ behind
  pub reports : List ReportParts
  pub reported : AreReports file before reports
  pub refused : Answers file task (Err fault)
