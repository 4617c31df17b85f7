-- What the slots of the tasks hold, once these were checked.
use Rattle.std.specs.Prelude.{◌≡◌, List, ◌∷◌, ◌++◌, Some, Result, Ok, Err}
use Rattle.std.specs.List.{AllZip}
use Rattle.fc_base.specs.declared.fault.Fault.{Fault}
use Rattle.fc_base.specs.declared.report.ReportParts.{ReportParts}
use Rattle.disk_model.specs.File.{File}
use Rattle.fleet_threads.specs.declared.task.CheckTask.{CheckTask}
use Rattle.fleet_threads.specs.declared.slot.Slot.{Slot}
use Rattle.fleet_threads.specs.Tasks.{Answers}

-- The slot holds an answer to this task.
pub record IsAnswered {T : Type 0} (file : T → File) (task : CheckTask T)
    (slot : Slot T) : Type 0 where
  pub answer : Result ReportParts Fault
  pub held : slot.answer ≡ Some answer
  pub answers : Answers file task answer

-- The slots hold answers to these tasks, place by place.
abbrev pub AreAnswered : {T : Type 0} → (T → File) → List (CheckTask T) → List (Slot T) → Type 0
AreAnswered file tasks slots = AllZip (IsAnswered file) tasks slots

-- The slots hold these reports.
abbrev pub ReportsOf : {T : Type 0} → List (Slot T) → List ReportParts → Type 0
ReportsOf slots reports = AllZip (λ slot report. slot.answer ≡ Some (Ok report)) slots reports

-- A slot holds this refusal, and each before it a report.
pub record IsFirstRefused {T : Type 0} (slots : List (Slot T)) (fault : Fault) : Type 0 where
  pub before : List (Slot T)
  pub slot : Slot T
  pub behind : List (Slot T)
  pub place : slots ≡ before ++ slot ∷ behind
  pub reports : List ReportParts
  pub reported : ReportsOf before reports
  pub refused : slot.answer ≡ Some (Err fault)
