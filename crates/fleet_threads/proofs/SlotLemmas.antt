-- From slots to tasks.
use Rattle.std.proofs.Common.{◌≡◌, ℕ, suc, ◌+◌, ◌<◌, List, [], ◌∷◌, ◌++◌, length, map, take, drop}
use Rattle.std.proofs.Common.{get_or, Some, Result, Ok, Err, refl, sym, ap, subst, ◌∙◌, arith}
use Rattle.std.proofs.Math.Seq.{split_at}
use Rattle.std.proofs.lemmas.List.{take_more}
use Rattle.std.proofs.lemmas.Slice.Zip.{all_zipped_more}
use Rattle.fc_base.specs.declared.fault.Fault.{Fault}
use Rattle.fc_base.specs.declared.report.ReportParts.{ReportParts}
use Rattle.disk_model.specs.File.{File}
use Rattle.fleet_threads.specs.declared.task.CheckTask.{CheckTask}
use Rattle.fleet_threads.specs.declared.slot.Slot.{Slot}
use Rattle.fleet_threads.specs.Tasks.{Answers, AreReports, IsFirstRefusal}
use Rattle.fleet_threads.specs.Slots.{IsAnswered, AreAnswered, ReportsOf, IsFirstRefused}

-- One slot more has a report.
pub reports_more : {T : Type 0} (slots : List (Slot T)) (reports : List ReportParts) (i : ℕ) (slot : Slot T) (report : ReportParts) → i < length slots
    → slot ≡ get_or slots i slot → slot.answer ≡ Some (Ok report) → ReportsOf (take i slots) reports → ReportsOf (take (i + 1) slots) (reports ++ report ∷ [])
reports_more {T} slots reports i slot report low at held reported =
    let more : take (i + 1) slots ≡ take i slots ++ slot ∷ [] = take_more slots i slot low ∙ ap (λ (s : Slot T). take i slots ++ s ∷ []) (sym at) in
    rw more (all_zipped_more (λ (s : Slot T) (r : ReportParts). s.answer ≡ Some (Ok r)) (take i slots) reports slot report reported held)

-- The slot at place i is the first that has a refusal.
pub first_refused : {T : Type 0} (slots : List (Slot T)) (reports : List ReportParts) (i : ℕ) (slot : Slot T) (fault : Fault) → i < length slots
    → slot ≡ get_or slots i slot → slot.answer ≡ Some (Err fault) → ReportsOf (take i slots) reports → IsFirstRefused slots fault
first_refused {T} slots reports i slot fault low at held reported = record {
  before = take i slots;
  slot = slot;
  behind = drop (suc i) slots;
  place = split_at slots i slot low ∙ ap (λ (s : Slot T). take i slots ++ s ∷ drop (suc i) slots) (sym at);
  reports = reports;
  reported = reported;
  refused = held;
}

-- A slot holds one answer.
held_answer : {T : Type 0} (file : T → File) (task : CheckTask T) (slot : Slot T) (answer : Result ReportParts Fault) → IsAnswered file task slot
    → slot.answer ≡ Some answer → Answers file task answer
held_answer file task slot answer answered held =
    let both : Some answered.answer ≡ Some answer = sym answered.held ∙ held in
    let same : answered.answer ≡ answer = cc in
    subst (λ (a : Result ReportParts Fault). Answers file task a) same answered.answers

-- Place by place, the slots hold the answers to the tasks.
pub each_answered : {T : Type 0} (file : T → File) (olds news : List (Slot T)) → length news ≡ length olds
    → ((i : ℕ) (d : Slot T) → i < length olds → IsAnswered file (get_or olds i d).task (get_or news i d)) → AreAnswered file (map (λ slot. slot.task) olds) news
each_answered file [] [] len each = tt
each_answered file [] (new ∷ news) len each = absurd (omega arith)
each_answered file (old ∷ olds) [] len each = absurd (omega arith)
each_answered file (old ∷ olds) (new ∷ news) len each =
    (each 0 old (omega arith), each_answered file olds news (omega arith) (λ i d low. each (suc i) d (omega arith)))

-- The reports that the slots hold are those of the tasks.
pub all_reported : {T : Type 0} (file : T → File) (tasks : List (CheckTask T)) (slots : List (Slot T)) (reports : List ReportParts)
    → AreAnswered file tasks slots → ReportsOf slots reports → AreReports file tasks reports
all_reported file [] [] [] answered held = tt
all_reported file [] [] (r ∷ rs) answered held = absurd held
all_reported file [] (s ∷ ss) reports answered held = absurd answered
all_reported file (t ∷ ts) [] reports answered held = absurd answered
all_reported file (t ∷ ts) (s ∷ ss) [] answered held = absurd held
all_reported file (t ∷ ts) (s ∷ ss) (r ∷ rs) answered held =
    (held_answer file t s (Ok r) answered.0 held.0, all_reported file ts ss rs answered.1 held.1)

-- The first refusal that the slots hold is the first of the tasks.
refusal_behind : {T : Type 0} (file : T → File) (tasks : List (CheckTask T)) (before : List (Slot T)) (slot : Slot T) (behind : List (Slot T))
    (reports : List ReportParts) (fault : Fault) → AreAnswered file tasks (before ++ slot ∷ behind) → ReportsOf before reports → slot.answer ≡ Some (Err fault)
    → IsFirstRefusal file tasks fault
refusal_behind file [] [] slot behind reports fault answered held refused = absurd answered
refusal_behind file [] (s ∷ ss) slot behind reports fault answered held refused = absurd answered
refusal_behind file (t ∷ ts) [] slot behind reports fault answered held refused = record {
  before = [];
  task = t;
  behind = ts;
  place = refl;
  reports = [];
  reported = tt;
  refused = held_answer file t slot (Err fault) answered.0 refused;
}
refusal_behind file (t ∷ ts) (s ∷ ss) slot behind [] fault answered held refused = absurd held
refusal_behind file (t ∷ ts) (s ∷ ss) slot behind (r ∷ rs) fault answered held refused =
    let rest = refusal_behind file ts ss slot behind rs fault answered.1 held.1 refused in record {
      before = t ∷ rest.before;
      task = rest.task;
      behind = rest.behind;
      place = ap (λ (l : List (CheckTask _)). t ∷ l) rest.place;
      reports = r ∷ rest.reports;
      reported = (held_answer file t s (Ok r) answered.0 held.0, rest.reported);
      refused = rest.refused;
    }

pub first_refusal : {T : Type 0} (file : T → File) (tasks : List (CheckTask T)) (slots : List (Slot T)) (fault : Fault) → AreAnswered file tasks slots
    → IsFirstRefused slots fault → IsFirstRefusal file tasks fault
first_refusal {T} file tasks slots fault answered first =
    refusal_behind file tasks first.before first.slot first.behind first.reports fault
    (subst (λ (l : List (Slot T)). AreAnswered file tasks l) first.place answered) first.reported first.refused
