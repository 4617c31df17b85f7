-- What comes of what comes to a node, whichever node it is.
use Rattle.std.specs.Prelude.{◌≡◌, List, [], ◌∷◌, Option, Some, None, Result, Ok, Err, ℕ}
use Rattle.fc_base.specs.Fault.{sort_of}
use Rattle.fc_base.specs.declared.fault.Fault.{Fault}
use Rattle.fc_base.specs.declared.fault.Fault.TheVariants.{FrameBadField}
use Rattle.fc_base.specs.declared.fault.FaultSort.{FaultSort}
use Rattle.fc_base.specs.declared.fault.FaultSort.TheVariants as sorts
use Rattle.node.specs.Steps.{Steps, LeavesNote, Refuses, answered}
use Rattle.messages.specs.declared.frame.Frame.{Frame}
use Rattle.filters.specs.declared.node_step.NodeStep.{NodeStep}
use Rattle.filters.specs.Records.{end_bytes}

-- This is answered, and the node is left so.
abbrev pub Leaves : {S : Type 0} → S → List ℕ → S → List ℕ → Type 0
Leaves at reply now answer = (now ≡ at) × (answer ≡ reply)

-- For want of memory just that is answered, and nothing changes.
abbrev pub WantsMemory : {S : Type 0} → S → S → List ℕ → Type 0
WantsMemory at now answer =
    (fault : Fault) × (sort_of fault ≡ sorts.Memory) × Leaves at (end_bytes (Err fault)) now answer

-- What is asked by the frame that bytes are, by the list of their faults.
abbrev pub with_frame : {A : Type 0} → (Frame → A) → List Fault → Option Frame → Result A Fault
with_frame ask [] (Some frame) = Ok (ask frame)
with_frame ask [] None = Err FrameBadField
with_frame ask (fault ∷ faults) frame = Err fault

-- What comes isn't refused, and is answered as the list says; what was due is noted, and the input
-- is added.
pub record IsTaken {S E X D O : Type 0} (s : Steps S E X D O) (answer_to : E → NodeStep)
    (past : List X) (e : E) (old new : S) (a : NodeStep) : Type 0 where
  pub free : s.words.refusal past e ≡ None
  pub saves : a.saves ≡ (answer_to e).saves
  pub number : a.number ≡ (answer_to e).number
  pub frames : a.frames ≡ (answer_to e).frames
  pub act : a.act ≡ (answer_to e).act
  pub leaves :
      LeavesNote (s.words.due past e) (s.words.spelled (answered s.words past e ∷ past))
      (s.note old) (s.note new)
  pub stands : s.StandsFor (answered s.words past e ∷ past) new

-- What comes to a node isn't answered, by the sort of the fault: for want of memory, or it is
-- refused. No save fails by itself.
abbrev pub NotTaken : {S E X D O : Type 0} → Steps S E X D O → List X → E → FaultSort → Fault → S
    → S → Type 0
NotTaken s past e sorts.Memory fault old new = (s.note new ≡ s.note old) × s.StandsFor past new
NotTaken s past e sorts.Save fault old new = ⊥
NotTaken s past e sorts.Refusal fault old new = Refuses s past e fault old new

-- How what comes to a node ends: it is answered as the list says, or it isn't answered.
abbrev pub InputEnds : {S E X D O : Type 0} → Steps S E X D O → (E → NodeStep) → List X → E → S → S
    → Result NodeStep Fault → Type 0
InputEnds s answer_to past e old new (Ok a) = IsTaken s answer_to past e old new a
InputEnds s answer_to past e old new (Err fault) = NotTaken s past e (sort_of fault) fault old new

-- What comes of what a record says. A body that can't be read leaves the node as it was, and so does
-- one that names nothing open.
abbrev pub BodyEnds : {S E X D O : Type 0} → Steps S E X D O → (E → NodeStep) → List X
    → Result E Fault → S → S → Result NodeStep Fault → Type 0
BodyEnds s answer_to past (Ok e) old new result = InputEnds s answer_to past e old new result
BodyEnds s answer_to past (Err why) old new (Ok a) = ⊥
BodyEnds s answer_to past (Err why) old new (Err fault) = (fault ≡ why) × (new ≡ old)
