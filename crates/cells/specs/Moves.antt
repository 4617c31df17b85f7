-- How what comes to a node ends, whichever node it is: what it answers and sends, and for which
-- list it then stands.
use Rattle.std.specs.Prelude.{◌≡◌, ℕ, List, [], reverse, Result, Ok, Err}
use Rattle.fc_base.specs.declared.fault.Fault.{Fault}
use Rattle.fc_base.specs.declared.fault.Fault.TheVariants.{NoMemory, FrameBadField}
use Rattle.fc_base.specs.declared.fault.FaultSort.{FaultSort}
use Rattle.fc_base.specs.declared.fault.FaultSort.TheVariants as sorts
use Rattle.fc_base.specs.Fault.{sort_of}
use Rattle.cells.specs.declared.answer.Reply.{Reply}
use Rattle.cells.specs.declared.entry.HistoryEntry.{HistoryEntry}
use Rattle.node.specs.declared.power.Power.{Power}
use Rattle.cells.specs.declared.node_cell.Cell.{Cell}
use Rattle.node.specs.Kinds.{Kind, Stands}
use Rattle.cells.specs.CoreRules.{CoreRules, rules_of}
use Rattle.cells.specs.Rules.{Ask, Meets}
use Rattle.cells.specs.Replay.{Ends, Makes}

-- What comes is answered so, and these frames are sent, as the rules have it; and the node then
-- stands for the list that they give.
pub record Moves {C N E X D O : Type 0} (n : Kind C N E X D O) (c : CoreRules E X) (past : List X) (ask : Ask E)
    (answer : Result Reply Fault) (sent : List (List ℕ)) (new : Power C N) : Type 0 where
  pub after : List X
  pub ends : Ends (rules_of n.core.words c) past ask answer sent after
  pub stands : Stands n after new
  pub ranges : c.InRange past → c.InRange after

-- What comes is refused. But where a tag is dropped, nothing changes, too.
pub record Refuses {C N E X D O : Type 0} (n : Kind C N E X D O) (c : CoreRules E X) (past : List X) (e : E)
    (fault : Fault) (new : Power C N) : Type 0 where
  pub moves : Moves n c past (Meets e) (Err fault) [] new
  pub unchanged : (fault ≡ FrameBadField → ⊥) → Stands n past new

-- How a step ends that isn't answered.
abbrev pub Faults : {C N E X D O : Type 0} → Kind C N E X D O → CoreRules E X →
    List X → E → FaultSort → Fault → Power C N → Type 0
Faults n c past e sorts.Memory fault new = (fault ≡ NoMemory) × Stands n past new
Faults n c past e sorts.Save fault new = Moves n c past (Meets e) (Err fault) [] new
Faults n c past e sorts.Refusal fault new = Refuses n c past e fault new

-- How a step ends, which is answered so, by these frames, or isn't.
abbrev pub StepEnds : {C N E X D O : Type 0} → Kind C N E X D O → CoreRules E X →
    List X → E → Power C N → Result (Reply × List (List ℕ)) Fault → Type 0
StepEnds n c past e new (Ok outs) = Moves n c past (Meets e) (Ok outs.0) outs.1 new
StepEnds n c past e new (Err fault) = Faults n c past e (sort_of fault) fault new

-- What is asked isn't done: for want of memory nothing changes.
abbrev pub Fails : {C N E X D O : Type 0} → Kind C N E X D O → CoreRules E X →
    List X → Ask E → FaultSort → Fault → Power C N → Type 0
Fails n c past ask sorts.Memory fault new = (fault ≡ NoMemory) × Stands n past new
Fails n c past ask sorts.Save fault new = Moves n c past ask (Err fault) [] new
Fails n c past ask sorts.Refusal fault new = Moves n c past ask (Err fault) [] new

-- How a task ends that asks this, and sends nothing.
abbrev pub TaskEnds : {C N E X D O : Type 0} → Kind C N E X D O → CoreRules E X →
    List X → Ask E → Power C N → Result Reply Fault → Type 0
TaskEnds n c past ask new (Ok said) = Moves n c past ask (Ok said) [] new
TaskEnds n c past ask new (Err fault) = Fails n c past ask (sort_of fault) fault new

-- What a step is answered, and the frames that it sends.
abbrev pub outcome_of : Result (Reply × List (List ℕ)) Fault → (Result Reply Fault × List (List ℕ))
outcome_of (Ok outs) = (Ok outs.0, outs.1)
outcome_of (Err fault) = (Err fault, [])

-- What is true of every node under its lock: its state stands for a list that its history makes, in
-- which all is within its ranges.
pub record IsKept {C N E X D O : Type 0} (n : Kind C N E X D O) (c : CoreRules E X) (history : List HistoryEntry)
    (state : Power C N) : Type 0 where
  pub past : List X
  pub made : Makes (rules_of n.core.words c) history past
  pub stands : Stands n past state
  pub ranges : c.InRange past

-- What is true of a cell is that of its node, by its history.
abbrev pub Keeps : {C N E X D O : Type 0} → Kind C N E X D O → CoreRules E X → Cell C N → Type 0
Keeps n c cell = IsKept n c (reverse cell.history.items) cell.power
