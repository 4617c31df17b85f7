-- What a node of a world is, whichever core it has: one that has power, or none, whose saves never
-- fail by themselves. It stands for lists of what came to it, the newest first.
use Rattle.std.specs.Prelude.{◌≡◌, ◌⊎◌, Bool, true, false, not, List, ◌∷◌}
use Rattle.std.specs.Prelude.{Some, None, is_some, Result, Ok, Err}
use Rattle.fc_base.specs.declared.fault.Fault.{Fault}
use Rattle.fc_base.specs.declared.fault.Fault.TheVariants.{NoMemory, NodeOff, NodeOn}
use Rattle.fc_base.specs.declared.fault.Fault.TheVariants as faults
use Rattle.fc_base.specs.declared.fault.FaultSort.{FaultSort}
use Rattle.fc_base.specs.declared.fault.FaultSort.TheVariants as sorts
use Rattle.fc_base.specs.Fault.{sort_of}
use Rattle.disk_model.specs.declared.save_outcome.SaveOutcome.TheVariants.{NoSave}
use Rattle.node.specs.Steps.{answered}
use Rattle.node.specs.declared.power.Power.{Power}
use Rattle.node.specs.declared.power.Power.TheVariants.{On, Off, Lent}
use Rattle.node.specs.Kinds.{Kind}
use Rattle.node.specs.Kinds.{lost_by}

-- A node that has power is on, which the list says, and its core stands for the list; of one that
-- has none, which the list says, the notes say what the list says.
abbrev pub Stands : {C N E X D O : Type 0} → Kind C N E X D O → List X → Power C N → Type 0
Stands k past (On core) = k.core.StandsFor past core × (k.core.words.is_up past ≡ true)
Stands k past (Off notes) = k.Says past notes × (k.core.words.is_up past ≡ false)
Stands k past Lent = ⊥

-- What a refused input leaves that isn't added to the list: a node that is on, as its core says.
abbrev pub Stays : {C N E X D O : Type 0} → Kind C N E X D O →
    List X → E → Power C N → Type 0
Stays k past e (On core) = k.core.Stays past e core
Stays k past e (Off notes) = ⊥
Stays k past e Lent = ⊥

-- The node is on and doesn't refuse the input, what is answered and sent is what the list says, and
-- the input is added.
pub record Answers {C N E X D O : Type 0} (k : Kind C N E X D O)
    (past : List X) (e : E) (new : Power C N) (outs : O) : Type 0 where
  pub on : k.core.words.is_up past ≡ true
  pub free : k.core.words.refusal past e ≡ None
  pub sends : k.core.Sends past e outs
  pub stands : Stands k (answered k.core.words past e ∷ past) new

-- The node is on and refuses the input for this reason. The input may stand in the list, without a
-- save, or not.
pub record Refuses {C N E X D O : Type 0} (k : Kind C N E X D O)
    (past : List X) (e : E) (fault : Fault) (new : Power C N) : Type 0 where
  pub on : k.core.words.is_up past ≡ true
  pub why : k.core.words.refusal past e ≡ Some fault
  pub stands : Stands k (k.core.words.met e NoSave ∷ past) new
  pub unchanged : Stays k past e new

-- The node is off, and nothing changes.
pub record IsOff {C N E X D O : Type 0} (k : Kind C N E X D O)
    (past : List X) (fault : Fault) (new : Power C N) : Type 0 where
  pub off : k.core.words.is_up past ≡ false
  pub why : fault ≡ NodeOff
  pub unchanged : Stands k past new

-- How an input ends that isn't answered, by the sort of its fault. No save of a world fails by
-- itself.
abbrev pub Faults : {C N E X D O : Type 0} → Kind C N E X D O →
    List X → E → FaultSort → Fault → Power C N → Type 0
Faults k past e sorts.Memory fault new = (fault ≡ NoMemory) × Stands k past new
Faults k past e sorts.Save fault new = ⊥
Faults k past e sorts.Refusal fault new = IsOff k past fault new ⊎ Refuses k past e fault new

-- How an input ends.
abbrev pub Ends : {C N E X D O : Type 0} → Kind C N E X D O →
    List X → E → Power C N → Result O Fault → Type 0
Ends k past e new (Ok outs) = Answers k past e new outs
Ends k past e new (Err fault) = Faults k past e (sort_of fault) fault new

-- How a cut within the save of an input ends: it is due to make one, and stands in the list with
-- what is left. Else nothing changes: the node is off, nothing is due, or memory ran out.
abbrev pub CutsIn : {C N E X D O : Type 0} → Kind C N E X D O →
    List X → Bool → E → Power C N → Result (Unit {0}) Fault → Type 0
CutsIn k past landed e new (Ok _) =
    (k.core.words.is_up past ≡ true) × (is_some (k.core.words.due past e) ≡ true)
    × Stands k (k.core.words.met e (lost_by landed) ∷ past) new
CutsIn k past landed e new (Err NodeOff) = (k.core.words.is_up past ≡ false) × Stands k past new
CutsIn k past landed e new (Err faults.NoSave) =
    (k.core.words.is_up past ≡ true) × (is_some (k.core.words.due past e) ≡ false)
    × Stands k past new
CutsIn k past landed e new (Err NoMemory) = (k.core.words.is_up past ≡ true) × Stands k past new
CutsIn k past landed e new (Err _) = ⊥

-- How a start of a node ends, for which a fact has to be as needed: the start is added. Else
-- nothing changes: the node was on, this fault says that the fact isn't so, or memory ran out.
abbrev pub Starts : {C N E X D O : Type 0} → Kind C N E X D O →
    List X → Bool → Bool → Fault → X → Power C N → Result (Unit {0}) Fault → Type 0
Starts k past fact needed why start new (Ok _) =
    (k.core.words.is_up past ≡ false) × (fact ≡ needed) × Stands k (start ∷ past) new
Starts k past fact needed why start new (Err NodeOn) =
    (k.core.words.is_up past ≡ true) × Stands k past new
Starts k past fact needed why start new (Err NoMemory) =
    (k.core.words.is_up past ≡ false) × Stands k past new
Starts k past fact needed why start new (Err fault) =
    (k.core.words.is_up past ≡ false) × (fact ≡ not needed) × Stands k past new × (fault ≡ why)
