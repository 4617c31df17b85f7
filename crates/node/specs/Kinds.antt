-- What a node is that may have no power, whichever core it has, and how it loses its power and is
-- started again. Lists are newest first.
use Rattle.std.specs.Prelude.{◌≡◌, ◌⊎◌, ◌<◌, Bool, true, false, if◌then◌else◌, List, [], ◌∷◌}
use Rattle.std.specs.Prelude.{Option, Some, None, is_some, Result, Ok, Err}
use Rattle.std.specs.Borrow.{LendsIfOk, Fml, RattleType, MutBor}
use Rattle.fc_base.specs.declared.fault.Fault.{Fault}
use Rattle.fc_base.specs.declared.fault.Fault.TheVariants.{NodeOff, NodeOn, NoMemory}
use Rattle.fc_base.specs.declared.fault.Fault.TheVariants as faults
use Rattle.fc_base.specs.declared.fault.FaultSort.TheVariants.{Save}
use Rattle.fc_base.specs.Fault.{sort_of}
use Rattle.disk_model.specs.declared.save_outcome.SaveOutcome.{SaveOutcome}
use Rattle.disk_model.specs.declared.save_outcome.SaveOutcome.TheVariants.{Saved, LostNew, LostOld}
use Rattle.disk_model.specs.SaveOutcome.{is_lost}
use Rattle.disk_model.specs.Notes.{Note}
use Rattle.node.specs.Steps.{Steps, Ends}
use Rattle.node.specs.declared.power.Power.{Power}
use Rattle.node.specs.declared.power.Power.TheVariants.{On, Off, Lent}
use Rattle.node.specs.contracts.power.Power.{the_row}

-- A kind of node, of cores C over notes N, to which inputs E come, whose lists have entries X,
-- which add D to their notes, and answer O: what has to be known of its core, and of which lists
-- notes say what they say.
pub record Kind (C N E X D O : Type 0) : Type 1 where
  pub core : Steps C E X D O
  pub note : N → Note  -- the note that notes are
  pub Says : List X → N → Type 0  -- notes say what a list says
  pub cut : X  -- the entry of a cut

-- What a save left that was lost with the power: the new bytes, where it had landed, or the old.
abbrev pub lost_by : Bool → SaveOutcome
lost_by landed = if landed then LostNew else LostOld

-- What is kept by the lists of a node: a cut takes its power, and notes go on to say what they said.
-- What is due to be saved isn't refused. The node stays on unless its save is lost; and where that
-- is lost, notes say what they said before it, or, where it had landed, behind it.
pub record Laws {C N E X D O : Type 0} (k : Kind C N E X D O) : Type 0 where
  pub off : (past : List X) → k.core.words.is_up (k.cut ∷ past) ≡ false
  pub says : (past : List X) (notes : N) → k.Says past notes → k.Says (k.cut ∷ past) notes
  pub free : (past : List X) (e : E) → is_some (k.core.words.due past e) ≡ true
      → k.core.words.refusal past e ≡ None
  pub stays : (past : List X) (e : E) (left : SaveOutcome) → is_lost left ≡ false
      → k.core.words.is_up past ≡ true → k.core.words.is_up (k.core.words.met e left ∷ past) ≡ true
  pub falls : (past : List X) (e : E) (left : SaveOutcome) → is_lost left ≡ true
      → is_some (k.core.words.due past e) ≡ true
      → k.core.words.is_up (k.core.words.met e left ∷ past) ≡ false
  pub new : (past : List X) (e : E) (notes : N) → is_some (k.core.words.due past e) ≡ true
      → k.Says (k.core.words.met e Saved ∷ past) notes
      → k.Says (k.core.words.met e LostNew ∷ past) notes
  pub old : (past : List X) (e : E) (notes : N) → is_some (k.core.words.due past e) ≡ true
      → k.Says past notes → k.Says (k.core.words.met e LostOld ∷ past) notes

-- A node that has power stands for the lists of its core; of one that has none, which the list
-- says, the notes say what the list says.
abbrev pub Stands : {C N E X D O : Type 0} → Kind C N E X D O → List X → Power C N → Type 0
Stands k past (On core) = k.core.StandsFor past core
Stands k past (Off notes) = k.Says past notes × (k.core.words.is_up past ≡ false)
Stands k past Lent = ⊥

-- The note of a node, which its core keeps, or which its notes are.
abbrev pub note_by : {C N : Type 0} → (C → Note) → (N → Note) → Power C N → Note
note_by of_core of_notes (On core) = of_core core
note_by of_core of_notes (Off notes) = of_notes notes
note_by of_core of_notes Lent = record { bytes = []; failures = 0 }

-- The note of a node of this kind.
abbrev pub note_of : {C N E X D O : Type 0} → Kind C N E X D O → Power C N → Note
note_of k power = note_by k.core.note k.note power

-- The core of a node is there where it is on, and stands for the list.
abbrev pub Shows : {C N E X D O : Type 0} →
    Kind C N E X D O → List X → Power C N → Option C → Type 0
Shows k past power (Some core) =
    (power ≡ On core) × k.core.StandsFor past core × (k.core.words.is_up past ≡ true)
Shows k past power None = k.core.words.is_up past ≡ false

-- The core of a node is lent where it is on; else that is refused.
abbrev pub IsLent : {C N E X D O : Type 0} →
    Kind C N E X D O → List X → Power C N → Result (MutBor C) Fault → Type 0
IsLent k past power (Ok core) = Shows k past power (Some core.now)
IsLent k past power (Err fault) = (fault ≡ NodeOff) × Shows k past power None

-- The node then has the core as it is left; where none is lent, nothing changes.
abbrev pub LendsCore : (C N : RattleType) →
    MutBor (Power C.Denot N.Denot) → Result (MutBor C.Denot) Fault → Fml
LendsCore C N power lent = LendsIfOk (the_row C N) C power lent (λ core. On core) power.now

-- The notes that a node leaves: they are its note, and say what its list says.
pub record IsLeft {C N E X D O : Type 0} (k : Kind C N E X D O) (past : List X) (power : Power C N)
    (notes : N) : Type 0 where
  pub says : k.Says past notes
  pub same : k.note notes ≡ note_of k power

-- A node was on, and has left its notes.
pub record IsCutOff {C N E X D O : Type 0} (k : Kind C N E X D O) (past : List X)
    (old new : Power C N) : Type 0 where
  pub on : k.core.words.is_up past ≡ true
  pub notes : N
  pub left : IsLeft k past old notes
  pub off : new ≡ Off notes

-- How the loss of its power ends: where it isn't on, nothing changes.
abbrev pub Cuts : {C N E X D O : Type 0} →
    Kind C N E X D O → List X → Power C N → Power C N → Result (Unit {0}) Fault → Type 0
Cuts k past old new (Ok _) = IsCutOff k past old new
Cuts k past old new (Err fault) =
    (fault ≡ NodeOff) × (k.core.words.is_up past ≡ false) × (new ≡ old)

-- What a start leaves: a core, or the notes.
abbrev pub left_by : {C N : Type 0} → Result C (N × Fault) → Power C N
left_by (Ok core) = On core
left_by (Err back) = Off back.0

-- What is told of a start.
abbrev pub told_of : {C N : Type 0} → Result C (N × Fault) → Result (Unit {0}) Fault
told_of (Ok core) = Ok tt
told_of (Err back) = Err back.1

-- A node wasn't on, and a core was started over the notes that it left: `Opens` says how that ends.
pub record IsStarted {C N E X D O : Type 0} (k : Kind C N E X D O)
    (Opens : N → Result C (N × Fault) → Type 0) (past : List X) (old new : Power C N)
    (result : Result (Unit {0}) Fault) : Type 0 where
  pub off : k.core.words.is_up past ≡ false
  pub notes : N
  pub left : IsLeft k past old notes
  pub made : Result C (N × Fault)
  pub opens : Opens notes made
  pub new_is : new ≡ left_by made
  pub told : result ≡ told_of made

-- A node was on, so that a start of it is refused, and nothing changes.
pub record WasOn {C N E X D O : Type 0} (k : Kind C N E X D O) (past : List X)
    (old new : Power C N) (result : Result (Unit {0}) Fault) : Type 0 where
  pub on : k.core.words.is_up past ≡ true
  pub same : new ≡ old
  pub told : result ≡ Err NodeOn

-- How a start ends.
abbrev pub Restarts : {C N E X D O : Type 0} → Kind C N E X D O →
    (N → Result C (N × Fault) → Type 0) → List X → Power C N → Power C N →
    Result (Unit {0}) Fault → Type 0
Restarts k Opens past old new result =
    WasOn k past old new result ⊎ IsStarted k Opens past old new result

-- The node was on, and its core made a step that ended so.
pub record IsStepped {C N E X D O : Type 0} (k : Kind C N E X D O) (past : List X) (e : E)
    (old new : Power C N) (result : Result O Fault) : Type 0 where
  pub on : k.core.words.is_up past ≡ true
  pub before : C
  pub after : C
  pub was : old ≡ On before
  pub now : new ≡ On after
  pub stood : k.core.StandsFor past before
  pub ends : Ends k.core past e before after result

-- The node wasn't on, which is refused, and nothing changes.
pub record WasOff {C N E X D O R : Type 0} (k : Kind C N E X D O) (past : List X)
    (old new : Power C N) (result : Result R Fault) : Type 0 where
  pub off : k.core.words.is_up past ≡ false
  pub same : new ≡ old
  pub told : result ≡ Err NodeOff

-- How a step of a node ends, to which this comes.
abbrev pub Takes : {C N E X D O : Type 0} → Kind C N E X D O → List X → E → Power C N → Power C N
    → Result O Fault → Type 0
Takes k past e old new result = IsStepped k past e old new result ⊎ WasOff k past old new result

-- The save that the step made failed by itself: the node is down, and its note says what is left.
pub record IsDown {C N E X D O : Type 0} (k : Kind C N E X D O) (past : List X) (e : E)
    (old new : Power C N) : Type 0 where
  pub cause : (note_of k old).failures < (note_of k new).failures
  pub left : SaveOutcome
  pub lost : is_lost left ≡ true
  pub stands : Stands k (k.core.words.met e left ∷ past) new

-- The node lost its power within the save that a step is due to make, which stands in the list with
-- what is left of that save; and it has left its notes.
pub record IsCutWithin {C N E X D O : Type 0} (k : Kind C N E X D O) (past : List X) (landed : Bool)
    (e : E) (new : Power C N) : Type 0 where
  pub on : k.core.words.is_up past ≡ true
  pub due : is_some (k.core.words.due past e) ≡ true
  pub notes : N
  pub off : new ≡ Off notes
  pub says : k.Says (k.core.words.met e (lost_by landed) ∷ past) notes
  pub down : k.core.words.is_up (k.core.words.met e (lost_by landed) ∷ past) ≡ false

-- How a loss of power within the save of a step ends, which was to land or not. Where the power isn't
-- lost, the node isn't on, the step makes no save, or memory ran out; or that save failed by itself.
abbrev pub CutsIn : {C N E X D O : Type 0} → Kind C N E X D O → List X → Bool → E → Power C N
    → Power C N → Result (Unit {0}) Fault → Type 0
CutsIn k past landed e old new (Ok _) = IsCutWithin k past landed e new
CutsIn k past landed e old new (Err NodeOff) = (k.core.words.is_up past ≡ false) × (new ≡ old)
CutsIn k past landed e old new (Err faults.NoSave) =
    (k.core.words.is_up past ≡ true) × (is_some (k.core.words.due past e) ≡ false) × (new ≡ old)
CutsIn k past landed e old new (Err NoMemory) =
    (k.core.words.is_up past ≡ true) × (note_of k new ≡ note_of k old) × Stands k past new
CutsIn k past landed e old new (Err fault) =
    (k.core.words.is_up past ≡ true) × (sort_of fault ≡ Save) × IsDown k past e old new
