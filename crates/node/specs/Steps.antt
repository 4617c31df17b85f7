-- How a step of a core ends, whichever core it is: a core has a note, and stands for lists of what
-- came to it, the newest first.
use Rattle.std.specs.Prelude.{◌≡◌, ◌<◌, ℕ, ◌+◌, Bool, true, false, List, ◌∷◌}
use Rattle.std.specs.Prelude.{Option, Some, None, Result, Ok, Err}
use Rattle.fc_base.specs.declared.fault.Fault.{Fault}
use Rattle.fc_base.specs.declared.fault.Fault.TheVariants.{NoMemory}
use Rattle.fc_base.specs.declared.fault.FaultSort.{FaultSort}
use Rattle.fc_base.specs.declared.fault.FaultSort.TheVariants as sorts
use Rattle.fc_base.specs.Fault.{sort_of}
use Rattle.disk_model.specs.declared.save_outcome.SaveOutcome.{SaveOutcome}
use Rattle.disk_model.specs.declared.save_outcome.SaveOutcome.TheVariants.{NoSave, Saved}
use Rattle.disk_model.specs.SaveOutcome.{saved_for, is_lost, bytes_left}
use Rattle.disk_model.specs.Notes.{Note}

-- Nothing is due for an input that is refused.
abbrev pub unless_refused : {D : Type 0} → Option Fault → Option D → Option D
unless_refused None addition = addition
unless_refused (Some fault) addition = None

-- The input left what an answered input leaves.
abbrev pub is_answer : {D : Type 0} → Option D → SaveOutcome → Bool
is_answer None NoSave = true
is_answer (Some addition) Saved = true
is_answer _ _ = false

-- What the list of a core says, to which inputs E come, whose lists have entries X, and which adds
-- D to its note: whatever its notes are.
pub record Words (E X D : Type 0) : Type 0 where
  pub is_up : List X → Bool  -- behind this list it is on
  pub refusal : List X → E → Option Fault  -- why an input is refused, if it is
  pub due : List X → E → Option D  -- what an input is due to add to the note
  pub met : E → SaveOutcome → X  -- the entry of an input whose save left this
  pub spelled : List X → List ℕ  -- the spelling of what is noted behind the list

-- What has to be known of a core of states S, to which inputs E come, whose lists have entries X,
-- which adds D to its note, and answers O.
pub record Steps (S E X D O : Type 0) : Type 1 where
  pub words : Words E X D  -- what its list says
  pub note : S → Note  -- its note
  pub StandsFor : List X → S → Type 0  -- for which lists it stands
  pub Sends : List X → E → O → Type 0  -- what is answered and sent for an input
  pub Stays : List X → E → S → Type 0  -- what a refused input leaves that isn't added to the list

-- What an answered input leaves in the list: what was due is saved.
abbrev pub answered : {E X D : Type 0} → Words E X D → List X → E → X
answered words past e = words.met e (saved_for (words.due past e))

-- What an answered input leaves of the note: all of it where nothing was due, else the bytes are
-- the spelling of what is noted then.
abbrev pub LeavesNote : {D : Type 0} → Option D → List ℕ → Note → Note → Type 0
LeavesNote None after old new = new ≡ old
LeavesNote (Some addition) after old new = new ≡ record old { bytes = after }

-- The input isn't refused, what is answered and sent is what the list says, what is due is left in
-- the note, and the input is added.
pub record Answers {S E X D O : Type 0} (s : Steps S E X D O)
    (past : List X) (e : E) (old new : S) (outs : O) : Type 0 where
  pub free : s.words.refusal past e ≡ None
  pub sends : s.Sends past e outs
  pub leaves :
      LeavesNote (s.words.due past e) (s.words.spelled (answered s.words past e ∷ past))
      (s.note old) (s.note new)
  pub stands : s.StandsFor (answered s.words past e ∷ past) new

-- The input is refused for this reason, and the note is as it was. The input may stand in the list,
-- without a save, or not.
pub record Refuses {S E X D O : Type 0} (s : Steps S E X D O)
    (past : List X) (e : E) (fault : Fault) (old new : S) : Type 0 where
  pub why : s.words.refusal past e ≡ Some fault
  pub same_note : s.note new ≡ s.note old
  pub unchanged : s.Stays past e new
  pub stands : s.StandsFor (s.words.met e NoSave ∷ past) new

-- The device failed in the save of what was due: the bytes are the old ones, or the spelling of
-- what was to be noted.
pub record Fails {S E X D O : Type 0} (s : Steps S E X D O)
    (past : List X) (e : E) (old new : S) : Type 0 where
  pub cause : (s.note old).failures < (s.note new).failures
  pub free : s.words.refusal past e ≡ None
  pub addition : D
  pub makes_one : s.words.due past e ≡ Some addition
  pub left : SaveOutcome
  pub lost : is_lost left ≡ true
  pub bytes_are :
      (s.note new).bytes
      ≡ bytes_left left (s.words.spelled (s.words.met e left ∷ past)) (s.note old).bytes
  pub stands : s.StandsFor (s.words.met e left ∷ past) new

-- For want of memory nothing changes.
pub record OutOfMemory {S E X D O : Type 0} (s : Steps S E X D O)
    (past : List X) (fault : Fault) (old new : S) : Type 0 where
  pub why : fault ≡ NoMemory
  pub same_note : s.note new ≡ s.note old
  pub unchanged : s.StandsFor past new

-- How a step that isn't answered ends, by the sort of its fault.
abbrev pub Faults : {S E X D O : Type 0} → Steps S E X D O →
    List X → E → FaultSort → Fault → S → S → Type 0
Faults s past e sorts.Memory fault old new = OutOfMemory s past fault old new
Faults s past e sorts.Save fault old new = Fails s past e old new
Faults s past e sorts.Refusal fault old new = Refuses s past e fault old new

-- How a step ends.
abbrev pub Ends : {S E X D O : Type 0} → Steps S E X D O →
    List X → E → S → S → Result O Fault → Type 0
Ends s past e old new (Ok outs) = Answers s past e old new outs
Ends s past e old new (Err fault) = Faults s past e (sort_of fault) fault old new

-- How a step ends that gives a number: the one above those that were used.
abbrev pub EndsWithNumber : {S E X D O : Type 0} → Steps S E X D O →
    List X → E → ℕ → S → S → Result (ℕ × O) Fault → Type 0
EndsWithNumber s past e used old new (Ok given) =
    (given.0 ≡ used + 1) × Answers s past e old new given.1
EndsWithNumber s past e used old new (Err fault) = Faults s past e (sort_of fault) fault old new
