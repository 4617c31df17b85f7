-- How the steps and the tasks of a node end, whichever node it is.
use Rattle.std.proofs.Common.{◌≡◌, refl, sym, ◌∙◌, ap, subst, inl, inr, ℕ, Bool, true, false, List, [], ◌∷◌, Option, Some, None, Result, Ok, Err}
use Rattle.std.specs.Prelude.{◌⊎◌, ◌&&◌, ◌||◌, if◌then◌else◌, not}
use Rattle.fc_base.specs.declared.fault.Fault.{Fault}
use Rattle.fc_base.specs.declared.fault.Fault.TheVariants.{NoMemory, FrameBadField, LoadFault, NodeOff}
use Rattle.fc_base.specs.declared.fault.FaultSort.{FaultSort}
use Rattle.fc_base.specs.declared.fault.FaultSort.TheVariants as sorts
use Rattle.fc_base.specs.Fault.{sort_of}
use Rattle.disk_model.specs.declared.save_outcome.SaveOutcome.{SaveOutcome}
use Rattle.disk_model.specs.declared.save_outcome.SaveOutcome.TheVariants as lefts
use Rattle.disk_model.specs.SaveOutcome.{is_lost}
use Rattle.cells.specs.declared.answer.Reply.{Reply}
use Rattle.cells.specs.AtHub.{is_drop, is_memory, is_save, is_left_out, lacks_memory, RefusedAs}
use Rattle.cells.specs.Calls.{says_off, is_off}
use Rattle.cells.specs.Failures.{is_load, CountsBy, Counts}
use Rattle.cells.specs.Moves.{Moves, Refuses, Faults, StepEnds, Fails, TaskEnds, outcome_of}
use Rattle.cells.specs.Replay.{Stops}
use Rattle.cells.specs.Rules.{Ask, Meets}
use Rattle.cells.specs.CoreRules.{CoreRules, left_by, rules_of}
use Rattle.node.specs.Steps.{Words}
use Rattle.node.specs.declared.power.Power.{Power}
use Rattle.node.specs.Kinds.{Kind, Stands}

clash : true ≡ false → ⊥
clash h = cc

-- Where it is on, what is said of it then.
pub up : (b : Bool) (x y : Option Fault) → b ≡ true → (if b then x else y) ≡ x
up true x y h = refl
up false x y h = cc

-- ---- a refusal

-- What is refused, and leaves the list, leaves the node.
pub refused : {C N E X D O : Type 0} (n : Kind C N E X D O) (c : CoreRules E X) (past : List X) (ask : Ask E) (fault : Fault) (new : Power C N) → sort_of fault ≡ sorts.Refusal
    → (rules_of n.core.words c).refusal past ask ≡ Some fault → (rules_of n.core.words c).passed past ask fault ≡ past → Stands n past new → Moves n c past ask (Err fault) [] new
refused n c past ask fault new sort why stays s = record {
  after = past;
  ends = subst (λ sort. Stops (rules_of n.core.words c) past ask sort fault [] past) (sym sort) (record { why = inl why; sends_none = refl; after_is = sym stays });
  stands = s;
  ranges = λ h. h;
}

-- What comes to a node that isn't on is refused, and nothing changes.
pub off_ends : {C N E X D O : Type 0} (n : Kind C N E X D O) (c : CoreRules E X) (past : List X) (e : E) (new : Power C N) → (rules_of n.core.words c).refusal past (Meets e) ≡ Some NodeOff
    → (rules_of n.core.words c).passed past (Meets e) NodeOff ≡ past → Stands n past new → StepEnds n c past e new (Err NodeOff)
off_ends n c past e new why stays s = record { moves = refused n c past (Meets e) NodeOff new refl why stays s; unchanged = λ other. s }

-- Where the fault tells of no dropped tag, it is another.
another : (fault : Fault) → is_drop fault ≡ false → fault ≡ FrameBadField → ⊥
another fault h e = clash (sym (ap is_drop e) ∙ h)

-- What is refused stands in the list where it dropped a tag, and else it doesn't.
pub refused_step : {C N E X D O : Type 0} (n : Kind C N E X D O) (c : CoreRules E X) (past : List X) (e : E) (met : X) (fault : Fault) (new : Power C N) → sort_of fault ≡ sorts.Refusal
    → (rules_of n.core.words c).refusal past (Meets e) ≡ Some fault → (rules_of n.core.words c).passed past (Meets e) fault ≡ (if is_drop fault then met ∷ past else past)
    → Stands n (met ∷ past) new → ((fault ≡ FrameBadField → ⊥) → Stands n past new) → (c.InRange past → c.InRange (met ∷ past)) → Refuses n c past e fault new
refused_step n c past e met fault new sort why passes stands unchanged ranges = record { moves = by_drop (is_drop fault) refl; unchanged = unchanged }
  where
    by_drop : (b : Bool) → is_drop fault ≡ b → Moves n c past (Meets e) (Err fault) [] new
    by_drop true d = record {
      after = met ∷ past;
      ends = subst (λ sort. Stops (rules_of n.core.words c) past (Meets e) sort fault [] (met ∷ past)) (sym sort) (record {
        why = inl why;
        sends_none = refl;
        after_is = sym (passes ∙ ap (λ b. if b then met ∷ past else past) d);
      });
      stands = stands;
      ranges = ranges;
    }
    by_drop false d = refused n c past (Meets e) fault new sort why (passes ∙ ap (λ b. if b then met ∷ past else past) d) (unchanged (another fault d))

-- ---- a save that failed

pub left_is : (left : SaveOutcome) → is_lost left ≡ true → (landed : Bool) × (left_by landed ≡ left)
left_is lefts.NoSave h = cc
left_is lefts.Saved h = cc
left_is lefts.LostNew h = (true, refl)
left_is lefts.LostOld h = (false, refl)

pub lost : {C N E X D O : Type 0} (n : Kind C N E X D O) (c : CoreRules E X) (past : List X) (ask : Ask E) (fault : Fault) (landed : Bool) (entry : X) (new : Power C N) → sort_of fault ≡ sorts.Save
    → (rules_of n.core.words c).refusal past ask ≡ None → (rules_of n.core.words c).lost past ask landed ≡ Some entry
    → Stands n (entry ∷ past) new → (c.InRange past → c.InRange (entry ∷ past)) → Moves n c past ask (Err fault) [] new
lost n c past ask fault landed entry new sort free is s ranges = record {
  after = entry ∷ past;
  ends = subst (λ sort. Stops (rules_of n.core.words c) past ask sort fault [] (entry ∷ past)) (sym sort)
      (record { free = free; landed = landed; entry = entry; entry_is = is; sends_none = refl; after_is = refl });
  stands = s;
  ranges = ranges;
}

-- ---- a step

no_drop : (fault : Fault) → not (is_drop fault) ≡ true → fault ≡ FrameBadField → ⊥
no_drop fault h e = clash (sym h ∙ ap (λ f. not (is_drop f)) e)

-- What is left out leaves a node as it was.
pub unmoved : {C N E X D O : Type 0} (n : Kind C N E X D O) (c : CoreRules E X) (past : List X) (e : E) (new : Power C N) (step : Result (Reply × List (List ℕ)) Fault)
    → is_left_out (outcome_of step).0 ≡ true → StepEnds n c past e new step → Stands n past new
unmoved n c past e new (Ok outs) h f = cc
unmoved n c past e new (Err fault) h f = by_sort (sort_of fault) h f
  where
    by_sort : (sort : FaultSort) → not (is_save sort || is_drop fault) ≡ true → Faults n c past e sort fault new → Stands n past new
    by_sort sorts.Memory h f = f.1
    by_sort sorts.Save h f = cc
    by_sort sorts.Refusal h f = f.unchanged (no_drop fault h)

-- What isn't left out is a move of the node.
pub moved : {C N E X D O : Type 0} (n : Kind C N E X D O) (c : CoreRules E X) (past : List X) (e : E) (new : Power C N) (step : Result (Reply × List (List ℕ)) Fault)
    → is_left_out (outcome_of step).0 ≡ false → StepEnds n c past e new step → Moves n c past (Meets e) (outcome_of step).0 (outcome_of step).1 new
moved n c past e new (Ok outs) h f = f
moved n c past e new (Err fault) h f = by_sort (sort_of fault) h f
  where
    never : (f : Fault) → f ≡ NoMemory → not (is_drop f) ≡ false → ⊥
    never f e h = clash (sym (ap (λ x. not (is_drop x)) e) ∙ h)

    by_sort : (sort : FaultSort) → not (is_save sort || is_drop fault) ≡ false → Faults n c past e sort fault new → Moves n c past (Meets e) (Err fault) [] new
    by_sort sorts.Memory h f = absurd (never fault f.0 h)
    by_sort sorts.Save h f = f
    by_sort sorts.Refusal h f = f.moves

-- Why a step isn't answered: as the rules have it, where no note is loaded.
pub refused_for : {C N E X D O : Type 0} (n : Kind C N E X D O) (c : CoreRules E X) (past : List X) (e : E) (fault : Fault) (new : Power C N) → (rules_of n.core.words c).loads past (Meets e) ≡ false
    → Faults n c past e (sort_of fault) fault new → RefusedAs (rules_of n.core.words c) past (Meets e) (sort_of fault) fault
refused_for {X = X} n c past e fault new loads f = by_sort (sort_of fault) refl f
  where
    by_why : ((rules_of n.core.words c).refusal past (Meets e) ≡ Some fault) ⊎ ((fault ≡ LoadFault) × ((rules_of n.core.words c).loads past (Meets e) ≡ true))
        → (rules_of n.core.words c).refusal past (Meets e) ≡ Some fault
    by_why (inl h) = h
    by_why (inr h) = absurd (clash (sym h.1 ∙ loads))

    by_stop : (after : List X) → Stops (rules_of n.core.words c) past (Meets e) sorts.Refusal fault [] after → (rules_of n.core.words c).refusal past (Meets e) ≡ Some fault
    by_stop after p = by_why p.why

    by_sort : (sort : FaultSort) → sort_of fault ≡ sort → Faults n c past e sort fault new → RefusedAs (rules_of n.core.words c) past (Meets e) sort fault
    by_sort sorts.Memory is f = f.0
    by_sort sorts.Save is f = tt
    by_sort sorts.Refusal is f = by_stop f.moves.after (subst (λ (sort : FaultSort). Stops (rules_of n.core.words c) past (Meets e) sort fault [] f.moves.after) is f.moves.ends)

-- ---- a task

-- Memory ran out.
pub is_lack : {C N E X D O : Type 0} (n : Kind C N E X D O) (c : CoreRules E X) (past : List X) (ask : Ask E) (new : Power C N) (answer : Result Reply Fault) → lacks_memory answer ≡ true
    → TaskEnds n c past ask new answer → answer ≡ Err NoMemory
is_lack n c past ask new (Ok said) h e = cc
is_lack n c past ask new (Err fault) h e = ap (λ (f : Fault). Err f) (by_sort (sort_of fault) h e)
  where
    by_sort : (sort : FaultSort) → is_memory sort ≡ true → Fails n c past ask sort fault new → fault ≡ NoMemory
    by_sort sorts.Memory h e = e.0
    by_sort sorts.Save h e = cc
    by_sort sorts.Refusal h e = cc

-- Then no device has failed.
pub lack_counts : (loads : Bool) (old new : ℕ) (answer : Result Reply Fault) → answer ≡ Err NoMemory → Counts loads old new answer → new ≡ old
lack_counts loads old new answer is counted = subst (Counts loads old new) is counted

pub stays : {C N E X D O : Type 0} (n : Kind C N E X D O) (c : CoreRules E X) (past : List X) (ask : Ask E) (new : Power C N) (answer : Result Reply Fault) → lacks_memory answer ≡ true
    → TaskEnds n c past ask new answer → Stands n past new
stays n c past ask new (Ok said) h e = cc
stays n c past ask new (Err fault) h e = by_sort (sort_of fault) h e
  where
    by_sort : (sort : FaultSort) → is_memory sort ≡ true → Fails n c past ask sort fault new → Stands n past new
    by_sort sorts.Memory h e = e.1
    by_sort sorts.Save h e = cc
    by_sort sorts.Refusal h e = cc

pub done : {C N E X D O : Type 0} (n : Kind C N E X D O) (c : CoreRules E X) (past : List X) (ask : Ask E) (new : Power C N) (answer : Result Reply Fault) → lacks_memory answer ≡ false
    → TaskEnds n c past ask new answer → Moves n c past ask answer [] new
done n c past ask new (Ok said) h e = e
done n c past ask new (Err fault) h e = by_sort (sort_of fault) h e
  where
    by_sort : (sort : FaultSort) → is_memory sort ≡ false → Fails n c past ask sort fault new → Moves n c past ask (Err fault) [] new
    by_sort sorts.Memory h e = cc
    by_sort sorts.Save h e = e
    by_sort sorts.Refusal h e = e

-- A step that isn't answered ends as a task.
pub unanswered : {C N E X D O : Type 0} (n : Kind C N E X D O) (c : CoreRules E X) (past : List X) (e : E) (fault : Fault) (new : Power C N) → Faults n c past e (sort_of fault) fault new
    → TaskEnds n c past (Meets e) new (Err fault)
unanswered n c past e fault new f = by_sort (sort_of fault) f
  where
    by_sort : (sort : FaultSort) → Faults n c past e sort fault new → Fails n c past (Meets e) sort fault new
    by_sort sorts.Memory h = h
    by_sort sorts.Save h = h
    by_sort sorts.Refusal h = h.moves

-- ---- whether it is on

pub off_where : {E X D : Type 0} (w : Words E X D) (c : CoreRules E X) (past : List X) (is : Bool) → w.is_up past ≡ is → is_off (rules_of w c) past ≡ not is
off_where w c past is h = ap (λ b. says_off (if b then None else Some NodeOff)) h ∙ by_test is
  where
    by_test : (b : Bool) → says_off (if b then None else Some NodeOff) ≡ not b
    by_test true = refl
    by_test false = refl

-- ---- the device's failures

pub no_load : (fault : Fault) (old new : ℕ) → new ≡ old → CountsBy (is_load fault && false) old new
no_load fault old new h = by_load (is_load fault)
  where
    by_load : (load : Bool) → CountsBy (load && false) old new
    by_load true = h
    by_load false = h
