-- A step of a core that is on ends as the rules of its node have it, whichever core it is.
use Rattle.std.proofs.Common.{◌≡◌, refl, ◌∙◌, ap, ℕ, true, false, List, ◌∷◌, Some, Result, Ok, Err}
use Rattle.std.specs.Prelude.{◌&&◌, ◌||◌, if◌then◌else◌, map}
use Rattle.std.specs.Option.{option_map}
use Rattle.fc_base.specs.declared.fault.Fault.{Fault}
use Rattle.fc_base.specs.declared.fault.Fault.TheVariants.{NodeOff, FrameBadField}
use Rattle.fc_base.specs.declared.fault.FaultSort.{FaultSort}
use Rattle.fc_base.specs.declared.fault.FaultSort.TheVariants as sorts
use Rattle.fc_base.specs.Fault.{sort_of}
use Rattle.disk_model.specs.declared.save_outcome.SaveOutcome.{SaveOutcome}
use Rattle.disk_model.specs.declared.save_outcome.SaveOutcome.TheVariants.{NoSave}
use Rattle.disk_model.specs.Notes.{Note}
use Rattle.node.specs.Steps as steps
use Rattle.node.specs.Steps.{Steps, answered}
use Rattle.messages.specs.FrameBytes.{frame_spelling}
use Rattle.cells.specs.declared.answer.Reply.{Reply}
use Rattle.node.specs.declared.power.Power.{Power}
use Rattle.node.specs.declared.power.Power.TheVariants.{On}
use Rattle.cells.specs.AtHub.{is_save}
use Rattle.cells.specs.CoreRules.{CoreRules, left_by}
use Rattle.cells.specs.Failures.{is_load, Counts, CountsBy}
use Rattle.cells.specs.Moves.{Faults, StepEnds}
use Rattle.node.specs.Kinds.{Kind, Stands}
use Rattle.cells.specs.Rules.{Meets}
use Rattle.cells.proofs.MoveLemmas as moves
use Rattle.cells.proofs.MoveLemmas.{up, refused_step, lost, left_is, no_load}

-- What is refused leaves the core as it was, but where a tag is dropped; and where an input was heard, which the
-- sort of a fault tells, the list behind it is within its ranges.
pub record Fits {C N E X D O : Type 0} (n : Kind C N E X D O) (c : CoreRules E X) (past : List X) (e : E) (Heard : FaultSort → Type 0) : Type 0 where
  pub stays : (fault : Fault) (core : C) → n.core.words.refusal past e ≡ Some fault → (fault ≡ FrameBadField → ⊥) → n.core.Stays past e core
      → n.core.StandsFor past core
  pub alike : Heard sorts.Refusal → Heard sorts.Save
  pub ranges : Heard sorts.Save → (left : SaveOutcome) → c.InRange past → c.InRange (n.core.words.met e left ∷ past)

-- What comes to a node that isn't on is refused, and nothing changes.
pub off_ends : {C N E X D O : Type 0} (n : Kind C N E X D O) (c : CoreRules E X) (past : List X) (e : E) (power : Power C N) (fault : Fault)
    → (fault ≡ NodeOff) × (n.core.words.is_up past ≡ false) → Stands n past power → StepEnds n c past e power (Err fault)
off_ends n c past e power fault off s =
    rw off.0 (moves.off_ends n c past e power (ap (λ b. if b then n.core.words.refusal past e else Some NodeOff) off.1) refl s)

module _ {C N E X D O : Type 0} {Heard : FaultSort → Type 0} (n : Kind C N E X D O) (c : CoreRules E X) (past : List X) (e : E) (fits : Fits n c past e Heard)
    (on : n.core.words.is_up past ≡ true) (old new : C) where
  -- By one that is on, it is answered,
  pub answered_ends : (outs : O) (said : Reply) (sent : List (List ℕ)) → steps.Answers n.core past e old new outs → Heard sorts.Save → said ≡ c.said past e
      → sent ≡ map frame_spelling (c.frames past (answered n.core.words past e))
      → StepEnds n c past e (On new) (Ok (said, sent))
  answered_ends outs said sent a heard said_is sent_are = record {
    after = answered n.core.words past e ∷ past;
    ends = record {
      free = up (n.core.words.is_up past) (n.core.words.refusal past e) (Some NodeOff) on ∙ a.free;
      said_is = said_is;
      entry = answered n.core.words past e;
      entry_is = refl;
      sent_are = sent_are;
      after_is = refl;
    };
    stands = a.stands;
    ranges = fits.ranges heard _;
  }

  -- or it isn't.
  pub unanswered_ends : (fault : Fault) (sort : FaultSort) → steps.Faults n.core past e sort fault old new → Heard sort → sort_of fault ≡ sort
      → Faults n c past e sort fault (On new)
  unanswered_ends fault sorts.Memory f heard is = (f.why, f.unchanged)
  unanswered_ends fault sorts.Save f heard is =
      let l = left_is f.left f.lost in
      lost n c past (Meets e) fault l.0 (n.core.words.met e f.left) (On new) is
      (up (n.core.words.is_up past) (n.core.words.refusal past e) (Some NodeOff) on ∙ f.free)
      (ap (option_map (λ due. n.core.words.met e (left_by l.0))) f.makes_one ∙ ap (λ left. Some (n.core.words.met e left)) l.1)
      f.stands (fits.ranges heard f.left)
  unanswered_ends fault sorts.Refusal f heard is =
      refused_step n c past e (n.core.words.met e NoSave) fault (On new) is
      (up (n.core.words.is_up past) (n.core.words.refusal past e) (Some NodeOff) on ∙ f.why)
      refl
      f.stands (λ other. fits.stays fault new f.why other f.unchanged) (fits.ranges (fits.alike heard) NoSave)

-- ---- the device's failures

-- A step that isn't answered counts a failed save.
pub faults_count : {E X C D O : Type 0} (s : Steps C E X D O) (past : List X) (e : E) (old new : C) (fault : Fault) (sort : FaultSort)
    → steps.Faults s past e sort fault old new → CountsBy (is_save sort || (is_load fault && false)) (s.note old).failures (s.note new).failures
faults_count s past e old new fault sorts.Memory f = no_load fault (s.note old).failures (s.note new).failures (ap (λ (n : Note). n.failures) f.same_note)
faults_count s past e old new fault sorts.Save f = f.cause
faults_count s past e old new fault sorts.Refusal f = no_load fault (s.note old).failures (s.note new).failures (ap (λ (n : Note). n.failures) f.same_note)

-- So does a step.
pub counts : {E X C D O : Type 0} (s : Steps C E X D O) (past : List X) (e : E) (old new : C) (result : Result O Fault) → steps.Ends s past e old new result
    → Counts false (s.note old).failures (s.note new).failures result
counts s past e old new (Ok outs) a = tt
counts s past e old new (Err fault) f = faults_count s past e old new fault (sort_of fault) f
