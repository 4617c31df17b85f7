-- The rules of a node under its lock by what is known of its core, whichever core it is.
use Rattle.std.specs.Prelude.{Bool, true, false, not, if◌then◌else◌, List, [], ◌∷◌, Option, Some, None}
use Rattle.std.specs.Option.{option_map}
use Rattle.fc_base.specs.declared.fault.Fault.{Fault}
use Rattle.fc_base.specs.declared.fault.Fault.TheVariants.{NodeOff, NodeOn}
use Rattle.disk_model.specs.declared.save_outcome.SaveOutcome.{SaveOutcome}
use Rattle.disk_model.specs.declared.save_outcome.SaveOutcome.TheVariants.{NoSave, LostNew, LostOld}
use Rattle.node.specs.Steps.{Words, answered}
use Rattle.messages.specs.declared.frame.Frame.{Frame}
use Rattle.cells.specs.declared.input.NodeInput.{NodeInput}
use Rattle.cells.specs.declared.answer.Reply.{Reply}
use Rattle.cells.specs.AtHub.{is_drop}
use Rattle.cells.specs.Rules.{Ask, Meets, Cuts, Restarts, Nothing, Rules, plain_reply}

-- What has to be known, beside what its list says, of a core that meets inputs E and stands for
-- lists of entries X, newest first.
pub record CoreRules (E X : Type 0) : Type 1 where
  pub asked : NodeInput → Ask E  -- what is asked by what comes
  pub spent : List X → Option Fault  -- why one that is off can't be started, if it can't
  pub said : List X → E → Reply  -- what it answers to an input
  pub cut : X  -- the entry of a cut
  pub started : X  -- that of a restart
  pub unstarted : SaveOutcome → Option X  -- that of a restart whose save left this
  pub frames : List X → X → List Frame  -- the frames that an entry sends
  pub InRange : List X → Type 0  -- all in the list is within its ranges

-- A node that is off or down refuses all but a restart, and that where it can't be started; one
-- that is on refuses a restart, and what its core refuses.
abbrev pub refusal : {E X D : Type 0} → Words E X D → CoreRules E X → List X → Ask E → Option Fault
refusal w c past (Meets e) = if w.is_up past then w.refusal past e else Some NodeOff
refusal w c past Cuts = if w.is_up past then None else Some NodeOff
refusal w c past Restarts = if w.is_up past then Some NodeOn else c.spent past
refusal w c past Nothing = None

-- A restart of a node that is off loads its note.
abbrev pub loads : {E X D : Type 0} → Words E X D → List X → Ask E → Bool
loads w past Restarts = not (w.is_up past)
loads w past _ = false

-- What a node replies to what is asked: to an input what its core says, to all else that it is
-- done.
abbrev pub reply_to : {E X : Type 0} → CoreRules E X → List X → Ask E → Reply
reply_to c past (Meets e) = c.said past e
reply_to c past _ = plain_reply

-- The entry that is added where all goes well.
abbrev pub added_entry : {E X D : Type 0} → Words E X D → CoreRules E X → List X → Ask E → Option X
added_entry w c past (Meets e) = Some (answered w past e)
added_entry w c past Cuts = Some c.cut
added_entry w c past Restarts = Some c.started
added_entry w c past Nothing = None

-- What is refused doesn't stand in the list, but for a piece whose tag is dropped.
abbrev pub entries_past_refusal : {E X D : Type 0} → Words E X D → List X → Ask E → Fault → List X
entries_past_refusal w past (Meets e) fault = if is_drop fault then w.met e NoSave ∷ past else past
entries_past_refusal w past _ fault = past

-- What a save left that failed.
abbrev pub left_by : Bool → SaveOutcome
left_by true = LostNew
left_by false = LostOld

-- The entry of what was asked, where it was due to be saved, and its save failed.
abbrev pub unsaved_entry : {E X D : Type 0} → Words E X D → CoreRules E X → List X → Ask E → Bool → Option X
unsaved_entry w c past (Meets e) landed = option_map (λ due. w.met e (left_by landed)) (w.due past e)
unsaved_entry w c past Restarts landed = c.unstarted (left_by landed)
unsaved_entry w c past _ landed = None

-- The rules of a node that opens by a restart.
abbrev pub rules_of : {E X D : Type 0} → Words E X D → CoreRules E X → Rules E X
rules_of w c = record {
  opened = c.started ∷ [];
  asked = c.asked;
  refusal = refusal w c;
  loads = loads w;
  said = reply_to c;
  added = added_entry w c;
  passed = entries_past_refusal w;
  lost = unsaved_entry w c;
  frames = c.frames;
}
