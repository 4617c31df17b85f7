-- What the client answers to what is asked of it, by the list of all that came to it, the newest
-- first.
use Rattle.std.specs.Prelude.{ℕ, ◌+◌, List, ◌∷◌, map, Option, Some, None, is_some, if◌then◌else◌}
use Rattle.disk_model.specs.declared.save_outcome.SaveOutcome.TheVariants.{NoSave}
use Rattle.messages.specs.declared.refusal.Act.TheVariants as acts
use Rattle.messages.specs.FrameBytes.{frame_spelling}
use Rattle.messages.specs.Senses.{is_drop}
use Rattle.client_core.specs.Inputs.{FrameInput, Begin, Verify}
use Rattle.client_core.specs.declared.note.ClientNote.{ClientNote}
use Rattle.client_core.specs.History.{Opening}
use Rattle.client_core.specs.Words.{words_noted}
use Rattle.client_core.specs.Hearing.{FrameEntry, Met, packets_heard}
use Rattle.client_core.specs.FrameAnswers.{sense, due, frames, answered_entry}
use Rattle.filters.specs.declared.node_step.NodeStep.{NodeStep}

-- What the note says behind a list.
abbrev pub noted : Opening → List FrameEntry → ClientNote
noted opening past = words_noted opening (packets_heard opening past)

-- The list behind an input that is answered.
abbrev pub after_answer : Opening → List FrameEntry → FrameInput → List FrameEntry
after_answer opening past e = answered_entry opening past e ∷ past

-- The list behind an input that is refused: it isn't in it, but where it drops what has come of a
-- piece's tag.
abbrev pub after_refusal : Opening → List FrameEntry → FrameInput → List FrameEntry
after_refusal opening past e = if is_drop (sense opening past e) then Met e NoSave ∷ past else past

-- The number that is given: of a run, or of an attempt.
abbrev pub number_given : Opening → List FrameEntry → FrameInput → Option ℕ
number_given opening past (Begin text) = Some ((noted opening past).runs + 1)
number_given opening past (Verify run text) = Some ((noted opening past).attempts + 1)
number_given opening past _ = None

-- What is answered to an input that is taken: whether something is due to be saved, the number that is
-- given, and the frames; no cut is asked for.
abbrev pub answer_to : Opening → List FrameEntry → FrameInput → NodeStep
answer_to opening past e = record {
  saves = is_some (due opening past e);
  number = number_given opening past e;
  frames = map frame_spelling (frames opening past (answered_entry opening past e));
  act = acts.None;
}
