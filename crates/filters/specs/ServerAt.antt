-- A server's filter at some moment, and what an input leaves of its server and is answered.
use Rattle.std.specs.Prelude.{◌≡◌, ℕ, ◌==◌, if◌then◌else◌, List, ◌∷◌, map, is_some, Option, Some, None}
use Rattle.fc_base.specs.declared.fault.Fault.{Fault}
use Rattle.disk_model.specs.Notes.{Note}
use Rattle.disk_model.specs.declared.save_outcome.SaveOutcome.TheVariants.{NoSave}
use Rattle.messages.specs.FrameBytes.{frame_spelling}
use Rattle.server_core.specs.Inputs.{FrameInput}
use Rattle.server_core.specs.declared.note.ServerNote.{ServerNote}
use Rattle.server_core.specs.declared.server.Server.{Server}
use Rattle.server_core.specs.History.{Opening}
use Rattle.server_core.specs.Note.{spelling}
use Rattle.server_core.specs.Words.{words_noted}
use Rattle.server_core.specs.Hearing.{FrameEntry, Met, packets_heard}
use Rattle.server_core.specs.FrameAnswers.{due, frames, act, answered_entry}
use Rattle.server_core.specs.FrameEnds.{StandsFor, note_in}
use Rattle.filters.specs.Kept.{note_with}
use Rattle.filters.specs.declared.node_step.NodeStep.{NodeStep}
use Rattle.filters.specs.NodeTells.{answer_bytes}
use Rattle.filters.specs.UnderWay.{UnderWay}
pub use Rattle.filters.specs.NodeSteps.{Leaves}

-- A server's filter at some moment: the list of all that came to its server, the newest first; its
-- note; and which check of each job is under way.
pub record ServerAt : Type 0 where
  pub list : List FrameEntry
  pub note : List ℕ
  pub checks : ℕ → Option UnderWay

-- A server is at this moment.
abbrev pub IsAt : {T : Type 0} → (T → Note) → Server T → Opening → ServerAt → Type 0
IsAt note server opening at =
    StandsFor note server opening at.list × ((note_in note server).bytes ≡ at.note)

-- No check is under way.
abbrev pub no_checks : ℕ → Option UnderWay
no_checks j = None

-- The check of job j is this one now, if it is under way.
abbrev pub with_check : ℕ → Option UnderWay → ServerAt → ServerAt
with_check j u at = record at { checks = λ i. if i == j then u else at.checks i }

-- What the note says behind a list.
abbrev pub noted : Opening → List FrameEntry → ServerNote
noted opening past = words_noted opening (packets_heard opening past)

-- The note as an input that is taken leaves it, if it is to be saved.
abbrev pub new_note : Opening → List FrameEntry → FrameInput → List ℕ
new_note opening past e = spelling (noted opening (answered_entry opening past e ∷ past))

-- The server behind an input, by why it is refused, if it is: it stands in the list either way.
abbrev pub at_by : Option Fault → Opening → ServerAt → FrameInput → ServerAt
at_by None opening at e = record at {
  list = answered_entry opening at.list e ∷ at.list;
  note = note_with (due opening at.list e) (new_note opening at.list e) at.note;
}
at_by (Some fault) opening at e = record at { list = Met e NoSave ∷ at.list }

-- What is answered to an input that is taken: whether something is due to be saved, the frames, and
-- whether the cut is asked for; no number is given.
abbrev pub answer_to : Opening → List FrameEntry → FrameInput → NodeStep
answer_to opening past e = record {
  saves = is_some (due opening past e);
  number = None;
  frames = map frame_spelling (frames opening past (answered_entry opening past e));
  act = act opening past e;
}

-- What is written for an input that is taken: its answer, over the note as it leaves that.
abbrev pub taken_bytes : Opening → List FrameEntry → FrameInput → List ℕ
taken_bytes opening past e = answer_bytes (new_note opening past e) (answer_to opening past e)
