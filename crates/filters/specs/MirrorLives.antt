-- What the mirror's filter makes of each record, by the list of all that came to its mirror, and how
-- it runs.
use Rattle.std.specs.Prelude.{◌≡◌, ◌⊎◌, ⊤, List, ◌∷◌, ◌++◌, Option, Some, None, Result, Ok, Err, ℕ}
use Rattle.fc_base.specs.declared.fault.Fault.{Fault}
use Rattle.fc_base.specs.declared.fault.Fault.TheVariants.{BadNotice, BadNote, NoMemory}
use Rattle.disk_model.specs.Notes.{Note}
use Rattle.messages.specs.FrameBytes.{frame_at, frame_faults}
use Rattle.messages.specs.declared.frame.Frame.{Frame}
use Rattle.messages.specs.declared.refusal.Act.TheVariants as acts
use Rattle.mirror_core.specs.declared.mirror.Mirror.{Mirror}
use Rattle.mirror_core.specs.declared.note.MirrorNote.{MirrorNote}
use Rattle.mirror_core.specs.Ends.{answered_entry}
use Rattle.mirror_core.specs.History.{Entry, Restart}
use Rattle.mirror_core.specs.Note.{Says, spelling}
use Rattle.mirror_core.specs.Packets.{packets, frame_bytes}
use Rattle.mirror_core.specs.Stands.{note_in, StandsFor}
use Rattle.mirror_core.specs.Words.{words_noted, refusal, due, would_save}
use Rattle.filters.specs.declared.kinds.InRecordKind.{InRecordKind}
use Rattle.filters.specs.declared.kinds.InRecordKind.TheVariants as told
use Rattle.filters.specs.declared.node_step.NodeStep.{NodeStep}
use Rattle.filters.specs.Kept.{note_with}
use Rattle.filters.specs.Kinds.{told_numbered}
use Rattle.filters.specs.Records.{end_bytes}
use Rattle.filters.specs.NodeSteps.{Leaves, WantsMemory, with_frame}
use Rattle.filters.specs.NodeTells.{answer_bytes}
use Rattle.filters.specs.Lives.{RecordParts, Filter}

-- A mirror at some moment: the list of all that came to it, the newest first, and its note.
pub record MirrorAt : Type 0 where
  pub list : List Entry
  pub note : List ℕ

-- A mirror is at this moment.
abbrev pub IsAt : {T : Type 0} → (T → Note) → Mirror T → MirrorNote → MirrorAt → Type 0
IsAt note mirror opening at =
    StandsFor note mirror opening at.list × ((note_in note mirror).bytes ≡ at.note)

-- The list behind a frame that is answered.
abbrev pub after_answer : MirrorNote → List Entry → Frame → List Entry
after_answer opening past f = answered_entry opening past f ∷ past

-- The note as a frame that is taken leaves it, if it is to be saved.
abbrev pub new_note : MirrorNote → List Entry → Frame → List ℕ
new_note opening past f = spelling (words_noted opening (after_answer opening past f))

-- What is answered to a frame that is taken: whether something is due to be saved, and the frames;
-- no number is given, and no cut asked for.
abbrev pub answer_to : MirrorNote → List Entry → Frame → NodeStep
answer_to opening past f = record {
  saves = would_save opening past f;
  number = None;
  frames = frame_bytes (packets opening past (answered_entry opening past f));
  act = acts.None;
}

-- What is written for a frame that is taken: its answer, over the note as it leaves that.
abbrev pub taken_bytes : MirrorNote → List Entry → Frame → List ℕ
taken_bytes opening past f = answer_bytes (new_note opening past f) (answer_to opening past f)

-- What is answered to a frame, by why it is refused, if it is.
abbrev pub reply_by : Option Fault → MirrorNote → List Entry → Frame → List ℕ
reply_by None opening past f = taken_bytes opening past f ++ end_bytes (Ok tt)
reply_by (Some fault) opening past f = end_bytes (Err fault)

-- The mirror behind a frame: one that is refused changes nothing.
abbrev pub at_by : Option Fault → MirrorNote → MirrorAt → Frame → MirrorAt
at_by None opening at f = record {
  list = after_answer opening at.list f;
  note = note_with (due opening at.list f) (new_note opening at.list f) at.note;
}
at_by (Some fault) opening at f = at

-- What is made of a body: what the list says of the frame; or memory is wanting. A bad one changes
-- nothing.
abbrev pub TakesBody : MirrorNote → MirrorAt → Result Frame Fault → MirrorAt → List ℕ → Type 0
TakesBody opening at (Ok f) now answer =
    Leaves (at_by (refusal opening at.list f) opening at f)
    (reply_by (refusal opening at.list f) opening at.list f) now
    answer
    ⊎ WantsMemory at now answer
TakesBody opening at (Err why) now answer = Leaves at (end_bytes (Err why)) now answer

-- What a body asks that is to be a frame.
abbrev pub frame_in : List ℕ → Result Frame Fault
frame_in body = with_frame (λ f. f) (frame_faults body) (frame_at body)

-- What is made of a record of this kind, if it is one: only frames are for a mirror.
abbrev pub TakesKind : MirrorNote → MirrorAt → Option InRecordKind → List ℕ → MirrorAt → List ℕ → Type 0
TakesKind opening at (Some told.Frame) body now answer =
    TakesBody opening at (frame_in body) now answer
TakesKind opening at _ body now answer = Leaves at (end_bytes (Err BadNotice)) now answer

-- What the mirror makes of a record and answers; and its note says what its list does.
abbrev pub MirrorTakes : MirrorNote → MirrorAt → RecordParts → MirrorAt → List ℕ → Type 0
MirrorTakes opening at r now answer =
    TakesKind opening at (told_numbered r.kind) r.body now answer
    × Says now.note (words_noted opening now.list)

-- The mirror begins over its note, with a restart behind any list of which that says what it says.
pub record BeginsBehind (note : List ℕ) (opening : MirrorNote) (first : MirrorAt) : Type 0 where
  pub past : List Entry
  pub says : Says note (words_noted opening past)
  pub begins : first ≡ record { list = Restart ∷ past; note = note }

-- The mirror isn't opened: the bytes are no note, or memory is wanting.
abbrev pub RefusesNote : List ℕ → Fault → Type 0
RefusesNote note BadNote = (said : MirrorNote) → Says note said → ⊥
RefusesNote note NoMemory = ⊤
RefusesNote note fault = ⊥

-- The mirror as a filter. That it is opened is answered before all else.
abbrev pub mirror_filter : Filter MirrorNote MirrorAt MirrorNote
mirror_filter = record {
  Says = Says;
  Begins = λ note said. BeginsBehind note;
  opening = λ said. end_bytes (Ok tt);
  Refuses = RefusesNote;
  Takes = MirrorTakes;
}
