-- A mirror's filter that is cut in its answer: an instance of the law of mirrors that are cut.
use Rattle.std.specs.Prelude.{◌<◌, ℕ, ◌+◌, List, [], ◌∷◌, ◌++◌, length, take, Ok}
use Rattle.disk_model.specs.declared.save_outcome.SaveOutcome.TheVariants.{Saved}
use Rattle.messages.specs.declared.body.Body.{Body}
use Rattle.messages.specs.declared.body.Body.TheVariants.{Copy, CopyOk, Fetch, Granted}
use Rattle.messages.specs.declared.frame.Frame.{Frame}
use Rattle.messages.specs.declared.frame.Frame.TheVariants.{Whole}
use Rattle.messages.specs.declared.node.Node.TheVariants.{Client, Mirror}
use Rattle.messages.specs.FrameBytes.{frame_spelling}
use Rattle.mirror_core.specs.History.{Met, Cut, Restart}
use Rattle.mirror_core.specs.Note.{blank, Says, spelling}
use Rattle.mirror_core.specs.Words.{words_noted}
use Rattle.filters.specs.declared.kinds.OutRecordKind.TheVariants.{Save, Send}
use Rattle.filters.specs.declared.kinds.InRecordKind.TheVariants as told
use Rattle.filters.specs.Kinds.{told_number, said_number}
use Rattle.filters.specs.Lives.{RecordParts, Lives}
use Rattle.filters.specs.MirrorCuts.{GoesOnFrom}
use Rattle.filters.specs.Cuts.{CutsBehind}
use Rattle.filters.specs.NodeCuts.{saved, CutsAnswer}
use Rattle.filters.specs.MirrorLives.{MirrorAt, MirrorTakes, BeginsBehind}
use Rattle.filters.specs.Records.{record_bytes, end_bytes}
use Rattle.uses.specs.OneJob.{state}

-- The client says this to the mirror.
abbrev pub asks : Body → Frame
asks body = Whole (record { from = Client; to = Mirror; body = body })

-- The record that brings what the client says.
abbrev pub reads : Body → RecordParts
reads body = record { kind = told_number told.Frame; body = frame_spelling (asks body) }

-- The mirror says this to the client, in a record.
abbrev pub says : Body → List ℕ
says body =
    record_bytes (said_number Send)
    (frame_spelling (Whole (record { from = Mirror; to = Client; body = body })))

-- The mirror begins over an empty note.
abbrev pub first : MirrorAt
first = record { list = Restart ∷ []; note = [] }

-- The mirror behind the first record: generation 1 is granted.
abbrev pub granted : MirrorAt
granted = record {
  list = Met (asks (Fetch 1)) Saved ∷ first.list;
  note = spelling (record { generation = 1; kept = [] });
}

-- The mirror behind the second one: the state that came is kept.
abbrev pub kept : MirrorAt
kept = record {
  list = Met (asks (Copy state)) Saved ∷ granted.list;
  note = spelling (record { generation = 1; kept = state ∷ [] });
}

-- What is answered to the first record: the note, the Granted, and the end.
abbrev pub first_answer : List ℕ
first_answer =
    (record_bytes (said_number Save) granted.note ++ says (Granted 1)) ++ end_bytes (Ok tt)

-- What is answered to the second one: the note with the state, the CopyOk, and the end.
abbrev pub second_answer : List ℕ
second_answer =
    (record_bytes (said_number Save) kept.note ++ says (CopyOk 1 0 0)) ++ end_bytes (Ok tt)

-- What the mirror reads, the newest first, and all that it answers.
abbrev pub records : List RecordParts
records = reads (Copy state) ∷ reads (Fetch 1) ∷ []

abbrev pub answers : List ℕ
answers = first_answer ++ second_answer

-- The answers are cut behind so many bytes of the second one, which leaves the mirror so; and over
-- the note that it leaves the next life begins. That there is such a life is what the law says.
pub record MirrorGoesOn (n : ℕ) (left : MirrorAt) : Type 0 where
  pub says : Says first.note (words_noted blank first.list)
  pub lives : Lives (MirrorTakes blank) first records kept answers
  pub cuts :
      CutsBehind (MirrorTakes blank) (CutsAnswer (λ (at : MirrorAt). at.note)) first records
      (take (length first_answer + n) answers) left
  pub next :
      BeginsBehind left.note blank
      (record { list = Restart ∷ (Cut ∷ left.list); note = left.note })
  pub goes_on : GoesOnFrom blank first records (take (length first_answer + n) answers)

-- A cut within the save of the state leaves the mirror as if that had not come; one behind the
-- save, within the CopyOk, leaves it with the state.
pub record MirrorIsCut : Type 0 where
  pub is_in_save : 100 < length (saved kept.note)
  pub in_save : MirrorGoesOn 100 granted
  pub is_behind_save : length (saved kept.note) < 180
  pub is_in_sent : 180 < length (saved kept.note ++ says (CopyOk 1 0 0))
  pub behind_save : MirrorGoesOn 180 kept
