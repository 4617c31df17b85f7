-- A client's filter that is cut in its answer, and one that is cut as it begins anew: instances of
-- the laws of clients that are cut.
use Rattle.std.specs.Prelude.{◌<◌, ℕ, ◌+◌, false, List, [], ◌∷◌, ◌++◌, length, take, Ok, IsTrue}
use Rattle.std.specs.Int.{w64}
use Rattle.fc_base.specs.Layouts.{bytes_of}
use Rattle.disk_model.specs.declared.save_outcome.SaveOutcome.TheVariants.{Saved}
use Rattle.messages.specs.declared.body.Body.TheVariants.{Jobs, StateAck}
use Rattle.messages.specs.declared.frame.Frame.TheVariants.{Whole}
use Rattle.messages.specs.FrameBytes.{frame_spelling}
use Rattle.messages.specs.Ranges.{is_generation}
use Rattle.client_core.specs.declared.note.ClientNote.{ClientNote}
use Rattle.client_core.specs.Hearing.{FrameEntry, Met, Cut, Restart, Renew, Lose}
use Rattle.client_core.specs.History.{Opening}
use Rattle.client_core.specs.Inputs.{Begin, Deliver}
use Rattle.client_core.specs.Note.{blank, Says, spelling}
use Rattle.filters.specs.declared.beginning.Beginning.TheVariants.{Renewed}
use Rattle.filters.specs.declared.kinds.OutRecordKind.TheVariants.{Save, Send, Number}
use Rattle.filters.specs.declared.kinds.InRecordKind.TheVariants as told
use Rattle.filters.specs.ClientCuts.{GoesOnFrom, IsRenewedFrom}
use Rattle.filters.specs.ClientLives.{ClientAt, ClientTakes, BeginsBehind, MayBegin, restarts, opening_bytes}
use Rattle.filters.specs.ClientSteps.{noted}
use Rattle.filters.specs.Kinds.{told_number, said_number}
use Rattle.filters.specs.Lives.{RecordParts, Lives}
use Rattle.filters.specs.Cuts.{CutsBehind}
use Rattle.filters.specs.NodeCuts.{saved, CutsAnswer}
use Rattle.filters.specs.Records.{record_bytes, end_bytes}
use Rattle.uses.specs.OneJob.{text, state}
use Rattle.uses.specs.Packets.{to_server, state_packet}

-- A client of one server, over an empty note.
abbrev pub opening : Opening
opening = record { servers = 1; noted = blank }

-- The client begins over that note.
abbrev pub first : ClientAt
first = record { list = Restart false ∷ []; note = [] }

-- What the note says once one run was begun.
abbrev pub one_run : ClientNote
one_run = record blank { runs = 1 }

-- The client behind the first record: the run is begun.
abbrev pub begun : ClientAt
begun = record { list = Met (Begin text) Saved ∷ first.list; note = spelling one_run }

-- The client behind the second one: the state of the job came from the server, and is kept.
abbrev pub kept : ClientAt
kept = record {
  list = Met (Deliver (Whole state_packet)) Saved ∷ begun.list;
  note = spelling (record one_run { kept = state ∷ [] });
}

-- The record by which a run is begun, and the one that brings the state.
abbrev pub begins : RecordParts
begins = record { kind = told_number told.Begin; body = text }

abbrev pub brings : RecordParts
brings = record { kind = told_number told.Frame; body = frame_spelling (Whole state_packet) }

-- What is answered to the first record: the note, the number of the run, its Jobs, and the end.
abbrev pub first_answer : List ℕ
first_answer =
    (record_bytes (said_number Save) begun.note
    ++ (record_bytes (said_number Number) (bytes_of w64 1)
    ++ record_bytes (said_number Send) (frame_spelling (Whole (to_server (Jobs 1 text))))))
    ++ end_bytes (Ok tt)

-- The StateAck, in its record.
abbrev pub acknowledges : List ℕ
acknowledges = record_bytes (said_number Send) (frame_spelling (Whole (to_server (StateAck 1 0))))

-- What is answered to the second one: the note with the state, the StateAck, and the end.
abbrev pub second_answer : List ℕ
second_answer = (record_bytes (said_number Save) kept.note ++ acknowledges) ++ end_bytes (Ok tt)

-- What the client reads, the newest first, and all that it answers.
abbrev pub records : List RecordParts
records = brings ∷ begins ∷ []

abbrev pub answers : List ℕ
answers = first_answer ++ second_answer

-- The answers are cut behind so many bytes of the second one, which leaves the client so; and over
-- the note that it leaves the next life begins. That there is such a life is what the law says.
pub record ClientGoesOn (n : ℕ) (left : ClientAt) : Type 0 where
  pub may : MayBegin (restarts false) first.note
  pub says : Says first.note (noted opening first.list)
  pub lives : Lives (ClientTakes opening) first records kept answers
  pub cuts :
      CutsBehind (ClientTakes opening) (CutsAnswer (λ (at : ClientAt). at.note)) first records
      (take (length first_answer + n) answers) left
  pub next :
      BeginsBehind (restarts false) opening.servers left.note opening
      (record { list = Restart false ∷ (Cut ∷ left.list); note = left.note })
  pub goes_on : GoesOnFrom false opening first records (take (length first_answer + n) answers)

-- A cut within the save of the state leaves the client as if that had not come; one behind the
-- save, within the StateAck, leaves it with the state.
pub record ClientIsCut : Type 0 where
  pub is_in_save : 100 < length (saved kept.note)
  pub in_save : ClientGoesOn 100 begun
  pub is_behind_save : length (saved kept.note) < 200
  pub is_in_sent : 200 < length (saved kept.note ++ acknowledges)
  pub behind_save : ClientGoesOn 200 kept

-- A client with a mirror has begun in generation 1; it was cut, and its note is lost.
abbrev pub lost : List FrameEntry
lost = Lose ∷ Cut ∷ Renew 1 Saved ∷ []

-- That client begins anew, in generation 2, and is cut within the save of its new note.
pub record RenewalIsCut : Type 0 where
  pub generation : IsTrue (is_generation 2)
  pub says : Says [] (noted opening lost)
  pub renewed : IsRenewedFrom 2 opening lost (take 20 (opening_bytes (Renewed 2)))
