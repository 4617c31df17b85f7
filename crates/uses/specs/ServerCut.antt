-- A server's filter that is cut in its answer: an instance of the law of servers that are cut.
use Rattle.std.specs.Prelude.{◌<◌, ℕ, ◌+◌, List, [], ◌∷◌, ◌++◌, length, take, Ok}
use Rattle.disk_model.specs.declared.save_outcome.SaveOutcome.TheVariants.{NoSave, Saved}
use Rattle.messages.specs.declared.body.Body.{Body}
use Rattle.messages.specs.declared.body.Body.TheVariants.{Jobs, JobsOk, Start, Started}
use Rattle.messages.specs.declared.frame.Frame.TheVariants.{Whole}
use Rattle.messages.specs.declared.node.Node.TheVariants.{Server, Client}
use Rattle.messages.specs.FrameBytes.{frame_spelling}
use Rattle.write_order.specs.Stamps.{stamped_sector}
use Rattle.server_core.specs.declared.input.Input.TheVariants.{Deliver, Issue}
use Rattle.server_core.specs.Hearing.{FrameEntry, Met, Cut, Restart}
use Rattle.server_core.specs.History.{Opening}
use Rattle.server_core.specs.Note.{Says, spelling}
use Rattle.filters.specs.declared.kinds.OutRecordKind.TheVariants.{Save, Send, Order}
use Rattle.filters.specs.declared.kinds.InRecordKind.TheVariants as told
use Rattle.filters.specs.Kinds.{told_number, said_number}
use Rattle.filters.specs.Lives.{RecordParts, Lives}
use Rattle.filters.specs.Cuts.{CutsBehind}
use Rattle.filters.specs.NodeCuts.{saved, CutsAnswer}
use Rattle.filters.specs.Records.{record_bytes, end_bytes}
use Rattle.filters.specs.ServerAt.{ServerAt, no_checks, noted}
use Rattle.filters.specs.ServerCuts.{GoesOnFrom}
use Rattle.filters.specs.ServerLives.{ServerTakes, BeginsBehind, next_boot}
use Rattle.filters.specs.ServerTurns.{order_name}
use Rattle.uses.specs.OneJob.{key, text}
use Rattle.uses.specs.Packets.{to_server}

-- Server 0, whose note was empty.
abbrev pub opening : Opening
opening = record { me = 0; boot = 0; last = 0 }

-- The server begins, in its first boot.
abbrev pub first : ServerAt
first = record {
  list = Restart Saved ∷ [];
  note = spelling (record { boot = 1; last_run = 0 });
  checks = no_checks;
}

-- What the client says comes to the server, with no save.
abbrev pub hears : Body → FrameEntry
hears body = Met (Deliver (Whole (to_server body))) NoSave

-- The server behind the first record: the text of run 1 came.
abbrev pub staged : ServerAt
staged = record first { list = hears (Jobs 1 text) ∷ first.list }

-- The server behind the second one: the run is started, which is noted, and its first write is
-- ordered.
abbrev pub started : ServerAt
started = record {
  list = Met (Issue 0) NoSave ∷ (Met (Deliver (Whole (to_server (Start 1)))) Saved ∷ staged.list);
  note = spelling (record { boot = 1; last_run = 1 });
  checks = no_checks;
}

-- The record that brings what the client says, and the one with what the server says.
abbrev pub reads : Body → RecordParts
reads body = record { kind = told_number told.Frame; body = frame_spelling (Whole (to_server body)) }

abbrev pub says : Body → List ℕ
says body =
    record_bytes (said_number Send)
    (frame_spelling (Whole (record { from = Server 0; to = Client; body = body })))

-- The order of write 0: which it is, and the bytes of its block.
abbrev pub first_order : List ℕ
first_order = record_bytes (said_number Order) (order_name key 0 0 ++ stamped_sector key 0 0 0)

-- What is answered to the text: the JobsOk, and the end.
abbrev pub first_answer : List ℕ
first_answer = says (JobsOk 1 1) ++ end_bytes (Ok tt)

-- What is answered to the Start: the note, the Started, the order, and the end.
abbrev pub second_answer : List ℕ
second_answer =
    (record_bytes (said_number Save) started.note ++ says (Started 1))
    ++ (first_order ++ end_bytes (Ok tt))

-- What the server reads, the newest first, and all that it answers.
abbrev pub records : List RecordParts
records = reads (Start 1) ∷ reads (Jobs 1 text) ∷ []

abbrev pub answers : List ℕ
answers = first_answer ++ second_answer

-- The answers are cut behind so many bytes of the second one, which leaves the server so; and over
-- the note that it leaves the next life begins. That there is such a life is what the law says.
pub record ServerGoesOn (n : ℕ) (left : ServerAt) : Type 0 where
  pub says : Says first.note (noted opening first.list)
  pub lives : Lives (ServerTakes opening) first records started answers
  pub cuts :
      CutsBehind (ServerTakes opening) (CutsAnswer (λ (at : ServerAt). at.note)) first records
      (take (length first_answer + n) answers) left
  pub next :
      BeginsBehind opening.me left.note (noted opening left.list) opening
      (record {
        list = Restart Saved ∷ (Cut ∷ left.list);
        note = next_boot (noted opening left.list);
        checks = no_checks;
      })
  pub goes_on : GoesOnFrom opening first records (take (length first_answer + n) answers)

-- A cut within the save of the Start leaves the server as if that had not come; one behind the
-- save, within the order, leaves it with the run started, and the write ordered.
pub record ServerIsCut : Type 0 where
  pub is_in_save : 20 < length (saved started.note)
  pub in_save : ServerGoesOn 20 staged
  pub is_behind_started : length (saved started.note ++ says (Started 1)) < 100
  pub is_in_order : 100 < length (saved started.note ++ (says (Started 1) ++ first_order))
  pub behind_save : ServerGoesOn 100 started
