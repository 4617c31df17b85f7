-- What comes to a client and to its one server, and what both answer, in a story that can be
-- followed by hand: a run is begun and started, and triggered with one write done and one in
-- flight; the server is cut within the State that it sends; the client keeps the state; and then
-- the run is verified by it.
use Rattle.std.specs.Prelude.{ℕ, false, List, [], ◌∷◌, ◌++◌, take, None, Some, Ok}
use Rattle.std.specs.Int.{w32, w64}
use Rattle.disk_model.specs.declared.save_outcome.SaveOutcome.TheVariants.{NoSave, Saved}
use Rattle.fc_base.specs.Layouts.{bytes_of}
use Rattle.fc_base.specs.declared.report.ReportParts.{ReportParts}
use Rattle.fc_base.specs.declared.report.ReportEnd.TheVariants.{Whole as AllSeen}
use Rattle.messages.specs.declared.body.Body.{Body}
use Rattle.messages.specs.declared.body.Body.TheVariants.{Jobs, JobsOk, Start, Started, Trigger, State, StateAck, Verify, WantState, Saved as Brings, Report}
use Rattle.messages.specs.declared.frame.Frame.{Frame}
use Rattle.messages.specs.declared.frame.Frame.TheVariants.{Whole}
use Rattle.messages.specs.declared.node.Node.TheVariants.{Server, Client}
use Rattle.messages.specs.declared.refusal.Act.TheVariants.{Cut as CutOff}
use Rattle.messages.specs.FrameBytes.{frame_spelling}
use Rattle.recheck.specs.Expected.{expected_by}
use Rattle.verify_state.specs.State.{State as TakenState}
use Rattle.write_order.specs.Stamps.{stamped_sector}
use Rattle.client_core.specs.declared.note.ClientNote.{ClientNote}
use Rattle.client_core.specs.Hearing.{Met as Comes}
use Rattle.client_core.specs.Inputs.{Trigger as Triggers, Verify as Verifies, Deliver as Hears}
use Rattle.client_core.specs.Note.{spelling as client_note}
use Rattle.server_core.specs.declared.input.Input.TheVariants.{Issue, WriteDone, CheckDone}
use Rattle.server_core.specs.declared.input.WriteEnd.TheVariants.{Done}
use Rattle.server_core.specs.Hearing.{Met, Cut, Restart}
use Rattle.server_core.specs.Note.{spelling as server_note}
use Rattle.filters.specs.declared.kinds.OutRecordKind.TheVariants.{Save, Number, Order, Want}
use Rattle.filters.specs.declared.kinds.InRecordKind.TheVariants as told
use Rattle.filters.specs.ClientLives.{ClientAt}
use Rattle.filters.specs.NodeTells.{send_bytes}
use Rattle.filters.specs.Kinds.{told_number, said_number}
use Rattle.filters.specs.Lives.{RecordParts}
use Rattle.filters.specs.Records.{record_bytes, end_bytes}
use Rattle.filters.specs.ServerAt.{ServerAt, no_checks, with_check}
use Rattle.filters.specs.ServerTurns.{order_name}
use Rattle.filters.specs.UnderWay.{UnderWay}
use Rattle.uses.specs.OneJob.{key, job, text, reading_text, state}
use Rattle.uses.specs.Packets.{to_server}
use Rattle.uses.specs.ClientCut as client
use Rattle.uses.specs.ServerCut.{hears, started}
use Rattle.uses.specs.ServerLoss.{ticket}

-- The state that is taken: write 0 is done, and write 1 is in flight.
abbrev pub taken : TakenState
taken = record state { issued = 2; counted = 0 ∷ [] }

-- Of the two blocks block 0 is checked, and it holds write 0.
abbrev pub report : ReportParts
report = record { checked = 1; faults = 0; first = []; end = AllSeen }

-- ---- frames

-- What the client says to the server, as a frame; and what the server says to the client.
abbrev pub asks : Body → Frame
asks body = Whole (to_server body)

abbrev pub tells : Body → Frame
tells body = Whole (record { from = Server 0; to = Client; body = body })

-- All frames of the story, in the order in which they are sent.
abbrev pub frames : List Frame
frames = asks (Jobs 1 text) ∷ tells (JobsOk 1 1) ∷ asks (Start 1) ∷ tells (Started 1)
    ∷ asks (Trigger 1 CutOff) ∷ tells (State 1 taken) ∷ asks (StateAck 1 0)
    ∷ asks (Verify 1 1 reading_text) ∷ tells (WantState 1 1 0) ∷ asks (Brings 1 taken)
    ∷ tells (Report 1 1 0 1 report) ∷ []

-- The first frames of these.
abbrev pub sent : ℕ → List Frame
sent n = take n frames

-- The record that brings a frame, and the one that sends it.
abbrev pub brings : Frame → RecordParts
brings f = record { kind = told_number told.Frame; body = frame_spelling f }

abbrev pub sends : Frame → List ℕ
sends f = send_bytes (frame_spelling f ∷ [])

-- The end of an answer.
abbrev pub ends : List ℕ
ends = end_bytes (Ok tt)

-- ---- the client

-- What the server says comes to the client, with no save.
abbrev pub heard : Body → ClientAt → ClientAt
heard body at = record at { list = Comes (Hears (tells body)) NoSave ∷ at.list }

-- The client behind the JobsOk: the run is to start.
abbrev pub starting : ClientAt
starting = heard (JobsOk 1 1) client.begun

-- The client that triggers the run, with a cut.
abbrev pub triggering : ClientAt
triggering = record starting { list = Comes (Triggers 1 CutOff) NoSave ∷ starting.list }

-- The client that keeps the state, and what its note says.
abbrev pub kept_note : ClientNote
kept_note = record client.one_run { kept = taken ∷ [] }

abbrev pub keeping : ClientAt
keeping = record {
  list = Comes (Hears (tells (State 1 taken))) Saved ∷ triggering.list;
  note = client_note kept_note;
}

-- The client that verifies the run, in the first attempt, and what its note says.
abbrev pub verify_note : ClientNote
verify_note = record kept_note { attempts = 1 }

abbrev pub verifying : ClientAt
verifying = record {
  list = Comes (Verifies 1 reading_text) Saved ∷ keeping.list;
  note = client_note verify_note;
}

-- The client that gives the state, which is wanted; and the one that holds the report.
abbrev pub giving : ClientAt
giving = heard (WantState 1 1 0) verifying

abbrev pub shown : ClientAt
shown = heard (Report 1 1 0 1 report) giving

-- The records by which the client is asked to trigger, and to verify.
abbrev pub triggers : RecordParts
triggers = record { kind = told_number told.Trigger; body = bytes_of w64 1 ++ 1 ∷ [] }

abbrev pub verifies : RecordParts
verifies = record { kind = told_number told.Verify; body = bytes_of w64 1 ++ reading_text }

-- What the client answers where it keeps the state, and where it verifies.
abbrev pub keeping_answer : List ℕ
keeping_answer =
    (record_bytes (said_number Save) keeping.note ++ sends (asks (StateAck 1 0))) ++ ends

abbrev pub verifying_answer : List ℕ
verifying_answer =
    (record_bytes (said_number Save) verifying.note
    ++ (record_bytes (said_number Number) (bytes_of w64 1)
    ++ sends (asks (Verify 1 1 reading_text)))) ++ ends

-- ---- the server

-- The server once write 0 is done, and write 1 is ordered.
abbrev pub writing : ServerAt
writing = record started {
  list = Met (Issue 0) NoSave ∷ (Met (WriteDone (ticket 0) Done) NoSave ∷ started.list);
}

-- The server behind the Trigger.
abbrev pub triggered : ServerAt
triggered = record writing { list = hears (Trigger 1 CutOff) ∷ writing.list }

-- The server that was cut, and begins anew, in its second boot.
abbrev pub again : ServerAt
again = record {
  list = Restart Saved ∷ (Cut ∷ triggered.list);
  note = server_note (record { boot = 2; last_run = 1 });
  checks = no_checks;
}

-- The server that is to verify the run, and wants its state.
abbrev pub wanting : ServerAt
wanting = record again { list = hears (Verify 1 1 reading_text) ∷ again.list }

-- The check of the job, which wants block 0.
abbrev pub check : UnderWay
check = record {
  boot = 2;
  attempt = 1;
  expected = expected_by key job (Some taken);
  fatal = false;
  came = [];
  first = 0;
  count = 1;
}

-- The server to which the state came back: the check begins.
abbrev pub checking : ServerAt
checking = with_check 0 (Some check) (record wanting { list = hears (Brings 1 taken) ∷ wanting.list })

-- The server to which the block came: the check is done.
abbrev pub checked : ServerAt
checked = with_check 0 None
    (record checking { list = Met (CheckDone 2 1 0 report) NoSave ∷ checking.list })

-- The record that tells that write 0 is done, and the one that has block 0, as write 0 left it.
abbrev pub tells_done : RecordParts
tells_done =
    record { kind = told_number told.Done; body = bytes_of w64 1 ++ (bytes_of w32 0 ++ bytes_of w64 0) }

abbrev pub has_block : RecordParts
has_block = record {
  kind = told_number told.Blocks;
  body = (bytes_of w64 1 ++ (bytes_of w32 0 ++ bytes_of w32 0)) ++ stamped_sector key 0 0 0;
}

-- The order of write 1, and that block 0 is wanted.
abbrev pub second_order : List ℕ
second_order = record_bytes (said_number Order) (order_name key 1 1 ++ stamped_sector key 1 1 0)

abbrev pub wants_block : List ℕ
wants_block =
    record_bytes (said_number Want)
    (bytes_of w64 1 ++ (bytes_of w32 0 ++ (bytes_of w32 0 ++ (bytes_of w32 1 ++ bytes_of w32 512))))
