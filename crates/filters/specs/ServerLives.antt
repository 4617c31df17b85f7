-- What a server's filter makes of each record, by the list of all that came to its server, and how
-- it runs.
use Rattle.std.specs.Prelude.{◌≡◌, ◌⊎◌, ⊤, ℕ, ◌+◌, ◌-◌, ◌^◌, ◌==◌, if◌then◌else◌, List, ◌∷◌, ◌++◌, length, drop, Option, Some, None, Result, Ok, Err}
use Rattle.std.specs.Int.{w32, w64}
use Rattle.fc_base.specs.Layouts.{number_in}
use Rattle.fc_base.specs.declared.fault.Fault.{Fault}
use Rattle.fc_base.specs.declared.fault.Fault.TheVariants.{BadNotice, NotInFlight, BadNote, NumbersSpent, NoMemory}
use Rattle.engine.specs.declared.issue.Ticket.{Ticket}
use Rattle.disk_model.specs.declared.save_outcome.SaveOutcome.TheVariants.{Saved}
use Rattle.messages.specs.FrameBytes.{frame_at, frame_faults}
use Rattle.messages.specs.declared.frame.Frame.{Frame}
use Rattle.server_core.specs.declared.input.WriteEnd.{WriteEnd}
use Rattle.server_core.specs.declared.input.WriteEnd.TheVariants as ends
use Rattle.server_core.specs.Inputs.{FrameInput}
use Rattle.server_core.specs.declared.input.Input.TheVariants.{Deliver, WriteDone}
use Rattle.server_core.specs.declared.note.ServerNote.{ServerNote}
use Rattle.server_core.specs.History.{Opening}
use Rattle.server_core.specs.Note.{Says, spelling}
use Rattle.server_core.specs.Answers.{shown_entries}
use Rattle.server_core.specs.OpenWrites.{open_write}
use Rattle.server_core.specs.Hearing.{FrameEntry, Restart, packets_heard}
use Rattle.server_core.specs.FrameAnswers.{refusal}
use Rattle.filters.specs.declared.kinds.InRecordKind.{InRecordKind}
use Rattle.filters.specs.declared.kinds.InRecordKind.TheVariants as told
use Rattle.filters.specs.declared.kinds.OutRecordKind.TheVariants.{Save}
use Rattle.filters.specs.declared.names.WriteName.{WriteName}
use Rattle.filters.specs.Kinds.{told_numbered, said_number}
use Rattle.filters.specs.Records.{record_bytes, end_bytes}
use Rattle.filters.specs.ServerOrders.{AreAllGiven}
use Rattle.filters.specs.ServerAt.{ServerAt, Leaves, at_by, taken_bytes, no_checks, noted}
use Rattle.filters.specs.NodeSteps.{WantsMemory, with_frame}
use Rattle.filters.specs.ServerTurns.{Turns}
use Rattle.filters.specs.ServerChecks.{Feeds, GivesUp}
use Rattle.filters.specs.Lives.{RecordParts, Filter}

-- Behind these bytes some turns follow, until all writes are ordered that can be, and the end.
pub record Follows (opening : Opening) (at : ServerAt) (front : List ℕ) (now : ServerAt)
    (answer : List ℕ) : Type 0 where
  pub written : List ℕ
  pub turns : Turns opening at now written
  pub ordered : AreAllGiven opening now.list
  pub all : answer ≡ front ++ (written ++ end_bytes (Ok tt))

-- What is made of an input, by why it is refused, if it is.
abbrev pub TakesBy : Option Fault → Opening → ServerAt → FrameInput → ServerAt → List ℕ → Type 0
TakesBy None opening at e now answer =
    Follows opening (at_by None opening at e) (taken_bytes opening at.list e) now answer
TakesBy (Some fault) opening at e now answer =
    Leaves (at_by (Some fault) opening at e) (end_bytes (Err fault)) now answer

-- What is made of a body: what the list says of the input; or memory is wanting. A bad one changes
-- nothing.
abbrev pub TakesBody : Opening → ServerAt → Result FrameInput Fault → ServerAt → List ℕ → Type 0
TakesBody opening at (Ok e) now answer =
    TakesBy (refusal opening at.list e) opening at e now answer ⊎ WantsMemory at now answer
TakesBody opening at (Err why) now answer = Leaves at (end_bytes (Err why)) now answer

-- What is asked by the frame that a body is, by the list of its faults.
abbrev pub frame_in : List Fault → Option Frame → Result FrameInput Fault
frame_in faults frame = with_frame Deliver faults frame

-- The write that twenty bytes name: its run in eight, its job in four, its number in eight.
abbrev pub write_in : List ℕ → Option WriteName
write_in body =
    if length body == 20
    then Some (record {
      run = number_in w64 body;
      job = number_in w32 (drop 8 body);
      seq = number_in w64 (drop 4 (drop 8 body));
    })
    else None

-- The end of an open write of this run.
abbrev pub end_of_open : WriteEnd → ℕ → Option Ticket → Result FrameInput Fault
end_of_open end run (Some ticket) =
    if ticket.key.run == run then Ok (WriteDone ticket end) else Err NotInFlight
end_of_open end run None = Err NotInFlight

-- The end of a write that is told of, where it is open.
abbrev pub end_in : Opening → List FrameEntry → WriteEnd → Option WriteName → Result FrameInput Fault
end_in opening past end (Some name) =
    end_of_open end name.run
    (open_write opening (shown_entries (packets_heard opening past)) name.job name.seq)
end_in opening past end None = Err BadNotice

-- Behind what is made of what is told of a check: where it is taken, some turns follow; else just
-- the end.
abbrev pub EndsBy : Result (Unit {0}) Fault → Opening → ServerAt → List ℕ → ServerAt → List ℕ
    → Type 0
EndsBy (Ok taken) opening at front now answer = Follows opening at front now answer
EndsBy (Err fault) opening at front now answer =
    Leaves at (front ++ end_bytes (Err fault)) now answer

-- What is made of what is told of a check, of which this `Comes` first.
pub record TakesCheck (Comes : Result (Unit {0}) Fault → ServerAt → List ℕ → Type 0)
    (opening : Opening)
    (now : ServerAt) (answer : List ℕ) : Type 0 where
  pub end : Result (Unit {0}) Fault
  pub mid : ServerAt
  pub front : List ℕ
  pub comes : Comes end mid front
  pub ends : EndsBy end opening mid front now answer

-- What is made of a record of this kind, if it is one.
abbrev pub TakesKind : Opening → ServerAt → Option InRecordKind → List ℕ → ServerAt → List ℕ → Type 0
TakesKind opening at (Some told.Frame) body now answer =
    TakesBody opening at (frame_in (frame_faults body) (frame_at body)) now answer
TakesKind opening at (Some told.Done) body now answer =
    TakesBody opening at (end_in opening at.list ends.Done (write_in body)) now answer
TakesKind opening at (Some told.Failed) body now answer =
    TakesBody opening at (end_in opening at.list ends.Failed (write_in body)) now answer
TakesKind opening at (Some told.Blocks) body now answer =
    TakesCheck (Feeds opening at body) opening now answer
TakesKind opening at (Some told.Unread) body now answer =
    TakesCheck (GivesUp opening at body) opening now answer
TakesKind opening at _ body now answer = Leaves at (end_bytes (Err BadNotice)) now answer

-- What a server makes of a record and answers; and its note says what its list does.
abbrev pub ServerTakes : Opening → ServerAt → RecordParts → ServerAt → List ℕ → Type 0
ServerTakes opening at r now answer =
    TakesKind opening at (told_numbered r.kind) r.body now answer
    × Says now.note (noted opening now.list)

-- The note behind a restart, where it said this: the next boot.
abbrev pub next_boot : ServerNote → List ℕ
next_boot said = spelling (record said { boot = said.boot + 1 })

-- The server begins over its note, with a restart behind any list of which that said what it says.
pub record BeginsBehind (me : ℕ) (note : List ℕ) (said : ServerNote) (opening : Opening)
    (first : ServerAt) : Type 0 where
  pub past : List FrameEntry
  pub me_is : opening.me ≡ me
  pub says : Says note (noted opening past)
  pub begins : first ≡ record {
    list = Restart Saved ∷ past;
    note = next_boot said;
    checks = no_checks;
  }

-- The server isn't opened: the bytes are no note; it has had its last boot; or memory is wanting.
abbrev pub RefusesNote : List ℕ → Fault → Type 0
RefusesNote note BadNote = (said : ServerNote) → Says note said → ⊥
RefusesNote note NumbersSpent = (said : ServerNote) → Says note said → said.boot ≡ 2 ^ 64 - 1
RefusesNote note NoMemory = ⊤
RefusesNote note fault = ⊥

-- A server with this number as a filter. The next boot is saved before all else.
abbrev pub server_filter : ℕ → Filter Opening ServerAt ServerNote
server_filter me = record {
  Says = Says;
  Begins = λ note said. BeginsBehind me note said;
  opening = λ said. record_bytes (said_number Save) (next_boot said) ++ end_bytes (Ok tt);
  Refuses = RefusesNote;
  Takes = ServerTakes;
}
