-- What the client's filter makes of each record, by the list of all that came to its client, and
-- how it runs.
use Rattle.std.specs.Prelude.{◌≡◌, ◌≢◌, ◌⊎◌, ⊤, ℕ, Bool, true, false, List, [], ◌∷◌, ◌++◌, slice_get, Option, Some, None, Result, Ok, Err, IsTrue}
use Rattle.fc_base.specs.Layouts.{spelled_blocks}
use Rattle.fc_base.specs.declared.fault.Fault.{Fault}
use Rattle.fc_base.specs.declared.fault.Fault.TheVariants.{BadNotice, BadNote, BadGeneration, NoMemory}
use Rattle.disk_model.specs.Notes.{Note}
use Rattle.disk_model.specs.declared.save_outcome.SaveOutcome.TheVariants.{Saved}
use Rattle.messages.specs.Ranges.{is_generation}
use Rattle.client_core.specs.declared.client.Client.{Client}
use Rattle.client_core.specs.Inputs.{FrameInput}
use Rattle.client_core.specs.declared.note.ClientNote.{ClientNote}
use Rattle.client_core.specs.declared.received.Received.{Received}
use Rattle.client_core.specs.History.{Opening}
use Rattle.client_core.specs.Note.{Says, new_note as note_anew, spelling}
use Rattle.client_core.specs.Words.{shown_entries}
use Rattle.client_core.specs.Life.{life}
use Rattle.client_core.specs.Outcomes.{outcome}
use Rattle.client_core.specs.Reports.{reports}
use Rattle.client_core.specs.Stands.{IsBadNote}
use Rattle.client_core.specs.Hearing.{FrameEntry, Restart, Renew, packets_heard}
use Rattle.client_core.specs.FrameAnswers.{refusal, due}
use Rattle.client_core.specs.FrameEnds.{StandsFor, note_in}
use Rattle.attempt_ends.specs.AttemptEnds.{ends_told}
use Rattle.filters.specs.declared.asking.EndsAsked.{EndsAsked}
use Rattle.filters.specs.declared.asking.LookAsked.{LookAsked}
use Rattle.filters.specs.declared.beginning.Beginning.{Beginning}
use Rattle.filters.specs.declared.beginning.Beginning.TheVariants.{Alone, Mirrored, Renewed}
use Rattle.filters.specs.declared.kinds.InRecordKind.{InRecordKind}
use Rattle.filters.specs.declared.kinds.InRecordKind.TheVariants as told
use Rattle.filters.specs.declared.kinds.OutRecordKind.TheVariants.{Save, Outcome, Report}
use Rattle.filters.specs.Kept.{note_with}
use Rattle.filters.specs.Kinds.{told_numbered, said_number}
use Rattle.filters.specs.Records.{record_bytes, end_bytes}
use Rattle.filters.specs.EndTells.{told_bytes}
use Rattle.filters.specs.ClientAsks.{number_alone, look_in, ends_in, input_in, outcome_number, report_names, report_counts}
use Rattle.filters.specs.ClientSteps.{noted, after_answer, after_refusal, answer_to}
use Rattle.filters.specs.NodeTells.{answer_bytes}
use Rattle.filters.specs.NodeSteps.{Leaves, WantsMemory}
use Rattle.filters.specs.Lives.{RecordParts, Filter}

-- A client at some moment: the list of all that came to it, the newest first, and its note.
pub record ClientAt : Type 0 where
  pub list : List FrameEntry
  pub note : List ℕ

-- A client is at this moment.
abbrev pub IsAt : {T : Type 0} → (T → Note) → Client T → Opening → ClientAt → Type 0
IsAt note client opening at =
    StandsFor note client opening at.list × ((note_in note client).bytes ≡ at.note)

-- The note as an input that is taken leaves it, if it is to be saved.
abbrev pub new_note : Opening → List FrameEntry → FrameInput → List ℕ
new_note opening past e = spelling (noted opening (after_answer opening past e))

-- What is written for an input that is taken: its answer, over the note as it leaves that.
abbrev pub taken_bytes : Opening → List FrameEntry → FrameInput → List ℕ
taken_bytes opening past e = answer_bytes (new_note opening past e) (answer_to opening past e)

-- What is answered to an input, by why it is refused, if it is.
abbrev pub reply_by : Option Fault → Opening → List FrameEntry → FrameInput → List ℕ
reply_by None opening past e = taken_bytes opening past e ++ end_bytes (Ok tt)
reply_by (Some fault) opening past e = end_bytes (Err fault)

-- The client behind an input.
abbrev pub at_by : Option Fault → Opening → ClientAt → FrameInput → ClientAt
at_by None opening at e = record {
  list = after_answer opening at.list e;
  note = note_with (due opening at.list e) (new_note opening at.list e) at.note;
}
at_by (Some fault) opening at e = record at { list = after_refusal opening at.list e }

-- What is made of an input: what the list says of it; or memory is wanting.
abbrev pub TakesInput : Opening → ClientAt → FrameInput → ClientAt → List ℕ → Type 0
TakesInput opening at e now answer =
    Leaves (at_by (refusal opening at.list e) opening at e)
    (reply_by (refusal opening at.list e) opening at.list e) now
    answer
    ⊎ WantsMemory at now answer

-- What is made of a body: a bad one changes nothing.
abbrev pub TakesBody : Opening → ClientAt → Result FrameInput Fault → ClientAt → List ℕ → Type 0
TakesBody opening at (Ok e) now answer = TakesInput opening at e now answer
TakesBody opening at (Err why) now answer = Leaves at (end_bytes (Err why)) now answer

-- How a request stands is told behind what was asked.
abbrev pub look_bytes : Opening → List FrameEntry → List ℕ → LookAsked → List ℕ
look_bytes opening past body asked =
    record_bytes (said_number Outcome) (body
    ++ outcome_number (outcome opening
    (shown_entries (packets_heard opening past)) asked.kind asked.number
    asked.server)
    ∷ [])

-- A report is shown with whose it is, its counts, and the first faulty blocks.
abbrev pub report_bytes : Received → List ℕ
report_bytes r =
    record_bytes (said_number Report)
    (report_names r ++ (report_counts r.report ++ spelled_blocks r.report.first))

-- A report is shown, if there is one.
abbrev pub report_if : Option Received → List ℕ
report_if (Some r) = report_bytes r
report_if None = []

-- The report of this place among those that came.
abbrev pub show_bytes : Opening → List FrameEntry → ℕ → List ℕ
show_bytes opening past place =
    report_if (slice_get (reports
    (life opening (shown_entries (packets_heard opening past)))) place)

-- What is answered to what was asked, and the end behind it; or that nothing was.
abbrev pub shown_or_bad : {A : Type 0} → (A → List ℕ) → Option A → List ℕ
shown_or_bad show (Some asked) = show asked ++ end_bytes (Ok tt)
shown_or_bad show None = end_bytes (Err BadNotice)

-- What is told of how an attempt of a run ended: at each of its places, and in one word.
abbrev pub ends_bytes : Opening → List FrameEntry → EndsAsked → List ℕ
ends_bytes opening past asked =
    told_bytes asked
    (ends_told opening (shown_entries (packets_heard opening past)) asked.run asked.attempt)

-- What is told of how an attempt ended, which changes nothing; or memory is wanting. A question
-- that can't be read is refused.
abbrev pub TellsEnds : Opening → ClientAt → Option EndsAsked → ClientAt → List ℕ → Type 0
TellsEnds opening at (Some asked) now answer =
    Leaves at (ends_bytes opening at.list asked ++ end_bytes (Ok tt)) now answer
    ⊎ WantsMemory at now answer
TellsEnds opening at None now answer = Leaves at (end_bytes (Err BadNotice)) now answer

-- What is made of a record of this kind, if it is one. To look and to show changes nothing.
abbrev pub TakesKind : Opening → ClientAt → Option InRecordKind → List ℕ → ClientAt → List ℕ → Type 0
TakesKind opening at (Some told.Look) body now answer =
    Leaves at (shown_or_bad (look_bytes opening at.list body) (look_in body)) now answer
TakesKind opening at (Some told.Show) body now answer =
    Leaves at (shown_or_bad (show_bytes opening at.list) (number_alone body)) now answer
TakesKind opening at (Some told.Ends) body now answer =
    TellsEnds opening at (ends_in body) now answer
TakesKind opening at (Some kind) body now answer =
    TakesBody opening at (input_in kind body) now answer
TakesKind opening at None body now answer = Leaves at (end_bytes (Err BadNotice)) now answer

-- What the client makes of a record and answers; and its note says what its list does.
abbrev pub ClientTakes : Opening → ClientAt → RecordParts → ClientAt → List ℕ → Type 0
ClientTakes opening at r now answer =
    TakesKind opening at (told_numbered r.kind) r.body now answer
    × Says now.note (noted opening now.list)

-- A restart over the note, with a mirror or without one.
abbrev pub restarts : Bool → Beginning
restarts false = Alone
restarts true = Mirrored

-- The client is begun anew.
abbrev pub is_renewal : Beginning → Bool
is_renewal Alone = false
is_renewal Mirrored = false
is_renewal (Renewed g) = true

-- A client may begin so over this note: with a mirror over one that isn't empty; anew over an empty
-- one, in a generation that there can be.
abbrev pub MayBegin : Beginning → List ℕ → Type 0
MayBegin Alone note = ⊤
MayBegin Mirrored note = note ≢ []
MayBegin (Renewed g) note = (note ≡ []) × IsTrue (is_generation g)

-- What stands in the list of a client that begins: a restart, or a renewal, which is saved.
abbrev pub first_entry : Beginning → FrameEntry
first_entry Alone = Restart false
first_entry Mirrored = Restart true
first_entry (Renewed g) = Renew g Saved

-- The note of a client that begins: the one that was there, or that of its generation.
abbrev pub first_note : Beginning → List ℕ → List ℕ
first_note Alone note = note
first_note Mirrored note = note
first_note (Renewed g) note = spelling (note_anew g)

-- Where a client is that begins so, behind this list and over this note.
abbrev pub starts : Beginning → List FrameEntry → List ℕ → ClientAt
starts beginning past note = record {
  list = first_entry beginning ∷ past;
  note = first_note beginning note;
}

-- The client begins over its note, behind any list of which that says what it says.
pub record BeginsBehind (beginning : Beginning) (servers : ℕ) (note : List ℕ) (opening : Opening)
    (first : ClientAt) : Type 0 where
  pub past : List FrameEntry
  pub servers_are : opening.servers ≡ servers
  pub says : Says note (noted opening past)
  pub begins : first ≡ starts beginning past note

-- What is answered to the note: its save, where the client begins anew; and the end.
abbrev pub opening_bytes : Beginning → List ℕ
opening_bytes Alone = end_bytes (Ok tt)
opening_bytes Mirrored = end_bytes (Ok tt)
opening_bytes (Renewed g) =
    record_bytes (said_number Save) (spelling (note_anew g)) ++ end_bytes (Ok tt)

-- The client isn't restarted: the bytes are no note that it may have, or memory is wanting.
abbrev pub NotRestarted : Bool → List ℕ → Fault → Type 0
NotRestarted mirror note BadNote = IsBadNote mirror note
NotRestarted mirror note NoMemory = ⊤
NotRestarted mirror note fault = ⊥

-- The client doesn't begin anew, in this order: no generation has the number; there is a note;
-- memory is wanting.
abbrev pub NotRenewed : ℕ → List ℕ → Fault → Type 0
NotRenewed g note BadGeneration = is_generation g ≡ false
NotRenewed g note BadNote = IsTrue (is_generation g) × (note ≢ [])
NotRenewed g note NoMemory = ⊤
NotRenewed g note fault = ⊥

-- The client isn't opened so over these bytes.
abbrev pub RefusesNote : Beginning → List ℕ → Fault → Type 0
RefusesNote Alone note fault = NotRestarted false note fault
RefusesNote Mirrored note fault = NotRestarted true note fault
RefusesNote (Renewed g) note fault = NotRenewed g note fault

-- The client of so many servers as a filter. That it is opened is answered before all else.
abbrev pub client_filter : Beginning → ℕ → Filter Opening ClientAt ClientNote
client_filter beginning servers = record {
  Says = λ note said. MayBegin beginning note × Says note said;
  Begins = λ note said. BeginsBehind beginning servers note;
  opening = λ said. opening_bytes beginning;
  Refuses = RefusesNote beginning;
  Takes = ClientTakes;
}
