-- What holds of every list of what came to a client.
use Rattle.std.specs.Prelude.{◌≡◌, ◌⊎◌, ℕ, ◌<◌, Bool, true, false, not, ◌&&◌, List, [], ◌∷◌, ◌++◌, Some, None, Contains, IsTrue}
use Rattle.std.specs.List.{AllByRecursion}
use Rattle.fc_base.specs.declared.numbers.Key.{Key}
use Rattle.disk_model.specs.declared.save_outcome.SaveOutcome.{SaveOutcome}
use Rattle.verify_state.specs.State.{State}
use Rattle.messages.specs.declared.packet.PacketParts.{PacketParts}
use Rattle.messages.specs.declared.body.Body.{Body}
use Rattle.messages.specs.declared.body.Body.TheVariants as bodies
use Rattle.messages.specs.declared.node.Node.TheVariants as nodes
use Rattle.messages.specs.Bodies.{kind_of}
use Rattle.messages.specs.declared.kind.PacketKind.{PacketKind}
use Rattle.messages.specs.declared.kind.PacketKind.TheVariants as kinds
use Rattle.messages.specs.Laws.{IsPacket}
use Rattle.client_core.specs.Inputs.{Tick}
use Rattle.client_core.specs.declared.received.Received.{Received}
use Rattle.verify_state.specs.StateTable.{kept_of}
use Rattle.client_core.specs.declared.note.ClientNote.{ClientNote}
use Rattle.client_core.specs.Note.{IsNoted, blank}
use Rattle.client_core.specs.History.{Opening, Entry, Met, Lose}
use Rattle.client_core.specs.Words.{is_on, has_mirror, words_noted, kept_state, shown_entries}
use Rattle.client_core.specs.Life.{life, deeds_done}
use Rattle.client_core.specs.Requests.{Served, trigger_at}
use Rattle.client_core.specs.Reports.{has_report, reports}
use Rattle.client_core.specs.Packets.{to_server, to_mirror, packets}
use Rattle.client_core.specs.Ranges.{packet_in, packets_come, CameInRange, OpensInRange}

-- A packet of a server to the client.
abbrev pub from_server : Body → ℕ → PacketParts
from_server body server = record { from = nodes.Server server; to = nodes.Client; body = body }

-- A packet of the mirror to the client.
abbrev pub from_mirror : Body → PacketParts
from_mirror body = record { from = nodes.Mirror; to = nodes.Client; body = body }

-- The note isn't lost.
abbrev pub loses_nothing : List Entry → Bool
loses_nothing [] = true
loses_nothing (Lose ∷ past) = false
loses_nothing (_ ∷ past) = loses_nothing past

-- A kept state is never replaced, whatever comes but the loss of the note.
abbrev pub FirstKeptStays : Type 0
FirstKeptStays =
    (opening : Opening) (newer past : List Entry) (key : Key) (state : State) →
    IsTrue (loses_nothing newer) →
    kept_state opening past key ≡ Some state → kept_state opening (newer ++ past) key ≡ Some state

-- A state that is kept, and was not at the opening, came in a State from its server, or in a Copy
-- from the mirror.
abbrev pub KeptWasSent : Type 0
KeptWasSent =
    (opening : Opening) (past : List Entry) (key : Key) (state : State) →
    kept_state opening past key ≡ Some state →
    (kept_state opening [] key ≡ Some state)
    ⊎ (((jobs : ℕ) × Contains (packets_come past)
    (from_server (bodies.State jobs state) key.server))
    ⊎ Contains (packets_come past) (from_mirror (bodies.Copy state)))

-- Each state in the note was there at the opening, or came in a State from its server, or in a Copy
-- from the mirror.
abbrev pub NotedWasSent : Type 0
NotedWasSent =
    (opening : Opening) (past : List Entry) (state : State) →
    Contains (words_noted opening past).kept state → Contains opening.noted.kept state
    ⊎ (((jobs : ℕ) × Contains (packets_come past)
    (from_server (bodies.State jobs state) state.key.server))
    ⊎ Contains (packets_come past) (from_mirror (bodies.Copy state)))

-- After the loss of its note a client goes on as one that opens with a blank note.
pub record GoesOnAsBlank (opening : Opening) (newer past : List Entry) : Type 0 where
  pub noted_is : words_noted opening (newer ++ Lose ∷ past)
      ≡ words_noted (record opening { noted = blank }) newer
  pub life_is : life opening (newer ++ Lose ∷ past) ≡ life (record opening { noted = blank }) newer
  pub done_is : deeds_done opening (newer ++ Lose ∷ past)
      ≡ deeds_done (record opening { noted = blank }) newer ++ deeds_done opening past

-- Behind the loss of its note a client goes on as one with a blank note.
abbrev pub LossBeginsAnew : Type 0
LossBeginsAnew = (opening : Opening) (newer past : List Entry) → GoesOnAsBlank opening newer past

-- Each Saved that is sent has the kept state of its key.
abbrev pub SavedIsKept : Type 0
SavedIsKept =
    (opening : Opening) (past : List Entry) (entry : Entry) (p : PacketParts) (attempt : ℕ)
    (state : State) →
    Contains (packets opening past entry) p → p.body ≡ bodies.Saved attempt state
    → kept_state opening past state.key ≡ Some state

-- A NoSaved is sent only of a job of which no state is kept.
abbrev pub NoSavedIsOfNone : Type 0
NoSavedIsOfNone =
    (opening : Opening) (past : List Entry) (entry : Entry) (run attempt server job : ℕ) →
    Contains (packets opening past entry) (to_server (bodies.NoSaved run attempt job) server)
    → kept_state opening (entry ∷ past) (record { run = run; server = server; job = job }) ≡ None

-- Each Copy that is sent has a state of the note before, or of the State that has just come.
abbrev pub CopiesAreOfStates : Type 0
CopiesAreOfStates =
    (opening : Opening) (past : List Entry) (entry : Entry) (p : PacketParts) (state : State) →
    Contains (packets opening past entry) p → p.body ≡ bodies.Copy state →
    Contains (words_noted opening past).kept state
    ⊎ ((server jobs : ℕ) × Contains (packet_in entry)
    (from_server (bodies.State jobs state) server))

-- A StateAck is sent only for a state that is kept by then, or to a server that says that there is
-- none.
abbrev pub AcksAreFor : Type 0
AcksAreFor =
    (opening : Opening) (past : List Entry) (entry : Entry) (run server job : ℕ) →
    Contains (packets opening past entry) (to_server (bodies.StateAck run job) server) →
    ((state : State)
    × (kept_state opening (entry ∷ past) (record { run = run; server = server; job = job })
    ≡ Some state))
    ⊎ ((jobs : ℕ) × Contains (packet_in entry) (from_server (bodies.NoState run job jobs) server))

-- A client that is on answers its looks from all that came.
abbrev pub LooksAtAll : Type 0
LooksAtAll = (past : List Entry) → is_on past ≡ true → shown_entries past ≡ past

-- A tick asks again and changes nothing.
abbrev pub TickOnlyLooks : Type 0
TickOnlyLooks =
    (opening : Opening) (past : List Entry) (left : SaveOutcome) →
    (words_noted opening (Met Tick left ∷ past) ≡ words_noted opening past)
    × (life opening (Met Tick left ∷ past) ≡ life opening past)

-- A note that keeps its ranges goes on to, where the packets that come keep theirs.
abbrev pub NotesKeepRanges : Type 0
NotesKeepRanges =
    (opening : Opening) (past : List Entry) → IsNoted opening.noted → CameInRange past
    → IsNoted (words_noted opening past)

-- A state of the job is kept, or the server has said that there is none.
abbrev pub HasAnswer : ClientNote → List PacketParts → ℕ → ℕ → ℕ → Type 0
HasAnswer n packets run server job =
    ((state : State)
    × (kept_of (record { run = run; server = server; job = job }) n.kept ≡ Some state))
    ⊎ ((jobs : ℕ) × Contains packets (from_server (bodies.NoState run job jobs) server))

-- The server has said that the run has so many jobs.
abbrev pub TellsJobs : List PacketParts → ℕ → ℕ → ℕ → Type 0
TellsJobs packets run server jobs =
    ((state : State) × (state.key.run ≡ run)
    × Contains packets (from_server (bodies.State jobs state) server))
    ⊎ ((job : ℕ) × Contains packets (from_server (bodies.NoState run job jobs) server))

-- Each job that the run has at a server has an answer.
pub record EndsWell (n : ClientNote) (packets : List PacketParts) (run server : ℕ) : Type 0 where
  pub jobs : ℕ
  pub told : TellsJobs packets run server jobs
  pub each : (job : ℕ) → job < jobs → HasAnswer n packets run server job

-- A trigger ends well at a server only so.
abbrev pub TriggersEndWell : Type 0
TriggersEndWell =
    (opening : Opening) (past : List Entry) (run server : ℕ) →
    trigger_at run server (life opening past) ≡ Served
    → EndsWell (words_noted opening past) (packets_come past) run server

-- The kinds of packets that are for servers.
abbrev pub is_for_server : PacketKind → Bool
is_for_server kinds.Jobs = true
is_for_server kinds.Start = true
is_for_server kinds.Trigger = true
is_for_server kinds.StateAck = true
is_for_server kinds.Stop = true
is_for_server kinds.Verify = true
is_for_server kinds.Saved = true
is_for_server kinds.NoSaved = true
is_for_server _ = false

-- A packet of the client to one of so many servers, of a kind that is for servers.
abbrev pub GoesToServer : ℕ → PacketParts → Type 0
GoesToServer servers p =
    (server : ℕ) × (server < servers) × (p ≡ to_server p.body server)
    × IsTrue (is_for_server (kind_of p.body))

-- The kinds of packets that are for a mirror.
abbrev pub is_for_mirror : PacketKind → Bool
is_for_mirror kinds.Copy = true
is_for_mirror kinds.Fetch = true
is_for_mirror _ = false

-- A packet of the client to its mirror, of a kind that is for a mirror.
abbrev pub GoesToMirror : Bool → PacketParts → Type 0
GoesToMirror mirror p =
    (mirror ≡ true) × (p ≡ to_mirror p.body) × IsTrue (is_for_mirror (kind_of p.body))

-- What a client sends goes to a server that it drives or to its mirror, and is of a kind that is
-- for it.
abbrev pub PacketsGoToPeers : Type 0
PacketsGoToPeers =
    (opening : Opening) (past : List Entry) (entry : Entry) (p : PacketParts) →
    Contains (packets opening past entry) p →
    GoesToServer opening.servers p ⊎ GoesToMirror (has_mirror past) p

-- The packets that a client sends are within the ranges of packets, where what came is within its.
abbrev pub PacketsAreInRange : Type 0
PacketsAreInRange =
    (opening : Opening) (past : List Entry) (entry : Entry) →
    OpensInRange opening → CameInRange (entry ∷ past) → AllByRecursion IsPacket (packets opening past entry)

-- The reports of this life came from their servers.
abbrev pub ReportsCame : Type 0
ReportsCame =
    (opening : Opening) (past : List Entry) (r : Received) →
    Contains (reports (life opening past)) r →
    (jobs : ℕ)
    × Contains (packets_come past) (from_server
    (bodies.Report r.run r.attempt r.job jobs r.report) r.server)

-- No two reports are of one attempt, server and job.
abbrev pub has_distinct_reports : List Received → Bool
has_distinct_reports [] = true
has_distinct_reports (r ∷ rs) =
    not (has_report r.attempt r.server r.job rs) && has_distinct_reports rs

-- No two reports of this life are of one attempt, server and job.
abbrev pub OneReportEach : Type 0
OneReportEach =
    (opening : Opening) (past : List Entry) →
    IsTrue (has_distinct_reports (reports (life opening past)))
