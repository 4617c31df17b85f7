-- A fleet of a client and one server that goes through the story; and fleets that begin, with a
-- mirror, and over a server that has served others: instances of the laws of `filter_traces`.
use Rattle.std.specs.Prelude.{◌≡◌, ◌<◌, ◌≤◌, ℕ, zero, suc, true, Some, List, [], ◌∷◌, ◌++◌, length, take, IsTrue}
use Rattle.fc_base.specs.declared.limits.TheConstants.{MAX_SERVERS}
use Rattle.messages.specs.declared.body.Body.TheVariants.{Jobs, JobsOk, Start, Trigger, State, Verify, WantState, Saved as Brings, Report}
use Rattle.messages.specs.declared.refusal.Act.TheVariants.{Cut as CutOff}
use Rattle.messages.specs.Ranges.{is_generation}
use Rattle.client_core.specs.Hearing.{packets_heard as client_heard}
use Rattle.client_core.specs.Life.{life}
use Rattle.client_core.specs.Reports.{reports}
use Rattle.client_core.specs.Words.{kept_state, shown_entries}
use Rattle.client_core.specs.Note.{Says, spelling, new_note}
use Rattle.mirror_core.specs.History as mirror
use Rattle.mirror_core.specs.Note.{Says as MirrorSays, blank as mirror_blank}
use Rattle.net_world.specs.Setup.{Setup, without_mirror}
use Rattle.server_core.specs.declared.note.ServerNote.{ServerNote}
use Rattle.server_core.specs.Hearing.{packets_heard as server_heard}
use Rattle.server_core.specs.Taken.{state_taken}
use Rattle.filters.specs.ClientLives.{ClientAt}
use Rattle.filters.specs.ServerAt.{ServerAt}
use Rattle.filter_traces.specs.Again.{CanBeDrawn, IsOlder, BeginsAgain}
use Rattle.filter_traces.specs.Begins.{BeginsEmpty, first_note}
use Rattle.filter_traces.specs.Fleets.{FleetAt, FleetStep, AtClient, AtServer, FleetBegins, Ran}
use Rattle.filter_traces.specs.Laws.{IsOneTrace}
use Rattle.filter_traces.specs.Members.{Answers, EndsWithin}
use Rattle.uses.specs.OneJob.{key, text, reading_text}
use Rattle.uses.specs.ClientCut as client
use Rattle.uses.specs.ServerCut as server
use Rattle.uses.specs.Story.{taken, report, asks, tells, sent, brings, sends, ends, shown, triggered, triggers, verifies, keeping_answer, verifying_answer, checked, tells_done, has_block, second_order, wants_block}

-- A client and one server.
abbrev pub one : Setup
one = without_mirror 1

-- Server 0 is at this moment. There are no others: they stay as they begin.
abbrev pub servers_at : ServerAt → ℕ → ServerAt
servers_at at zero = at
servers_at at (suc s) = server.first

-- The fleet, where its client and its server are at these moments, and the first n frames of the
-- story were sent.
abbrev pub fleet : ClientAt → ServerAt → ℕ → FleetAt
fleet client_at server_at n = record {
  client = client_at;
  servers = servers_at server_at;
  mirror = record { list = mirror.Restart ∷ []; note = [] };
  sent = sent n;
}

-- The client begins the run; the server stages it, and then starts it, is told that write 0 is
-- done, and the client asks for its states.
abbrev pub begins : FleetStep
begins = AtClient (Answers client.begins client.first_answer)

abbrev pub stages : FleetStep
stages = AtServer 0 (Answers (brings (asks (Jobs 1 text))) server.first_answer)

abbrev pub is_ready : FleetStep
is_ready = AtClient (Answers (brings (tells (JobsOk 1 1))) (sends (asks (Start 1)) ++ ends))

abbrev pub starts : FleetStep
starts = AtServer 0 (Answers (brings (asks (Start 1))) server.second_answer)

abbrev pub writes : FleetStep
writes = AtServer 0 (Answers tells_done (second_order ++ ends))

abbrev pub asks_for_states : FleetStep
asks_for_states = AtClient (Answers triggers (sends (asks (Trigger 1 CutOff)) ++ ends))

-- The server takes the state, and is cut within the State that it sends.
abbrev pub is_cut : FleetStep
is_cut = AtServer 0
    (EndsWithin (brings (asks (Trigger 1 CutOff))) (take 50 (sends (tells (State 1 taken)))))

-- The client keeps the state, and asks to verify; the server wants the state, which the client
-- gives; then it checks, and reports, and the client shows the report.
abbrev pub keeps : FleetStep
keeps = AtClient (Answers (brings (tells (State 1 taken))) keeping_answer)

abbrev pub asks_to_verify : FleetStep
asks_to_verify = AtClient (Answers verifies verifying_answer)

abbrev pub wants : FleetStep
wants = AtServer 0
    (Answers (brings (asks (Verify 1 1 reading_text))) (sends (tells (WantState 1 1 0)) ++ ends))

abbrev pub gives : FleetStep
gives = AtClient (Answers (brings (tells (WantState 1 1 0))) (sends (asks (Brings 1 taken)) ++ ends))

abbrev pub checks : FleetStep
checks = AtServer 0 (Answers (brings (asks (Brings 1 taken))) (wants_block ++ ends))

abbrev pub tells_report : FleetStep
tells_report = AtServer 0 (Answers has_block (sends (tells (Report 1 1 0 1 report)) ++ ends))

abbrev pub shows : FleetStep
shows = AtClient (Answers (brings (tells (Report 1 1 0 1 report))) ends)

-- All that happens, the newest first.
abbrev pub steps : List FleetStep
steps = shows ∷ tells_report ∷ checks ∷ gives ∷ wants ∷ asks_to_verify ∷ keeps ∷ is_cut
    ∷ asks_for_states ∷ writes ∷ starts ∷ is_ready ∷ stages ∷ begins ∷ []

-- The fleet begins over empty notes, and all that happens: the server takes a state, which the
-- client keeps, and the client holds a report. By the law that is one trace, in which the fleet
-- holds one state of the job.
pub record GoesThroughTheStory : Type 0 where
  pub is_within : 50 < length (sends (tells (State 1 taken)))
  pub begins : FleetBegins one (fleet client.first server.first 0)
  pub ran : Ran one (fleet client.first server.first 0) steps (fleet shown checked 11)
  pub is_taken :
      state_taken server.opening (server_heard server.opening triggered.list) 0 ≡ Some taken
  pub is_kept : kept_state client.opening (client_heard client.opening shown.list) key ≡ Some taken
  pub is_reported :
      reports (life client.opening (shown_entries (client_heard client.opening shown.list)))
      ≡ record { run = 1; attempt = 1; server = 0; job = 0; report = report } ∷ []
  pub one_trace : IsOneTrace one (fleet shown checked 11)

-- A fleet of one server with a mirror.
abbrev pub mirrored : Setup
mirrored = record { servers = 1; mirror = true }

-- A fleet with a mirror begins: its client anew in generation 3, over a note of that, and its
-- mirror over an empty one.
pub record BeginsWithAMirror : Type 0 where
  pub few : mirrored.servers ≤ MAX_SERVERS
  pub generation : IsTrue (is_generation 3)
  pub says : Says (spelling (new_note 3)) (first_note true 3)
  pub blank : MirrorSays [] mirror_blank
  pub begins : (first : FleetAt) × BeginsEmpty mirrored (spelling (new_note 3)) [] first

-- What the note of a server says that was booted four times, and whose last run was the seventh.
abbrev pub older : ℕ → ServerNote
older s = record { boot = 4; last_run = 7 }

-- A fleet begins over such a server, whose client has drawn that 9 runs and 2 attempts were given.
pub record BeginsOverOlder : Type 0 where
  pub few : 1 ≤ MAX_SERVERS
  pub drawn : CanBeDrawn 9 2
  pub are_older : (s : ℕ) → s < 1 → IsOlder 9 (older s)
  pub begins : (first : FleetAt) × BeginsAgain 1 9 2 older first
