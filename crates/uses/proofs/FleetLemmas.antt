-- The fleet goes through the story, by the steps of its nodes and by the laws.
use Rattle.std.proofs.Common.{◌≡◌, ◌<◌, ℕ, zero, suc, inl, refl, arith, List, [], ◌∷◌, ◌++◌, length, take}
use Rattle.std.specs.Prelude.{Contains, IfSome, Some}
use Rattle.std.proofs.lemmas.Bool.{ltb-true}
use Rattle.fc_base.specs.Layouts.{bytes_of}
use Rattle.verify_state.specs.Misfit.{misfit}
use Rattle.verify_state.specs.Spelling.{spelling, key_bytes, job_bytes}
use Rattle.rand_core.specs.Steps.{u32_at, stream_of, word_bytes}
use Rattle.rand_core.specs.Stream.{fill_bytes}
use Rattle.write_order.specs.Words.{word, state_after}
use Rattle.disk_model.specs.declared.save_outcome.SaveOutcome.TheVariants.{NoSave, Saved}
use Rattle.messages.specs.declared.frame.Frame.{Frame}
use Rattle.messages.specs.declared.body.Body.TheVariants.{Jobs, JobsOk, Start, Trigger, State, Verify, WantState, Saved as Brings, Report}
use Rattle.messages.specs.declared.node.Node.TheVariants.{Server, Client}
use Rattle.messages.specs.declared.refusal.Act.TheVariants.{Cut as CutOff}
use Rattle.messages.specs.Bodies.{spelled_state}
use Rattle.messages.specs.FrameLaws.{FramesAreRead}
use Rattle.messages.specs.Laws.{LengthsAreBounded}
use Rattle.client_core.specs.Hearing.{FrameEntry as ClientEntry, Met as Comes, packets_heard as client_heard}
use Rattle.client_core.specs.Life.{life}
use Rattle.client_core.specs.Reports.{reports}
use Rattle.client_core.specs.Words.{kept_state, shown_entries}
use Rattle.client_core.specs.FrameAnswers.{frames as client_frames}
use Rattle.client_core.specs.Inputs.{Begin, Trigger as Triggers, Verify as Verifies, Deliver as Hears}
use Rattle.client_core.specs.Note.{SaysWhatIsWritten}
use Rattle.client_core.specs.Refusals.{has_next, is_of_generation, is_free_to_number, is_begun, is_for_client, is_from_server, is_from_mirror}
use Rattle.server_core.specs.declared.input.Input.TheVariants.{Deliver, Issue, WriteDone, CheckDone}
use Rattle.server_core.specs.declared.input.WriteEnd.TheVariants.{Done}
use Rattle.server_core.specs.FrameAnswers.{frames as server_frames}
use Rattle.server_core.specs.Hearing.{FrameEntry as ServerEntry, Met, Cut, Restart, packets_heard as server_heard}
use Rattle.server_core.specs.Run.{has_open, have_ended}
use Rattle.server_core.specs.Taken.{job_state, state_taken}
use Rattle.server_core.specs.Texts.{jobs_for}
use Rattle.net_world.specs.Frames.{frames_sent, to_of}
use Rattle.filters.specs.ClientLives.{ClientAt}
use Rattle.filters.specs.Kinds.{told_numbered}
use Rattle.filters.specs.ServerAt.{ServerAt}
use Rattle.filter_traces.specs.Fleets.{AtClient, AtServer, FleetBegins, Ran, Steps, BeginsAtServer}
use Rattle.filter_traces.specs.Laws.{FleetsAreTraces}
use Rattle.filter_traces.specs.Members.{Happening, Answers, EndsWithin, Becomes, WasSentTo, client_member, server_member, frame_bytes_read, sent_since}
use Rattle.uses.specs.OneJob.{key, text, reading_text}
use Rattle.uses.specs.ClientCut as client
use Rattle.uses.specs.ServerCut as server
use Rattle.uses.specs.ServerLoss.{ticket}
use Rattle.uses.specs.Story.{taken, report, asks, tells, sent, brings, sends, ends, triggers, verifies, keeping_answer, verifying_answer, tells_done, has_block, second_order, wants_block, starting, triggering, keeping, verifying, giving, shown, writing, triggered, again, wanting, checking, checked}
use Rattle.uses.specs.Fleet.{one, fleet, steps, servers_at, GoesThroughTheStory, mirrored, BeginsWithAMirror, older, BeginsOverOlder}
use Rattle.uses.specs.Fleet as fleets
use Rattle.uses.proofs.ClientCutLemmas.{says_blank}
use Rattle.uses.proofs.MirrorCutLemmas.{says_first}
use Rattle.uses.proofs.StoryClientLemmas as client_part
use Rattle.uses.proofs.StoryServerLemmas as server_part
use Rattle.uses.proofs.ServerCutLemmas.{says_start}

-- ---- the beginning

servers_begin : (s : ℕ) → BeginsAtServer s [] (servers_at server.first s)
servers_begin zero = record { older = []; list_is = refl; fresh = refl; saved = refl; checks = refl }
servers_begin (suc s) = record { older = []; list_is = refl; fresh = refl; saved = refl; checks = refl }

begins : FleetBegins one (fleet client.first server.first 0)
unfolding frames_sent
begins = record {
  past = [];
  legal = tt;
  fits = record { few = omega arith; steps = tt };
  client = record { list_is = refl; fresh = tt; says = says_blank };
  servers = servers_begin;
  mirror = record { older = []; list_is = refl; fresh = refl; says = says_first };
  sent = refl;
}

-- ---- a step

client_goes : (h : Happening) (at now : ClientAt) (s : ServerAt) (n m : ℕ) (more : List ClientEntry) → IfSome (frame_bytes_read h) (WasSentTo (sent n) Client)
    → Becomes (client_member one) at h now → now.list ≡ more ++ at.list → sent m ≡ sent n ++ sent_since (client_frames client.opening) at.list more
    → Steps one (fleet at s n) (AtClient h) (fleet now s m)
client_goes h at now s n m more reads becomes list_is sent_is = record {
  goes = record { reads = reads; becomes = becomes; more = more; list_is = list_is; sent_is = sent_is };
  servers_are = λ r. refl;
  mirror_is = refl;
}

others : (at now : ServerAt) (r : ℕ) → (r ≡ 0 → ⊥) → servers_at now r ≡ servers_at at r
others at now zero other = absurd (other refl)
others at now (suc r) other = refl

server_goes : (h : Happening) (c : ClientAt) (at now : ServerAt) (n m : ℕ) (more : List ServerEntry) → IfSome (frame_bytes_read h) (WasSentTo (sent n) (Server 0))
    → Becomes (server_member 0) at h now → now.list ≡ more ++ at.list → sent m ≡ sent n ++ sent_since (server_frames server.opening) at.list more
    → Steps one (fleet c at n) (AtServer 0 h) (fleet c now m)
server_goes h c at now n m more reads becomes list_is sent_is = record {
  one_of = omega arith;
  goes = record { reads = reads; becomes = becomes; more = more; list_is = list_is; sent_is = sent_is };
  client_is = refl;
  others = others at now;
  mirror_is = refl;
}

-- ---- the frames that are sent with each step

sent_as_begins : sent 1 ≡ sent 0 ++ sent_since (client_frames client.opening) client.first.list (Comes (Begin text) Saved ∷ [])
unfolding bytes_of spelled_state spelling key_bytes job_bytes has_next is_of_generation is_free_to_number is_begun is_for_client is_from_server is_from_mirror
sent_as_begins = refl

sent_as_stages : sent 2 ≡ sent 1 ++ sent_since (server_frames server.opening) server.first.list (server.hears (Jobs 1 text) ∷ [])
unfolding bytes_of spelled_state spelling key_bytes job_bytes jobs_for has_open have_ended job_state misfit word state_after u32_at stream_of word_bytes fill_bytes
sent_as_stages = refl

sent_as_is_ready : sent 3 ≡ sent 2 ++ sent_since (client_frames client.opening) client.begun.list (Comes (Hears (tells (JobsOk 1 1))) NoSave ∷ [])
unfolding bytes_of spelled_state spelling key_bytes job_bytes has_next is_of_generation is_free_to_number is_begun is_for_client is_from_server is_from_mirror
sent_as_is_ready = refl

sent_as_starts : sent 4 ≡ sent 3 ++ sent_since (server_frames server.opening) server.staged.list (Met (Issue 0) NoSave ∷ Met (Deliver (asks (Start 1))) Saved ∷ [])
unfolding bytes_of spelled_state spelling key_bytes job_bytes jobs_for has_open have_ended job_state misfit word state_after u32_at stream_of word_bytes fill_bytes
sent_as_starts = refl

sent_as_writes : sent 4 ≡ sent 4 ++ sent_since (server_frames server.opening) server.started.list (Met (Issue 0) NoSave ∷ Met (WriteDone (ticket 0) Done) NoSave ∷ [])
unfolding bytes_of spelled_state spelling key_bytes job_bytes jobs_for has_open have_ended job_state misfit word state_after u32_at stream_of word_bytes fill_bytes
sent_as_writes = refl

sent_as_asks_for_states : sent 5 ≡ sent 4 ++ sent_since (client_frames client.opening) starting.list (Comes (Triggers 1 CutOff) NoSave ∷ [])
unfolding bytes_of spelled_state spelling key_bytes job_bytes has_next is_of_generation is_free_to_number is_begun is_for_client is_from_server is_from_mirror
sent_as_asks_for_states = refl

sent_as_is_cut : sent 6 ≡ sent 5 ++ sent_since (server_frames server.opening) writing.list (Restart Saved ∷ Cut ∷ server.hears (Trigger 1 CutOff) ∷ [])
unfolding bytes_of spelled_state spelling key_bytes job_bytes jobs_for has_open have_ended job_state misfit word state_after u32_at stream_of word_bytes fill_bytes
sent_as_is_cut = refl

sent_as_keeps : sent 7 ≡ sent 6 ++ sent_since (client_frames client.opening) triggering.list (Comes (Hears (tells (State 1 taken))) Saved ∷ [])
unfolding bytes_of spelled_state spelling key_bytes job_bytes has_next is_of_generation is_free_to_number is_begun is_for_client is_from_server is_from_mirror
sent_as_keeps = refl

sent_as_asks_to_verify : sent 8 ≡ sent 7 ++ sent_since (client_frames client.opening) keeping.list (Comes (Verifies 1 reading_text) Saved ∷ [])
unfolding bytes_of spelled_state spelling key_bytes job_bytes has_next is_of_generation is_free_to_number is_begun is_for_client is_from_server is_from_mirror
sent_as_asks_to_verify = refl

sent_as_wants : sent 9 ≡ sent 8 ++ sent_since (server_frames server.opening) again.list (server.hears (Verify 1 1 reading_text) ∷ [])
unfolding bytes_of spelled_state spelling key_bytes job_bytes jobs_for has_open have_ended job_state misfit word state_after u32_at stream_of word_bytes fill_bytes
sent_as_wants = refl

sent_as_gives : sent 10 ≡ sent 9 ++ sent_since (client_frames client.opening) verifying.list (Comes (Hears (tells (WantState 1 1 0))) NoSave ∷ [])
unfolding bytes_of spelled_state spelling key_bytes job_bytes has_next is_of_generation is_free_to_number is_begun is_for_client is_from_server is_from_mirror
sent_as_gives = refl

sent_as_checks : sent 10 ≡ sent 10 ++ sent_since (server_frames server.opening) wanting.list (server.hears (Brings 1 taken) ∷ [])
unfolding bytes_of spelled_state spelling key_bytes job_bytes jobs_for has_open have_ended job_state misfit word state_after u32_at stream_of word_bytes fill_bytes
sent_as_checks = refl

sent_as_tells_report : sent 11 ≡ sent 10 ++ sent_since (server_frames server.opening) checking.list (Met (CheckDone 2 1 0 report) NoSave ∷ [])
unfolding bytes_of spelled_state spelling key_bytes job_bytes jobs_for has_open have_ended job_state misfit word state_after u32_at stream_of word_bytes fill_bytes
sent_as_tells_report = refl

sent_as_shows : sent 11 ≡ sent 11 ++ sent_since (client_frames client.opening) giving.list (Comes (Hears (tells (Report 1 1 0 1 report))) NoSave ∷ [])
unfolding bytes_of spelled_state spelling key_bytes job_bytes has_next is_of_generation is_free_to_number is_begun is_for_client is_from_server is_from_mirror
sent_as_shows = refl

-- ---- the steps, in their order

-- A frame that was sent before comes to the client, or to the server.
to_client : (n : ℕ) (f : Frame) → Contains (sent n) f → to_of f ≡ Client → (answer : List ℕ) → IfSome (frame_bytes_read (Answers (brings f) answer)) (WasSentTo (sent n) Client)
unfolding told_numbered
to_client n f there goes answer = record { frame = f; was_sent = there; bytes_are = refl; goes_to = goes }

to_server : (n : ℕ) (f : Frame) → Contains (sent n) f → to_of f ≡ Server 0 → (answer : List ℕ) → IfSome (frame_bytes_read (Answers (brings f) answer)) (WasSentTo (sent n) (Server 0))
unfolding told_numbered
to_server n f there goes answer = record { frame = f; was_sent = there; bytes_are = refl; goes_to = goes }

goes_begins : SaysWhatIsWritten → Steps one (fleet client.first server.first 0) fleets.begins (fleet client.begun server.first 1)
unfolding told_numbered
goes_begins written = client_goes (Answers client.begins client.first_answer) client.first client.begun server.first 0 1 (Comes (Begin text) Saved ∷ []) tt (client_part.begins_run written) refl sent_as_begins

goes_stages : FramesAreRead → Steps one (fleet client.begun server.first 1) fleets.stages (fleet client.begun server.staged 2)
goes_stages law =
    let there : 0 < 1 = omega arith in
    server_goes (Answers (brings (asks (Jobs 1 text))) server.first_answer) client.begun server.first server.staged 1 2 (server.hears (Jobs 1 text) ∷ [])
    (to_server 1 (asks (Jobs 1 text)) (0, there, refl) refl server.first_answer)
    (server_part.stages law) refl sent_as_stages

goes_is_ready : FramesAreRead → SaysWhatIsWritten → Steps one (fleet client.begun server.staged 2) fleets.is_ready (fleet starting server.staged 3)
goes_is_ready law written =
    let there : 1 < 2 = omega arith in
    client_goes (Answers (brings (tells (JobsOk 1 1))) (sends (asks (Start 1)) ++ ends)) client.begun starting server.staged 2 3 (Comes (Hears (tells (JobsOk 1 1))) NoSave ∷ [])
    (to_client 2 (tells (JobsOk 1 1)) (1, there, refl) refl (sends (asks (Start 1)) ++ ends))
    (client_part.is_ready law written) refl sent_as_is_ready

goes_starts : FramesAreRead → Steps one (fleet starting server.staged 3) fleets.starts (fleet starting server.started 4)
goes_starts law =
    let there : 2 < 3 = omega arith in
    server_goes (Answers (brings (asks (Start 1))) server.second_answer) starting server.staged server.started 3 4 (Met (Issue 0) NoSave ∷ Met (Deliver (asks (Start 1))) Saved ∷ [])
    (to_server 3 (asks (Start 1)) (2, there, refl) refl server.second_answer)
    (server_part.starts law) refl sent_as_starts

goes_writes : Steps one (fleet starting server.started 4) fleets.writes (fleet starting writing 4)
unfolding told_numbered
goes_writes = server_goes (Answers tells_done (second_order ++ ends)) starting server.started writing 4 4 (Met (Issue 0) NoSave ∷ Met (WriteDone (ticket 0) Done) NoSave ∷ []) tt server_part.writes refl sent_as_writes

goes_asks_for_states : SaysWhatIsWritten → Steps one (fleet starting writing 4) fleets.asks_for_states (fleet triggering writing 5)
unfolding told_numbered
goes_asks_for_states written = client_goes (Answers triggers (sends (asks (Trigger 1 CutOff)) ++ ends)) starting triggering writing 4 5 (Comes (Triggers 1 CutOff) NoSave ∷ []) tt (client_part.asks_for_states written) refl sent_as_asks_for_states

goes_is_cut : FramesAreRead → Steps one (fleet triggering writing 5) fleets.is_cut (fleet triggering again 6)
unfolding told_numbered jobs_for has_open have_ended
goes_is_cut law =
    let there : 4 < 5 = omega arith in
    server_goes (EndsWithin (brings (asks (Trigger 1 CutOff))) (take 50 (sends (tells (State 1 taken))))) triggering writing again 5 6
    (Restart Saved ∷ Cut ∷ server.hears (Trigger 1 CutOff) ∷ []) (record { frame = asks (Trigger 1 CutOff); was_sent = (4, there, refl); bytes_are = refl; goes_to = refl })
    (record {
      after = triggered;
      left = triggered;
      rest = server_part.left_out (sends (tells (State 1 taken))) 50;
      takes = server_part.takes_trigger law;
      within = inl (refl, inl refl);
      begins = (record { boot = 1; last_run = 1 }, says_start, refl);
    })
    refl sent_as_is_cut

goes_keeps : LengthsAreBounded → FramesAreRead → SaysWhatIsWritten → Steps one (fleet triggering again 6) fleets.keeps (fleet keeping again 7)
goes_keeps lengths law written =
    let there : 5 < 6 = omega arith in
    client_goes (Answers (brings (tells (State 1 taken))) keeping_answer) triggering keeping again 6 7 (Comes (Hears (tells (State 1 taken))) Saved ∷ [])
    (to_client 6 (tells (State 1 taken)) (5, there, refl) refl keeping_answer)
    (client_part.keeps lengths law written) refl sent_as_keeps

goes_asks_to_verify : SaysWhatIsWritten → Steps one (fleet keeping again 7) fleets.asks_to_verify (fleet verifying again 8)
unfolding told_numbered
goes_asks_to_verify written = client_goes (Answers verifies verifying_answer) keeping verifying again 7 8 (Comes (Verifies 1 reading_text) Saved ∷ []) tt (client_part.asks_to_verify written) refl sent_as_asks_to_verify

goes_wants : FramesAreRead → Steps one (fleet verifying again 8) fleets.wants (fleet verifying wanting 9)
goes_wants law =
    let there : 7 < 8 = omega arith in
    server_goes (Answers (brings (asks (Verify 1 1 reading_text))) (sends (tells (WantState 1 1 0)) ++ ends)) verifying again wanting 8 9 (server.hears (Verify 1 1 reading_text) ∷ [])
    (to_server 8 (asks (Verify 1 1 reading_text)) (7, there, refl) refl (sends (tells (WantState 1 1 0)) ++ ends))
    (server_part.wants law) refl sent_as_wants

goes_gives : FramesAreRead → SaysWhatIsWritten → Steps one (fleet verifying wanting 9) fleets.gives (fleet giving wanting 10)
goes_gives law written =
    let there : 8 < 9 = omega arith in
    client_goes (Answers (brings (tells (WantState 1 1 0))) (sends (asks (Brings 1 taken)) ++ ends)) verifying giving wanting 9 10 (Comes (Hears (tells (WantState 1 1 0))) NoSave ∷ [])
    (to_client 9 (tells (WantState 1 1 0)) (8, there, refl) refl (sends (asks (Brings 1 taken)) ++ ends))
    (client_part.gives law written) refl sent_as_gives

goes_checks : LengthsAreBounded → FramesAreRead → Steps one (fleet giving wanting 10) fleets.checks (fleet giving checking 10)
goes_checks lengths law =
    let there : 9 < 10 = omega arith in
    server_goes (Answers (brings (asks (Brings 1 taken))) (wants_block ++ ends)) giving wanting checking 10 10 (server.hears (Brings 1 taken) ∷ [])
    (to_server 10 (asks (Brings 1 taken)) (9, there, refl) refl (wants_block ++ ends))
    (server_part.checks lengths law) refl sent_as_checks

goes_tells_report : Steps one (fleet giving checking 10) fleets.tells_report (fleet giving checked 11)
unfolding told_numbered
goes_tells_report = server_goes (Answers has_block (sends (tells (Report 1 1 0 1 report)) ++ ends)) giving checking checked 10 11 (Met (CheckDone 2 1 0 report) NoSave ∷ []) tt server_part.reports refl sent_as_tells_report

goes_shows : FramesAreRead → SaysWhatIsWritten → Steps one (fleet giving checked 11) fleets.shows (fleet shown checked 11)
goes_shows law written =
    let there : 10 < 11 = omega arith in
    client_goes (Answers (brings (tells (Report 1 1 0 1 report))) ends) giving shown checked 11 11 (Comes (Hears (tells (Report 1 1 0 1 report))) NoSave ∷ [])
    (to_client 11 (tells (Report 1 1 0 1 report)) (10, there, refl) refl ends)
    (client_part.shows law written) refl sent_as_shows

-- ---- all of them

ran : LengthsAreBounded → FramesAreRead → SaysWhatIsWritten → Ran one (fleet client.first server.first 0) steps (fleet shown checked 11)
ran lengths law written =
    let ran_1 : Ran one (fleet client.first server.first 0) (fleets.begins ∷ []) (fleet client.begun server.first 1) = (fleet client.first server.first 0, refl, goes_begins written) in
    let ran_2 : Ran one (fleet client.first server.first 0) (fleets.stages ∷ fleets.begins ∷ []) (fleet client.begun server.staged 2) = (fleet client.begun server.first 1, ran_1, goes_stages law) in
    let ran_3 : Ran one (fleet client.first server.first 0) (fleets.is_ready ∷ fleets.stages ∷ fleets.begins ∷ []) (fleet starting server.staged 3) = (fleet client.begun server.staged 2, ran_2, goes_is_ready law written) in
    let ran_4 : Ran one (fleet client.first server.first 0) (fleets.starts ∷ fleets.is_ready ∷ fleets.stages ∷ fleets.begins ∷ []) (fleet starting server.started 4) = (fleet starting server.staged 3, ran_3, goes_starts law) in
    let ran_5 : Ran one (fleet client.first server.first 0) (fleets.writes ∷ fleets.starts ∷ fleets.is_ready ∷ fleets.stages ∷ fleets.begins ∷ []) (fleet starting writing 4) = (fleet starting server.started 4, ran_4, goes_writes) in
    let ran_6 : Ran one (fleet client.first server.first 0) (fleets.asks_for_states ∷ fleets.writes ∷ fleets.starts ∷ fleets.is_ready ∷ fleets.stages ∷ fleets.begins ∷ []) (fleet triggering writing 5) = (fleet starting writing 4, ran_5, goes_asks_for_states written) in
    let ran_7 : Ran one (fleet client.first server.first 0) (fleets.is_cut ∷ fleets.asks_for_states ∷ fleets.writes ∷ fleets.starts ∷ fleets.is_ready ∷ fleets.stages ∷ fleets.begins ∷ []) (fleet triggering again 6) = (fleet triggering writing 5, ran_6, goes_is_cut law) in
    let ran_8 : Ran one (fleet client.first server.first 0) (fleets.keeps ∷ fleets.is_cut ∷ fleets.asks_for_states ∷ fleets.writes ∷ fleets.starts ∷ fleets.is_ready ∷ fleets.stages ∷ fleets.begins ∷ []) (fleet keeping again 7) = (fleet triggering again 6, ran_7, goes_keeps lengths law written) in
    let ran_9 : Ran one (fleet client.first server.first 0) (fleets.asks_to_verify ∷ fleets.keeps ∷ fleets.is_cut ∷ fleets.asks_for_states ∷ fleets.writes ∷ fleets.starts ∷ fleets.is_ready ∷ fleets.stages ∷ fleets.begins ∷ []) (fleet verifying again 8) = (fleet keeping again 7, ran_8, goes_asks_to_verify written) in
    let ran_10 : Ran one (fleet client.first server.first 0) (fleets.wants ∷ fleets.asks_to_verify ∷ fleets.keeps ∷ fleets.is_cut ∷ fleets.asks_for_states ∷ fleets.writes ∷ fleets.starts ∷ fleets.is_ready ∷ fleets.stages ∷ fleets.begins ∷ []) (fleet verifying wanting 9) = (fleet verifying again 8, ran_9, goes_wants law) in
    let ran_11 : Ran one (fleet client.first server.first 0) (fleets.gives ∷ fleets.wants ∷ fleets.asks_to_verify ∷ fleets.keeps ∷ fleets.is_cut ∷ fleets.asks_for_states ∷ fleets.writes ∷ fleets.starts ∷ fleets.is_ready ∷ fleets.stages ∷ fleets.begins ∷ []) (fleet giving wanting 10) = (fleet verifying wanting 9, ran_10, goes_gives law written) in
    let ran_12 : Ran one (fleet client.first server.first 0) (fleets.checks ∷ fleets.gives ∷ fleets.wants ∷ fleets.asks_to_verify ∷ fleets.keeps ∷ fleets.is_cut ∷ fleets.asks_for_states ∷ fleets.writes ∷ fleets.starts ∷ fleets.is_ready ∷ fleets.stages ∷ fleets.begins ∷ []) (fleet giving checking 10) = (fleet giving wanting 10, ran_11, goes_checks lengths law) in
    let ran_13 : Ran one (fleet client.first server.first 0) (fleets.tells_report ∷ fleets.checks ∷ fleets.gives ∷ fleets.wants ∷ fleets.asks_to_verify ∷ fleets.keeps ∷ fleets.is_cut ∷ fleets.asks_for_states ∷ fleets.writes ∷ fleets.starts ∷ fleets.is_ready ∷ fleets.stages ∷ fleets.begins ∷ []) (fleet giving checked 11) = (fleet giving checking 10, ran_12, goes_tells_report) in
    (fleet giving checked 11, ran_13, goes_shows law written)

is_within : 50 < length (sends (tells (State 1 taken)))
unfolding bytes_of spelled_state spelling key_bytes job_bytes
is_within = ltb-true 50 (length (sends (tells (State 1 taken)))) refl

is_taken : state_taken server.opening (server_heard server.opening triggered.list) 0 ≡ Some taken
unfolding jobs_for has_open have_ended job_state
is_taken = refl

is_kept : kept_state client.opening (client_heard client.opening shown.list) key ≡ Some taken
unfolding has_next is_of_generation is_free_to_number is_begun is_for_client is_from_server is_from_mirror
is_kept = refl

is_reported : reports (life client.opening (shown_entries (client_heard client.opening shown.list)))
    ≡ record { run = 1; attempt = 1; server = 0; job = 0; report = report } ∷ []
unfolding has_next is_of_generation is_free_to_number is_begun is_for_client is_from_server is_from_mirror
is_reported = refl

pub goes_through_the_story : LengthsAreBounded → FramesAreRead → SaysWhatIsWritten → FleetsAreTraces → GoesThroughTheStory
goes_through_the_story lengths read written law =
    let all = ran lengths read written in
    record { is_within = is_within; begins = begins; ran = all; is_taken = is_taken; is_kept = is_kept; is_reported = is_reported; one_trace = law one (fleet client.first server.first 0) (fleet shown checked 11) steps begins all }
