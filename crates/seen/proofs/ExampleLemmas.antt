-- What is seen of a world that can be followed by hand.
use Rattle.std.proofs.Common.{◌≡◌, refl, sym, ◌∙◌, ap, subst, inl, zero, suc, arith, ℕ, ◌<◌, Bool, true, false, List, [], ◌∷◌, Option, Some, None, Err}
use Rattle.std.specs.Prelude.{if◌then◌else◌, ◌≤◌, is_ok, slice_get}
use Rattle.std.specs.Option.{option_and_then, option_map}
use Rattle.fc_base.specs.declared.limits.TheConstants.{MAX_SERVERS}
use Rattle.fc_base.specs.declared.fault.Fault.TheVariants.{NodeOn}
use Rattle.fc_base.specs.declared.numbers.Key.{Key}
use Rattle.fc_base.specs.Layouts.{bytes_of}
use Rattle.rand_core.specs.Steps.{u32_at, stream_of, word_bytes}
use Rattle.rand_core.specs.Stream.{fill_bytes}
use Rattle.write_order.specs.Words.{word, state_after}
use Rattle.verify_state.specs.Misfit.{misfit}
use Rattle.verify_state.specs.Same.{is_same}
use Rattle.verify_state.specs.Spelling as states
use Rattle.verify_state.specs.Spelling.{key_bytes, job_bytes}
use Rattle.verify_state.specs.State.{State}
use Rattle.verify_state.specs.TableLaws.{FoundHasItsKey}
use Rattle.messages.specs.declared.body.Body.{Body}
use Rattle.messages.specs.declared.body.Body.TheVariants as bodies
use Rattle.messages.specs.declared.frame.Frame.{Frame}
use Rattle.messages.specs.declared.frame.Frame.TheVariants.{Whole, Piece}
use Rattle.messages.specs.declared.node.Node.{Node}
use Rattle.messages.specs.declared.node.Node.TheVariants.{Server, Client}
use Rattle.messages.specs.Bodies.{spelled_state}
use Rattle.server_core.specs.Texts.{jobs_for}
use Rattle.server_core.specs.Run.{has_open, have_ended}
use Rattle.server_core.specs.Taken.{job_state}
use Rattle.client_core.specs.Refusals.{is_begun, has_next, is_of_generation, is_free_to_number, is_for_client, is_from_server, is_from_mirror}
use Rattle.client_core.specs.Words.{words_noted, kept_state}
use Rattle.net_world.specs.Barred.{is_on}
use Rattle.net_world.specs.Changes.{steps, trace}
use Rattle.net_world.specs.Frames.{frames_sent}
use Rattle.net_world.specs.Examples.{one, after_trigger, after_keep, after_verify, key, writing_text, ChecksByItsState}
use Rattle.net_world.specs.Happenings.{Begin, Check, Deliver, Restart, Tick}
use Rattle.net_world.specs.Trace.{client_opening, of_client}
use Rattle.net_world.specs.World.{world, saved_state, told_of_happening}
use Rattle.net_world.specs.WorldLaws.{SentFramesAreRead}
use Rattle.net_world.proofs.ListLemmas.{same_some}
use Rattle.seen.specs.Observations.{frames_in}
use Rattle.seen.specs.Sightings.{InNote, from_server, to_server}
use Rattle.seen.specs.Texts.{text_with}
use Rattle.seen.specs.Kept.{CameAmong, TellsOf, EndedWell}
use Rattle.seen.specs.Claims.{EachIsTaken, EachReportIsExact, EachReportWasTold, NoSavedIsOfNone, CutsAreBehindAcks, AcksAreOfKept, RefusalsChangeNothing}
use Rattle.seen.specs.Claims.{UnknownIsRefused, WhatComesIsKept, EndedIsKept, NumbersAreGivenOnce}
use Rattle.seen.specs.Watching.{observation, observations, OfAllThatIsSeen}
use Rattle.seen.specs.Examples.{SeesAState, SeesAReport, SeesACut, SeesAnAck, SeesItKept, SeesNoState, SeesARefusal, SeesNoFrame, SeesTwoRuns, one_sound, after_want}
use Rattle.seen.proofs.FrameLemmas.{frames_by_step, step_now, sent_at}
use Rattle.seen.proofs.StoryLemmas.{comes_from, among_now}

few : one.servers ≤ MAX_SERVERS
few = omega arith

shown : (b : Bool) (x : Option State) (state : State) → (if b then x else None) ≡ Some state → x ≡ Some state
shown true x state h = h
shown false x state h = absurd cc

-- The state that the client shows.
record Found (x : Option State) (counted : List ℕ) : Type 0 where
  pub state : State
  pub is : x ≡ Some state
  pub counts : state.counted ≡ counted

found : (x : Option State) (counted : List ℕ) → option_map (λ (state : State). state.counted) x ≡ Some counted → Found x counted
found None counted h = absurd cc
found (Some state) counted h = record { state = state; is = refl; counts = cc }

-- The state that is shown of a key has it.
its_key : ChecksByItsState → FoundHasItsKey → (state : State) → saved_state one (world one after_keep) key ≡ Some state → state.key ≡ key
its_key checks has state is =
    let t = trace one (world one after_keep) in
    let list = of_client one t in
    has key (words_noted (client_opening one) list).kept state (shown (is_on one t Client) (kept_state (client_opening one) list key) state is)

pub sees_a_state : ChecksByItsState → FoundHasItsKey → OfAllThatIsSeen EachIsTaken → SeesAState
sees_a_state checks has taken =
    let f = found (saved_state one (world one after_keep) key) (0 ∷ []) checks.counts in
    let key_is = its_key checks has f.state f.is in
    let saved : saved_state one (world one after_keep) f.state.key ≡ Some f.state = ap (saved_state one (world one after_keep)) key_is ∙ f.is in
    let seen = InNote [] (observations one after_trigger) (observation one after_trigger (Deliver 5)) refl saved in
    record { state = f.state; key_is = key_is; seen = seen; counted = f.counts; taken = taken one after_keep few f.state seen }

pub sees_a_report : ChecksByItsState → OfAllThatIsSeen EachReportIsExact → OfAllThatIsSeen EachReportWasTold → SeesAReport
sees_a_report checks exact was_told =
    let seen = observations one after_verify in
    let o = observation one after_verify (Check 0 0) in
    let r = exact one (Check 0 0 ∷ after_verify) few [] seen o 0 0 _ one_sound refl refl checks.sound refl in
    record { exact = r; told = was_told one (Check 0 0 ∷ after_verify) few [] seen o 0 r.run r.attempt 0 r.jobs one_sound refl r.sent }

pub sees_a_cut : ChecksByItsState → OfAllThatIsSeen CutsAreBehindAcks → SeesACut
sees_a_cut checks cuts =
    cuts one (Deliver 6 ∷ after_keep) few [] (observations one after_keep) (observation one after_keep (Deliver 6)) _ refl checks.cuts refl

-- ---- what the client sends

ack_frame : frames_by_step one (steps (world one after_trigger)) (step_now one after_trigger (Deliver 5)) ≡ Whole (to_server 0 (bodies.StateAck 1 0)) ∷ []
unfolding frames_sent has_next is_of_generation is_free_to_number is_begun is_for_client is_from_server is_from_mirror jobs_for has_open have_ended job_state
    is_same bytes_of spelled_state states.spelling key_bytes job_bytes word state_after u32_at stream_of word_bytes fill_bytes
ack_frame = refl

pub sees_an_ack : SentFramesAreRead → OfAllThatIsSeen AcksAreOfKept → SeesAnAck
sees_an_ack read acks =
    let o = observation one after_trigger (Deliver 5) in
    let sent = among_now read one after_trigger (Deliver 5) (to_server 0 (bodies.StateAck 1 0)) few ack_frame in
    record { sent = sent; kept = acks one after_keep few [] (observations one after_trigger) o 0 1 0 refl sent }

none_frame : frames_by_step one (steps (world one after_want)) (step_now one after_want (Deliver 5)) ≡ Whole (to_server 0 (bodies.NoSaved 1 1 0)) ∷ []
unfolding frames_sent has_next is_of_generation is_free_to_number is_begun is_for_client is_from_server is_from_mirror jobs_for has_open have_ended job_state
    is_same bytes_of spelled_state states.spelling key_bytes job_bytes word state_after u32_at stream_of word_bytes fill_bytes misfit
none_frame = refl

pub sees_no_state : SentFramesAreRead → OfAllThatIsSeen NoSavedIsOfNone → SeesNoState
sees_no_state read none =
    let o = observation one after_want (Deliver 5) in
    let sent = among_now read one after_want (Deliver 5) (to_server 0 (bodies.NoSaved 1 1 0)) few none_frame in
    record { sent = sent; none = none one (Deliver 5 ∷ after_want) few [] (observations one after_want) o 0 1 1 0 refl sent }

-- ---- what the note keeps

-- What a State in a frame tells besides its state's settings and writes.
record Telling : Type 0 where
  pub from : Node
  pub to : Node
  pub jobs : ℕ
  pub key : Key

told_by : Node → Node → Body → Option Telling
told_by from to (bodies.State jobs state) = Some (record { from = from; to = to; jobs = jobs; key = state.key })
told_by from to _ = None

told_in : Frame → Option Telling
told_in (Whole p) = told_by p.from p.to p.body
told_in (Piece q) = None

of_server_0 : Telling
of_server_0 = record { from = Server 0; to = Client; jobs = 1; key = key }

-- A State of server 0 that tells of one job, and whose state has this key.
record FromServer0 (x : Option Frame) : Type 0 where
  pub state : State
  pub frame : x ≡ Some (Whole (from_server 0 (bodies.State 1 state)))
  pub has_key : state.key ≡ key

telling : Node → Node → ℕ → Key → Telling
telling from to jobs key = record { from = from; to = to; jobs = jobs; key = key }

framed : Node → Node → ℕ → State → Option Frame
framed from to jobs state = Some (Whole (record { from = from; to = to; body = bodies.State jobs state }))

by_body : (from to : Node) (body : Body) → told_by from to body ≡ Some of_server_0 → FromServer0 (Some (Whole (record { from = from; to = to; body = body })))
unfolding told_by telling framed of_server_0
by_body from to (bodies.State jobs state) h =
    let same : telling from to jobs state.key ≡ of_server_0 = same_some (telling from to jobs state.key) of_server_0 h in
    let jobs_are : jobs ≡ 1 = ap (λ (t : Telling). t.jobs) same in
    let from_is : from ≡ Server 0 = ap (λ (t : Telling). t.from) same in
    let to_is : to ≡ Client = ap (λ (t : Telling). t.to) same in
    record {
      state = state;
      frame = ap (λ n. framed n to jobs state) from_is ∙ ap (λ n. framed (Server 0) n jobs state) to_is ∙ ap (λ n. framed (Server 0) Client n state) jobs_are;
      has_key = ap (λ (t : Telling). t.key) same;
    }
by_body from to _ h = absurd cc

in_frame : (x : Option Frame) → option_and_then told_in x ≡ Some of_server_0 → FromServer0 x
unfolding told_in
in_frame None h = absurd cc
in_frame (Some (Whole p)) h = by_body p.from p.to p.body h
in_frame (Some (Piece q)) h = absurd cc

state_frame : option_and_then told_in (slice_get (sent_at one after_trigger) 5) ≡ Some of_server_0
unfolding told_in told_by of_server_0 frames_sent has_next is_of_generation is_free_to_number is_begun is_for_client is_from_server is_from_mirror jobs_for
    has_open have_ended job_state bytes_of spelled_state states.spelling key_bytes job_bytes
state_frame = refl

is_taken_in : is_ok (told_of_happening one (world one after_trigger) (Deliver 5)) ≡ true
unfolding frames_sent has_next is_of_generation is_free_to_number is_begun is_for_client is_from_server is_from_mirror jobs_for has_open have_ended job_state
    is_same bytes_of spelled_state states.spelling key_bytes job_bytes word state_after u32_at stream_of word_bytes fill_bytes
is_taken_in = refl

ticks : is_ok (told_of_happening one (world one after_keep) Tick) ≡ true
unfolding frames_sent has_next is_of_generation is_free_to_number is_begun is_for_client is_from_server is_from_mirror jobs_for has_open have_ended job_state
    is_same bytes_of spelled_state states.spelling key_bytes job_bytes word state_after u32_at stream_of word_bytes fill_bytes
ticks = refl

only_one : (j : ℕ) → j < 1 → j ≡ 0
only_one zero h = refl
only_one (suc j) h = absurd (omega (arith, h))

pub sees_it_kept : SentFramesAreRead → OfAllThatIsSeen WhatComesIsKept → OfAllThatIsSeen EndedIsKept → SeesItKept
sees_it_kept read kept_law ended_law =
    let f = in_frame (slice_get (sent_at one after_trigger) 5) state_frame in
    let p = from_server 0 (bodies.State 1 f.state) in
    let came = observation one after_trigger (Deliver 5) in
    let old = observations one after_trigger in
    let comes = comes_from read one after_trigger 5 p few f.frame is_taken_in in
    let tick = observation one after_keep Tick in
    let events = Tick ∷ after_keep in
    let stays = kept_law one events few (tick ∷ []) old came 0 1 f.state refl comes in
    let among : CameAmong (came ∷ []) old p = record { later = []; now = came; earlier = []; split = refl; comes = comes } in
    let told : TellsOf (came ∷ []) old 0 1 0 1 = inl (f.state, f.has_key, among) in
    let ended : EndedWell (came ∷ []) old 0 1 =
    record { jobs = 1; first = 0; told = told; each = λ j less. (1, subst (λ n. TellsOf (came ∷ []) old 0 1 n 1) (sym (only_one j less)) told) } in
    let shown = ended_law one events few [] (came ∷ []) old tick 0 1 f.state refl ended refl ticks (InNote [] old came refl stays.at_once)
    (ap (λ (k : Key). k.run) f.has_key) (ap (λ (k : Key). k.server) f.has_key) in
    record { state = f.state; comes = comes; stays = stays; ended = ended; shown = ap tick.saved (sym f.has_key) ∙ shown }

-- ---- refusals and numbers

on_already : (observation one after_keep (Restart Client)).told ≡ Err NodeOn
unfolding frames_sent has_next is_of_generation is_free_to_number is_begun is_for_client is_from_server is_from_mirror jobs_for has_open have_ended job_state
    is_same bytes_of spelled_state states.spelling key_bytes job_bytes word state_after u32_at stream_of word_bytes fill_bytes
on_already = refl

pub sees_a_refusal : OfAllThatIsSeen RefusalsChangeNothing → SeesARefusal
sees_a_refusal law =
    let o = observation one after_keep (Restart Client) in
    record { refused = on_already; nothing = law one (Restart Client ∷ after_keep) few [] (observations one after_keep) o NodeOn refl on_already }

nothing_there : slice_get (frames_in (observations one after_keep)) 7 ≡ None
unfolding frames_sent has_next is_of_generation is_free_to_number is_begun is_for_client is_from_server is_from_mirror jobs_for has_open have_ended job_state
    is_same bytes_of spelled_state states.spelling key_bytes job_bytes word state_after u32_at stream_of word_bytes fill_bytes
nothing_there = refl

pub sees_no_frame : OfAllThatIsSeen UnknownIsRefused → SeesNoFrame
sees_no_frame law =
    let o = observation one after_keep (Deliver 7) in
    record { of_none = nothing_there; refused = law one (Deliver 7 ∷ after_keep) few [] (observations one after_keep) o refl nothing_there }

second_run : text_with 2 (Begin writing_text) (observation one (Begin writing_text ∷ []) (Begin writing_text)).told ≡ Some writing_text
unfolding frames_sent has_next is_of_generation is_free_to_number is_begun
second_run = refl

pub sees_two_runs : OfAllThatIsSeen NumbersAreGivenOnce → SeesTwoRuns
sees_two_runs law =
    let events = Begin writing_text ∷ Begin writing_text ∷ [] in
    let o = observation one (Begin writing_text ∷ []) (Begin writing_text) in
    record { second = second_run; none_before = (law one events few).0 [] (observations one (Begin writing_text ∷ [])) o 2 writing_text refl second_run }
