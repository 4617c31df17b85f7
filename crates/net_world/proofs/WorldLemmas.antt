-- The steps of the nodes of a world are a trace of frames: what a node takes was sent to it, and the client
-- is started as the world is made.
use Rattle.std.proofs.Common.{◌≡◌, refl, ℕ, Bool, true, false, List, [], Option, Some, None, Result, Ok, Err}
use Rattle.std.specs.Prelude.{if◌then◌else◌, ◌&&◌, Contains, slice_get}
use Rattle.std.specs.Option.{option_or}
use Rattle.std.proofs.lemmas.Option.{slice_get_within, get_or_from_slice_get}
use Rattle.fc_base.specs.declared.fault.Fault.{Fault}
use Rattle.fc_base.specs.declared.fault.Fault.TheVariants.{BadNote, NumbersSpent, NoSave}
use Rattle.disk_model.specs.declared.save_outcome.SaveOutcome.{SaveOutcome}
use Rattle.disk_model.specs.declared.save_outcome.SaveOutcome.TheVariants as lefts
use Rattle.engine.specs.Running.{Origin}
use Rattle.engine.specs.Answers.{ticket_of}
use Rattle.disk_model.specs.SaveOutcome.{saved_for}
use Rattle.messages.specs.declared.frame.Frame.{Frame}
use Rattle.messages.specs.declared.node.Node.{Node}
use Rattle.messages.specs.declared.node.Node.TheVariants.{Server, Client, Mirror}
use Rattle.messages.specs.Hearing.{Comes, Happens, Meaning, Says, Waits, Spoils, Strays}
use Rattle.fc_base.specs.declared.report.ReportParts.{ReportParts}
use Rattle.server_core.specs.Inputs.{PacketInput as ServerInput}
use Rattle.server_core.specs.declared.input.Input.TheVariants as server_inputs
use Rattle.server_core.specs.declared.input.WriteEnd.{WriteEnd}
use Rattle.server_core.specs.History as server
use Rattle.server_core.specs.Heard.{heard_with}
use Rattle.server_core.specs.Words as servers
use Rattle.server_core.specs.Answers as answers
use Rattle.server_core.specs.Check.{Check}
use Rattle.client_core.specs.Inputs.{PacketInput as ClientInput}
use Rattle.client_core.specs.Inputs as client_inputs
use Rattle.client_core.specs.History as client
use Rattle.client_core.specs.Ranges.{packet_in}
use Rattle.client_core.specs.Words as clients
use Rattle.client_core.specs.Note.{is_blank}
use Rattle.mirror_core.specs.History as mirror
use Rattle.mirror_core.specs.Words as mirrors
use Rattle.net_world.specs.Setup.{Setup}
use Rattle.net_world.specs.Happenings.{Happening, Begin, Trigger, StopRun, Verify, Tick, Deliver, Issue}
use Rattle.net_world.specs.Happenings.{Land, Done, Fail, Rot, Cut, Restart, LoseNote, Renew, CutIn}
use Rattle.net_world.specs.Happenings as happenings
use Rattle.net_world.specs.Trace.{Step, of_server, of_client, of_mirror, opening_of, client_opening, mirror_opening}
use Rattle.net_world.specs.Frames.{FrameStep, OfServer, OfClient, OfMirror, frames_sent, to_of, MayHappen, is_allowed, IsFrameTrace, trace_heard}
use Rattle.net_world.specs.Changes.{Change, Met, Landed, Rotted, steps, trace}
use Rattle.net_world.specs.Checks.{report_for, check_end, end_of_check_in}
use Rattle.net_world.specs.Barred.{unless_on, unless_off, unless_sent, unless_losable, unless_unused, barring_fault}
use Rattle.net_world.specs.Outcomes.{Outcome, Does, Refuses, Drops, outcome_of_step, unless_fault, where_saved, lost_by, met_by_server}
use Rattle.net_world.specs.Outcomes.{met_by_client, comes_to_server, comes_to_client, comes_to_mirror, said_to_server, said_to_client, comes_to}
use Rattle.server_core.specs.Words.{has_boot}
use Rattle.net_world.specs.Outcomes.{delivery, end_of_write, end_of_check_met, cut, noted_in, restart_of, client_cut_in, server_frame_cut}
use Rattle.net_world.specs.Outcomes.{client_frame_cut, frame_cut, delivery_cut_in, restart_cut_in, cut_in}
use Rattle.net_world.proofs.StartedLemmas.{has_mirror_of, restart_fits, renewal_fits}

-- A step may come behind these: what it takes was sent, and it is one of the setup.
unfoldable pub Goes : Setup → List FrameStep → FrameStep → Type 0
Goes w ps step = MayHappen (frames_sent w ps) step × (is_allowed w ps step ≡ true)

unfoldable pub MayBe : Setup → List FrameStep → Result FrameStep Fault → Type 0
MayBe w ps (Ok step) = Goes w ps step
MayBe w ps (Err fault) = Unit {0}

-- What comes of something is no step, or one that may come.
unfoldable pub MayCome : Setup → List FrameStep → Outcome → Type 0
MayCome w ps (Does (Met step)) = Goes w ps step
MayCome w ps (Does (Landed s j k mask)) = Unit {0}
MayCome w ps (Does (Rotted s j sector bytes)) = Unit {0}
MayCome w ps (Refuses fault) = Unit {0}
MayCome w ps (Drops step) = Goes w ps step

may_unless : (w : Setup) (ps : List FrameStep) (x : Option Fault) (r : Result FrameStep Fault) → MayBe w ps r → MayBe w ps (unless_fault x r)
unfolding MayBe
may_unless w ps None r m = m
may_unless w ps (Some fault) r m = tt

may_save : {X : Type 0} (w : Setup) (ps : List FrameStep) (x : Option X) (step : FrameStep) → Goes w ps step → MayBe w ps (where_saved x step)
unfolding MayBe
may_save w ps None step m = tt
may_save w ps (Some x) step m = m

may_if : (w : Setup) (ps : List FrameStep) (b : Bool) (step : FrameStep) (fault : Fault) → (b ≡ true → Goes w ps step)
    → MayBe w ps (if b then Ok step else Err fault)
unfolding MayBe
may_if w ps true step fault m = m refl
may_if w ps false step fault m = tt

may_unless_so : (w : Setup) (ps : List FrameStep) (b : Bool) (step : FrameStep) (fault : Fault) → (b ≡ false → Goes w ps step)
    → MayBe w ps (if b then Err fault else Ok step)
unfolding MayBe
may_unless_so w ps true step fault m = tt
may_unless_so w ps false step fault m = m refl

pub may_step : (w : Setup) (ps : List FrameStep) (r : Result FrameStep Fault) → MayBe w ps r → MayCome w ps (outcome_of_step r)
unfolding MayBe MayCome
may_step w ps (Ok step) m = m
may_step w ps (Err fault) m = tt

-- ---- what takes no frame

pub may_server : (w : Setup) (ps : List FrameStep) (t : List Step) (s : ℕ) (e : ServerInput) → heard_with e [] ≡ [] → MayBe w ps (met_by_server t s e)
unfolding MayBe Goes
may_server w ps t s e m = may_unless w ps (answers.refusal (opening_of s) (of_server s t) e) _ (m, refl)

pub either_way : (b : Bool) → (if b then true else true) ≡ true
either_way true = refl
either_way false = refl

pub may_client : (w : Setup) (ps : List FrameStep) (t : List Step) (c : ClientInput) → ((left : SaveOutcome) → packet_in (client.Met c left) ≡ [])
    → MayBe w ps (met_by_client w t c)
unfolding MayBe Goes
may_client w ps t c m = may_unless w ps (clients.refusal (client_opening w) (of_client w t) c) _
    (m (saved_for (clients.due (client_opening w) (of_client w t) c)), either_way w.mirror)

pub may_end : (w : Setup) (ps : List FrameStep) (t : List Step) (s k : ℕ) (end : WriteEnd) (x : Option Origin) → MayBe w ps (end_of_write t s k end x)
unfolding MayBe
may_end w ps t s k end None = tt
may_end w ps t s k end (Some origin) = may_server w ps t s (server_inputs.WriteDone (ticket_of origin k) end) refl

may_report : (w : Setup) (ps : List FrameStep) (t : List Step) (s : ℕ) (c : Check) (j : ℕ) (x : Option ReportParts)
    → MayBe w ps (end_of_check_met t s (check_end c j x))
unfolding MayBe
may_report w ps t s c j None = tt
may_report w ps t s c j (Some r) = may_server w ps t s (server_inputs.CheckDone c.boot c.attempt j r) refl

pub may_check : (w : Setup) (ps : List FrameStep) (t : List Step) (s : ℕ) (x : Option Check) (j : ℕ) (held : ℕ → List ℕ)
    → MayBe w ps (end_of_check_met t s (end_of_check_in x j held))
unfolding MayBe
may_check w ps t s None j held = tt
may_check w ps t s (Some c) j held = may_report w ps t s c j (report_for c j (slice_get c.jobs j) held)

pub may_cut : (w : Setup) (ps : List FrameStep) (t : List Step) (node : Node) → unless_on w t node ≡ None → MayBe w ps (cut node)
unfolding MayBe Goes
may_cut w ps t (Server s) h = (refl, refl)
may_cut w ps t Client h = (refl, either_way w.mirror)
may_cut w ps t Mirror h = (tt, has_mirror_of w.mirror _ h)

pub may_restart : (w : Setup) (ps : List FrameStep) (node : Node) → IsFrameTrace w ps → unless_off w (trace_heard w ps) node ≡ None
    → MayBe w ps (restart_of w (trace_heard w ps) node)
unfolding MayBe Goes
may_restart w ps (Server s) so h =
    may_if w ps (has_boot (opening_of s) (of_server s (trace_heard w ps))) (OfServer s (Happens (server.Restart lefts.Saved))) NumbersSpent (λ e. (refl, refl))
may_restart w ps Client so h =
    may_unless_so w ps (w.mirror && is_blank (noted_in w (trace_heard w ps))) (OfClient (Happens (client.Restart w.mirror))) BadNote
    (λ e. (refl, restart_fits w ps so e))
may_restart w ps Mirror so h = (tt, has_mirror_of w.mirror _ h)

pub may_renew : (w : Setup) (ps : List FrameStep) (g : ℕ) (left : SaveOutcome) (fault : Fault)
    → option_or (unless_losable w (trace_heard w ps)) (unless_unused w (trace_heard w ps) g) ≡ None
    → MayBe w ps (if is_blank (noted_in w (trace_heard w ps)) then Ok (OfClient (Happens (client.Renew g left))) else Err fault)
unfolding Goes
may_renew w ps g left fault h =
    may_if w ps (is_blank (noted_in w (trace_heard w ps))) (OfClient (Happens (client.Renew g left))) fault (λ e. (refl, renewal_fits w ps g left h))

may_client_cut : (w : Setup) (ps : List FrameStep) (t : List Step) (landed : Bool) (c : ClientInput) → ((left : SaveOutcome) → packet_in (client.Met c left) ≡ [])
    → MayBe w ps (client_cut_in w t landed c)
unfolding Goes
may_client_cut w ps t landed c m = may_save w ps (clients.due (client_opening w) (of_client w t) c) (OfClient (Happens (client.Met c (lost_by landed))))
    (m (lost_by landed), either_way w.mirror)

may_restart_cut : (w : Setup) (ps : List FrameStep) (t : List Step) (landed : Bool) (node : Node) → MayBe w ps (restart_cut_in t landed node)
unfolding MayBe Goes
may_restart_cut w ps t landed (Server s) = may_if w ps (has_boot (opening_of s) (of_server s t)) (OfServer s (Happens (server.Restart (lost_by landed)))) NoSave (λ e. (refl, refl))
may_restart_cut w ps t landed Client = tt
may_restart_cut w ps t landed Mirror = tt

-- ---- what takes a frame

may_come_to_server : (w : Setup) (ps : List FrameStep) (t : List Step) (s : ℕ) (f : Frame) (m : Meaning) → Contains (frames_sent w ps) f → to_of f ≡ Server s
    → MayCome w ps (comes_to_server t s f m)
unfolding MayCome MayBe Goes
may_come_to_server w ps t s f (Says p) i to =
    may_step w ps _ (may_unless w ps (answers.refusal (opening_of s) (of_server s t) (server_inputs.Deliver p)) _ ((i, to), refl))
may_come_to_server w ps t s f Waits i to = ((i, to), refl)
may_come_to_server w ps t s f Spoils i to = ((i, to), refl)
may_come_to_server w ps t s f Strays i to = tt

may_come_to_client : (w : Setup) (ps : List FrameStep) (t : List Step) (f : Frame) (m : Meaning) → Contains (frames_sent w ps) f → to_of f ≡ Client
    → MayCome w ps (comes_to_client w t f m)
unfolding MayCome MayBe Goes
may_come_to_client w ps t f (Says p) i to =
    may_step w ps _ (may_unless w ps (clients.refusal (client_opening w) (of_client w t) (client_inputs.Deliver p)) _ ((i, to), refl))
may_come_to_client w ps t f Waits i to = ((i, to), refl)
may_come_to_client w ps t f Spoils i to = ((i, to), refl)
may_come_to_client w ps t f Strays i to = tt

may_come_to_mirror : (w : Setup) (ps : List FrameStep) (t : List Step) (f : Frame) → w.mirror ≡ true → Contains (frames_sent w ps) f → to_of f ≡ Mirror
    → MayBe w ps (comes_to_mirror t f)
unfolding MayBe Goes
may_come_to_mirror w ps t f has i to = may_unless w ps (mirrors.refusal mirror_opening (of_mirror t) f) _ ((i, to), has)

may_come_to : (w : Setup) (past : List Change) (node : Node) (f : Frame) → unless_on w (trace w past) node ≡ None → Contains (frames_sent w (steps past)) f
    → to_of f ≡ node → MayCome w (steps past) (comes_to w past node f)
unfolding MayCome
may_come_to w past (Server s) f h i to = may_come_to_server w (steps past) (trace w past) s f (said_to_server (steps past) s f) i to
may_come_to w past Client f h i to = may_come_to_client w (steps past) (trace w past) f (said_to_client w (steps past) f) i to
may_come_to w past Mirror f h i to = may_step w (steps past) _ (may_come_to_mirror w (steps past) (trace w past) f (has_mirror_of w.mirror _ h) i to)

pub sent_at : (frames : List Frame) (i : ℕ) (f : Frame) → slice_get frames i ≡ Some f → Contains frames f
sent_at frames i f h = (i, slice_get_within frames i f h, get_or_from_slice_get frames i f f h)

pub may_deliver : (w : Setup) (past : List Change) (x : Option Frame) → unless_sent w (trace w past) x ≡ None
    → ((f : Frame) → x ≡ Some f → Contains (frames_sent w (steps past)) f) → MayCome w (steps past) (delivery w past x)
unfolding MayCome
may_deliver w past None b h = tt
may_deliver w past (Some f) b h = may_come_to w past (to_of f) f b (h f refl) refl

may_server_frame_cut : (w : Setup) (ps : List FrameStep) (t : List Step) (s : ℕ) (landed : Bool) (f : Frame) (m : Meaning) → Contains (frames_sent w ps) f
    → to_of f ≡ Server s → MayBe w ps (server_frame_cut t s landed f m)
unfolding MayBe Goes
may_server_frame_cut w ps t s landed f (Says p) i to =
    may_save w ps (servers.due (opening_of s) (of_server s t) (server_inputs.Deliver p)) (OfServer s (Comes f (lost_by landed))) ((i, to), refl)
may_server_frame_cut w ps t s landed f Waits i to = tt
may_server_frame_cut w ps t s landed f Spoils i to = tt
may_server_frame_cut w ps t s landed f Strays i to = tt

may_client_frame_cut : (w : Setup) (ps : List FrameStep) (t : List Step) (landed : Bool) (f : Frame) (m : Meaning) → Contains (frames_sent w ps) f
    → to_of f ≡ Client → MayBe w ps (client_frame_cut w t landed f m)
unfolding MayBe Goes
may_client_frame_cut w ps t landed f (Says p) i to =
    may_save w ps (clients.due (client_opening w) (of_client w t) (client_inputs.Deliver p)) (OfClient (Comes f (lost_by landed))) ((i, to), refl)
may_client_frame_cut w ps t landed f Waits i to = tt
may_client_frame_cut w ps t landed f Spoils i to = tt
may_client_frame_cut w ps t landed f Strays i to = tt

may_frame_cut : (w : Setup) (past : List Change) (landed : Bool) (node : Node) (f : Frame) → unless_on w (trace w past) node ≡ None
    → Contains (frames_sent w (steps past)) f → to_of f ≡ node → MayBe w (steps past) (frame_cut w past landed node f)
unfolding MayBe Goes
may_frame_cut w past landed (Server s) f h i to = may_server_frame_cut w (steps past) (trace w past) s landed f (said_to_server (steps past) s f) i to
may_frame_cut w past landed Client f h i to = may_client_frame_cut w (steps past) (trace w past) landed f (said_to_client w (steps past) f) i to
may_frame_cut w past landed Mirror f h i to =
    may_save w (steps past) (mirrors.due mirror_opening (of_mirror (trace w past)) f) (OfMirror (mirror.Met f (lost_by landed)))
    ((i, to), has_mirror_of w.mirror _ h)

may_delivery_cut : (w : Setup) (past : List Change) (landed : Bool) (x : Option Frame) → unless_sent w (trace w past) x ≡ None
    → ((f : Frame) → x ≡ Some f → Contains (frames_sent w (steps past)) f) → MayBe w (steps past) (delivery_cut_in w past landed x)
unfolding MayBe
may_delivery_cut w past landed None b h = tt
may_delivery_cut w past landed (Some f) b h = may_frame_cut w past landed (to_of f) f b (h f refl) refl

pub may_cut_in : (w : Setup) (past : List Change) (landed : Bool) (e : Happening)
    → barring_fault w (trace w past) (frames_sent w (steps past)) (CutIn landed e) ≡ None → MayBe w (steps past) (cut_in w past landed e)
unfolding MayBe
may_cut_in w past landed (Begin text) h = may_client_cut w (steps past) (trace w past) landed (client_inputs.Begin text) (λ left. refl)
may_cut_in w past landed (Verify run text) h = may_client_cut w (steps past) (trace w past) landed (client_inputs.Verify run text) (λ left. refl)
may_cut_in w past landed (Deliver i) h = may_delivery_cut w past landed (slice_get (frames_sent w (steps past)) i) h (sent_at (frames_sent w (steps past)) i)
may_cut_in w past landed (Restart node) h = may_restart_cut w (steps past) (trace w past) landed node
may_cut_in w past landed (Renew g) h = may_renew w (steps past) g (lost_by landed) NoSave h
may_cut_in w past landed LoseNote h = tt
may_cut_in w past landed (Trigger run act) h = tt
may_cut_in w past landed (StopRun run) h = tt
may_cut_in w past landed Tick h = tt
may_cut_in w past landed (Issue s j) h = tt
may_cut_in w past landed (Land s j k mask) h = tt
may_cut_in w past landed (Done s j k) h = tt
may_cut_in w past landed (Fail s j k) h = tt
may_cut_in w past landed (Rot s j sector bytes) h = tt
may_cut_in w past landed (happenings.Check s j) h = tt
may_cut_in w past landed (Cut node) h = tt
may_cut_in w past landed (CutIn again e) h = tt
