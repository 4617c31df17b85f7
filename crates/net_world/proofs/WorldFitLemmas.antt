-- The steps of a world are within their ranges: its servers are few, and each report is one.
use Rattle.std.proofs.Common.{◌≡◌, refl, ℕ, ◌<◌, ◌≤◌, Bool, true, false, ◌&&◌, List, [], ◌∷◌, Option, Some, None, Result, Ok, Err}
use Rattle.std.specs.Prelude.{if◌then◌else◌, slice_get}
use Rattle.std.specs.List.{AllByRecursion}
use Rattle.fc_base.specs.declared.fault.Fault.{Fault}
use Rattle.fc_base.specs.declared.fault.Fault.TheVariants.{BadNote, NumbersSpent, NoSave}
use Rattle.fc_base.specs.declared.limits.TheConstants.{MAX_SERVERS}
use Rattle.disk_model.specs.declared.save_outcome.SaveOutcome.{SaveOutcome}
use Rattle.disk_model.specs.declared.save_outcome.SaveOutcome.TheVariants as lefts
use Rattle.recheck.specs.Fits.{ReportsFit}
use Rattle.engine.specs.Running.{Origin}
use Rattle.engine.specs.Answers.{ticket_of}
use Rattle.messages.specs.declared.frame.Frame.{Frame}
use Rattle.messages.specs.declared.node.Node.{Node}
use Rattle.messages.specs.declared.node.Node.TheVariants.{Server, Client, Mirror}
use Rattle.messages.specs.Hearing.{Comes, Happens, Meaning, Says, Waits, Spoils, Strays}
use Rattle.server_core.specs.Inputs.{PacketInput as ServerInput}
use Rattle.server_core.specs.declared.input.Input.TheVariants as server_inputs
use Rattle.server_core.specs.declared.input.WriteEnd.{WriteEnd}
use Rattle.server_core.specs.declared.input.WriteEnd.TheVariants as ends
use Rattle.server_core.specs.History as server
use Rattle.server_core.specs.Words as servers
use Rattle.server_core.specs.Answers as answers
use Rattle.server_core.specs.Check.{check}
use Rattle.server_core.specs.Laws.{ChecksHaveSets}
use Rattle.client_core.specs.Inputs.{PacketInput as ClientInput}
use Rattle.client_core.specs.Inputs as client_inputs
use Rattle.client_core.specs.History as client
use Rattle.client_core.specs.Words as clients
use Rattle.client_core.specs.Note.{is_blank}
use Rattle.mirror_core.specs.History as mirror
use Rattle.mirror_core.specs.Words as mirrors
use Rattle.net_world.specs.Setup.{Setup}
use Rattle.net_world.specs.Happenings.{Happening, Begin, Trigger, StopRun, Verify, Tick, Deliver, Issue}
use Rattle.net_world.specs.Happenings.{Land, Done, Fail, Rot, Cut, Restart, LoseNote, Renew, CutIn}
use Rattle.net_world.specs.Happenings as happenings
use Rattle.net_world.specs.Trace.{Step, of_server, of_client, of_mirror, opening_of, client_opening, mirror_opening}
use Rattle.net_world.specs.Frames.{FrameStep, OfServer, OfClient, OfMirror, frames_sent, to_of}
use Rattle.net_world.specs.InRange.{ReportFits, FrameStepFits, FitsFrames}
use Rattle.net_world.specs.Changes.{Change, Met, Landed, Rotted, steps, trace}
use Rattle.net_world.specs.Writes.{open_at}
use Rattle.net_world.specs.Contents.{content}
use Rattle.net_world.specs.Checks.{end_of_check_in}
use Rattle.net_world.specs.Barred.{unless_on, unless_off, unless_sent, barring_fault}
use Rattle.net_world.specs.Outcomes.{Outcome, Does, Refuses, Drops, outcome_of_step, unless_fault, where_saved, lost_by, met_by_server}
use Rattle.net_world.specs.Outcomes.{met_by_client, comes_to_server, comes_to_client, comes_to_mirror, said_to_server, said_to_client, comes_to}
use Rattle.server_core.specs.Words.{has_boot}
use Rattle.net_world.specs.Outcomes.{delivery, end_of_write, end_of_check_met, cut, noted_in, restart_of, client_cut_in, server_frame_cut}
use Rattle.net_world.specs.Outcomes.{client_frame_cut, frame_cut, delivery_cut_in, restart_cut_in, cut_in, brings, unless_barred, outcome}
use Rattle.net_world.specs.World.{and_outcome, world}
use Rattle.net_world.proofs.ReportFitLemmas.{server_there, server_off, write_there, SomeEnd, fit_end}

FitBe : Result FrameStep Fault → Type 0
FitBe (Ok step) = FrameStepFits step
FitBe (Err fault) = Unit {0}

FitCome : Outcome → Type 0
FitCome (Does (Met step)) = FrameStepFits step
FitCome (Does (Landed s j k mask)) = Unit {0}
FitCome (Does (Rotted s j sector bytes)) = Unit {0}
FitCome (Refuses fault) = Unit {0}
FitCome (Drops step) = FrameStepFits step

fit_step : (r : Result FrameStep Fault) → FitBe r → FitCome (outcome_of_step r)
unfolding FitBe FitCome
fit_step (Ok step) h = h
fit_step (Err fault) h = tt

fit_unless : (x : Option Fault) (r : Result FrameStep Fault) → FitBe r → FitBe (unless_fault x r)
unfolding FitBe
fit_unless None r h = h
fit_unless (Some fault) r h = tt

fit_save : {X : Type 0} (x : Option X) (step : FrameStep) → FrameStepFits step → FitBe (where_saved x step)
unfolding FitBe
fit_save None step h = tt
fit_save (Some x) step h = h

fit_if : (b : Bool) (step : FrameStep) (fault : Fault) → FrameStepFits step → FitBe (if b then Ok step else Err fault)
unfolding FitBe
fit_if true step fault h = h
fit_if false step fault h = tt

-- ---- each sort of happening

fit_server : (t : List Step) (s : ℕ) (e : ServerInput) → s < MAX_SERVERS → ReportFits e → FitBe (met_by_server t s e)
unfolding FitBe
fit_server t s e l r = fit_unless (answers.refusal (opening_of s) (of_server s t) e) _ (l, r)

fit_client : (w : Setup) (t : List Step) (c : ClientInput) → FitBe (met_by_client w t c)
unfolding FitBe
fit_client w t c = fit_unless (clients.refusal (client_opening w) (of_client w t) c) _ tt

fit_ended : (t : List Step) (s k : ℕ) (end : WriteEnd) (x : Option Origin) → s < MAX_SERVERS → FitBe (end_of_write t s k end x)
unfolding FitBe
fit_ended t s k end None l = tt
fit_ended t s k end (Some origin) l = fit_server t s (server_inputs.WriteDone (ticket_of origin k) end) l tt

fit_reported : (t : List Step) (s : ℕ) (x : Option ServerInput) → s < MAX_SERVERS → SomeEnd x → FitBe (end_of_check_met t s x)
unfolding FitBe SomeEnd
fit_reported t s None l r = tt
fit_reported t s (Some e) l r = fit_server t s e l r

fit_cut : (w : Setup) (t : List Step) (node : Node) → w.servers ≤ MAX_SERVERS → unless_on w t node ≡ None → FitBe (cut node)
unfolding FitBe
fit_cut w t (Server s) l h = (server_there w t s l h, tt)
fit_cut w t Client l h = tt
fit_cut w t Mirror l h = tt

fit_unless_so : (b : Bool) (step : FrameStep) (fault : Fault) → FrameStepFits step → FitBe (if b then Err fault else Ok step)
unfolding FitBe
fit_unless_so true step fault h = tt
fit_unless_so false step fault h = h

fit_restarted : (w : Setup) (t : List Step) (node : Node) → w.servers ≤ MAX_SERVERS → unless_off w t node ≡ None → FitBe (restart_of w t node)
unfolding FitBe
fit_restarted w t (Server s) l h = fit_if (has_boot (opening_of s) (of_server s t)) (OfServer s (Happens (server.Restart lefts.Saved))) NumbersSpent (server_off w t s l h, tt)
fit_restarted w t Client l h = fit_unless_so (w.mirror && is_blank (noted_in w t)) (OfClient (Happens (client.Restart w.mirror))) BadNote tt
fit_restarted w t Mirror l h = tt

fit_renewal : (w : Setup) (t : List Step) (g : ℕ) (left : SaveOutcome) (fault : Fault)
    → FitBe (if is_blank (noted_in w t) then Ok (OfClient (Happens (client.Renew g left))) else Err fault)
fit_renewal w t g left fault = fit_if (is_blank (noted_in w t)) (OfClient (Happens (client.Renew g left))) fault tt

fit_restart_cut : (w : Setup) (t : List Step) (landed : Bool) (node : Node) → w.servers ≤ MAX_SERVERS → unless_off w t node ≡ None
    → FitBe (restart_cut_in t landed node)
unfolding FitBe
fit_restart_cut w t landed (Server s) l h = fit_if (has_boot (opening_of s) (of_server s t)) (OfServer s (Happens (server.Restart (lost_by landed)))) NoSave (server_off w t s l h, tt)
fit_restart_cut w t landed Client l h = tt
fit_restart_cut w t landed Mirror l h = tt

fit_comes_to_server : (t : List Step) (s : ℕ) (f : Frame) (m : Meaning) → s < MAX_SERVERS → FitCome (comes_to_server t s f m)
unfolding FitCome FitBe
fit_comes_to_server t s f (Says p) l = fit_step _ (fit_unless (answers.refusal (opening_of s) (of_server s t) (server_inputs.Deliver p)) _ l)
fit_comes_to_server t s f Waits l = l
fit_comes_to_server t s f Spoils l = l
fit_comes_to_server t s f Strays l = tt

fit_comes_to_client : (w : Setup) (t : List Step) (f : Frame) (m : Meaning) → FitCome (comes_to_client w t f m)
unfolding FitCome FitBe
fit_comes_to_client w t f (Says p) = fit_step _ (fit_unless (clients.refusal (client_opening w) (of_client w t) (client_inputs.Deliver p)) _ tt)
fit_comes_to_client w t f Waits = tt
fit_comes_to_client w t f Spoils = tt
fit_comes_to_client w t f Strays = tt

fit_comes_to_mirror : (t : List Step) (f : Frame) → FitBe (comes_to_mirror t f)
unfolding FitBe
fit_comes_to_mirror t f = fit_unless (mirrors.refusal mirror_opening (of_mirror t) f) _ tt

fit_comes_to : (w : Setup) (past : List Change) (node : Node) (f : Frame) → w.servers ≤ MAX_SERVERS → unless_on w (trace w past) node ≡ None
    → FitCome (comes_to w past node f)
unfolding FitCome
fit_comes_to w past (Server s) f l h = fit_comes_to_server (trace w past) s f (said_to_server (steps past) s f) (server_there w (trace w past) s l h)
fit_comes_to w past Client f l h = fit_comes_to_client w (trace w past) f (said_to_client w (steps past) f)
fit_comes_to w past Mirror f l h = fit_step _ (fit_comes_to_mirror (trace w past) f)

fit_delivered : (w : Setup) (past : List Change) (x : Option Frame) → w.servers ≤ MAX_SERVERS → unless_sent w (trace w past) x ≡ None
    → FitCome (delivery w past x)
unfolding FitCome
fit_delivered w past None l h = tt
fit_delivered w past (Some f) l h = fit_comes_to w past (to_of f) f l h

fit_server_frame_cut : (t : List Step) (s : ℕ) (landed : Bool) (f : Frame) (m : Meaning) → s < MAX_SERVERS → FitBe (server_frame_cut t s landed f m)
unfolding FitBe
fit_server_frame_cut t s landed f (Says p) l =
    fit_save (servers.due (opening_of s) (of_server s t) (server_inputs.Deliver p)) (OfServer s (Comes f (lost_by landed))) l
fit_server_frame_cut t s landed f Waits l = tt
fit_server_frame_cut t s landed f Spoils l = tt
fit_server_frame_cut t s landed f Strays l = tt

fit_client_frame_cut : (w : Setup) (t : List Step) (landed : Bool) (f : Frame) (m : Meaning) → FitBe (client_frame_cut w t landed f m)
unfolding FitBe
fit_client_frame_cut w t landed f (Says p) =
    fit_save (clients.due (client_opening w) (of_client w t) (client_inputs.Deliver p)) (OfClient (Comes f (lost_by landed))) tt
fit_client_frame_cut w t landed f Waits = tt
fit_client_frame_cut w t landed f Spoils = tt
fit_client_frame_cut w t landed f Strays = tt

fit_frame_cut : (w : Setup) (past : List Change) (landed : Bool) (node : Node) (f : Frame) → w.servers ≤ MAX_SERVERS → unless_on w (trace w past) node ≡ None
    → FitBe (frame_cut w past landed node f)
unfolding FitBe
fit_frame_cut w past landed (Server s) f l h =
    fit_server_frame_cut (trace w past) s landed f (said_to_server (steps past) s f) (server_there w (trace w past) s l h)
fit_frame_cut w past landed Client f l h = fit_client_frame_cut w (trace w past) landed f (said_to_client w (steps past) f)
fit_frame_cut w past landed Mirror f l h = fit_save (mirrors.due mirror_opening (of_mirror (trace w past)) f) (OfMirror (mirror.Met f (lost_by landed))) tt

fit_delivery_cut : (w : Setup) (past : List Change) (landed : Bool) (x : Option Frame) → w.servers ≤ MAX_SERVERS → unless_sent w (trace w past) x ≡ None
    → FitBe (delivery_cut_in w past landed x)
unfolding FitBe
fit_delivery_cut w past landed None l h = tt
fit_delivery_cut w past landed (Some f) l h = fit_frame_cut w past landed (to_of f) f l h

fit_client_cut : (w : Setup) (t : List Step) (landed : Bool) (c : ClientInput) → FitBe (client_cut_in w t landed c)
fit_client_cut w t landed c = fit_save (clients.due (client_opening w) (of_client w t) c) (OfClient (Happens (client.Met c (lost_by landed)))) tt

-- The laws on which this rests.
pub record Reports : Type 0 where
  pub fit : ReportsFit
  pub sets : ChecksHaveSets

fit_cut_in : (w : Setup) (past : List Change) (landed : Bool) (e : Happening) → w.servers ≤ MAX_SERVERS
    → barring_fault w (trace w past) (frames_sent w (steps past)) (CutIn landed e) ≡ None → FitBe (cut_in w past landed e)
unfolding FitBe
fit_cut_in w past landed (Begin text) l h = fit_client_cut w (trace w past) landed (client_inputs.Begin text)
fit_cut_in w past landed (Verify run text) l h = fit_client_cut w (trace w past) landed (client_inputs.Verify run text)
fit_cut_in w past landed (Deliver i) l h = fit_delivery_cut w past landed (slice_get (frames_sent w (steps past)) i) l h
fit_cut_in w past landed (Restart node) l h = fit_restart_cut w (trace w past) landed node l h
fit_cut_in w past landed (Renew g) l h = fit_renewal w (trace w past) g (lost_by landed) NoSave
fit_cut_in w past landed LoseNote l h = tt
fit_cut_in w past landed (Trigger run act) l h = tt
fit_cut_in w past landed (StopRun run) l h = tt
fit_cut_in w past landed Tick l h = tt
fit_cut_in w past landed (Issue s j) l h = tt
fit_cut_in w past landed (Land s j k mask) l h = tt
fit_cut_in w past landed (Done s j k) l h = tt
fit_cut_in w past landed (Fail s j k) l h = tt
fit_cut_in w past landed (Rot s j sector bytes) l h = tt
fit_cut_in w past landed (happenings.Check s j) l h = tt
fit_cut_in w past landed (Cut node) l h = tt
fit_cut_in w past landed (CutIn again e) l h = tt

fit_bring : Reports → (w : Setup) (past : List Change) (e : Happening) → w.servers ≤ MAX_SERVERS
    → barring_fault w (trace w past) (frames_sent w (steps past)) e ≡ None → FitCome (brings w past e)
unfolding FitBe FitCome
fit_bring laws w past (Begin text) l h = fit_step _ (fit_client w (trace w past) (client_inputs.Begin text))
fit_bring laws w past (Trigger run act) l h = fit_step _ (fit_client w (trace w past) (client_inputs.Trigger run act))
fit_bring laws w past (StopRun run) l h = fit_step _ (fit_client w (trace w past) (client_inputs.Stop run))
fit_bring laws w past (Verify run text) l h = fit_step _ (fit_client w (trace w past) (client_inputs.Verify run text))
fit_bring laws w past Tick l h = fit_step _ (fit_client w (trace w past) client_inputs.Tick)
fit_bring laws w past (Deliver i) l h = fit_delivered w past (slice_get (frames_sent w (steps past)) i) l h
fit_bring laws w past (Issue s j) l h = fit_step _ (fit_server (trace w past) s (server_inputs.Issue j) (server_there w (trace w past) s l h) tt)
fit_bring laws w past (Land s j k mask) l h = tt
fit_bring laws w past (Done s j k) l h =
    fit_step _ (fit_ended (trace w past) s k ends.Done (open_at (trace w past) s j k) (write_there w (trace w past) s j k l h))
fit_bring laws w past (Fail s j k) l h =
    fit_step _ (fit_ended (trace w past) s k ends.Failed (open_at (trace w past) s j k) (write_there w (trace w past) s j k l h))
fit_bring laws w past (Rot s j sector bytes) l h = tt
fit_bring laws w past (happenings.Check s j) l h =
    let list = of_server s (trace w past) in
    fit_step _ (fit_reported (trace w past) s (end_of_check_in (check (opening_of s) list) j (content w past s j)) (server_there w (trace w past) s l h)
    (fit_end laws.fit laws.sets s list j (content w past s j) (check (opening_of s) list) refl))
fit_bring laws w past (Cut node) l h = fit_step _ (fit_cut w (trace w past) node l h)
fit_bring laws w past (Restart node) l h = fit_step _ (fit_restarted w (trace w past) node l h)
fit_bring laws w past LoseNote l h = tt
fit_bring laws w past (Renew g) l h = fit_step _ (fit_renewal w (trace w past) g lefts.Saved BadNote)
fit_bring laws w past (CutIn landed e) l h = fit_step _ (fit_cut_in w past landed e l h)

fit_pass : (x : Option Fault) (r : Outcome) → (x ≡ None → FitCome r) → FitCome (unless_barred x r)
unfolding FitCome
fit_pass None r f = f refl
fit_pass (Some fault) r f = tt

fit_one : (past : List Change) (r : Outcome) → AllByRecursion FrameStepFits (steps past) → FitCome r → AllByRecursion FrameStepFits (steps (and_outcome r past))
unfolding FitCome
fit_one past (Does (Met step)) h f = (f, h)
fit_one past (Does (Landed s j k mask)) h f = h
fit_one past (Does (Rotted s j sector bytes)) h f = h
fit_one past (Refuses fault) h f = h
fit_one past (Drops step) h f = (f, h)

steps_fit : Reports → (w : Setup) (events : List Happening) → w.servers ≤ MAX_SERVERS → AllByRecursion FrameStepFits (steps (world w events))
steps_fit laws w [] l = tt
steps_fit laws w (e ∷ events) l =
    let past = world w events in
    fit_one past (outcome w past e) (steps_fit laws w events l)
    (fit_pass (barring_fault w (trace w past) (frames_sent w (steps past)) e) (brings w past e) (λ h. fit_bring laws w past e l h))

pub world_fits : Reports → (w : Setup) (events : List Happening) → w.servers ≤ MAX_SERVERS → FitsFrames w (steps (world w events))
world_fits laws w events l = record { few = l; steps = steps_fit laws w events l }
