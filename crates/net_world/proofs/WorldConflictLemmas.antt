-- Nothing that happens in a world is refused as another state of a kept key.
use Rattle.std.proofs.Common.{◌≡◌, refl, ap, subst, ℕ, Bool, true, false, ◌&&◌, List, [], ◌∷◌, ◌++◌, Option, Some, None, Ok, Err}
use Rattle.std.specs.Prelude.{if◌then◌else◌, not, slice_get, Contains}
use Rattle.std.proofs.lemmas.Option.{slice_get_within, get_or_from_slice_get}
use Rattle.fc_base.specs.declared.fault.Fault.{Fault}
use Rattle.fc_base.specs.declared.fault.Fault.TheVariants.{Conflict, BadNote, NumbersSpent, NoSave, Down, Misdirected}
use Rattle.fc_base.specs.Faults.{when}
use Rattle.engine.specs.Running.{Origin}
use Rattle.engine.specs.Answers.{ticket_of}
use Rattle.messages.specs.declared.packet.PacketParts.{PacketParts}
use Rattle.messages.specs.declared.frame.Frame.{Frame}
use Rattle.messages.specs.declared.frame.Frame.TheVariants.{Whole, Piece}
use Rattle.messages.specs.declared.node.Node.{Node}
use Rattle.messages.specs.declared.node.Node.TheVariants.{Server, Client, Mirror}
use Rattle.messages.specs.PieceLaws.{OnlySentComesTogether}
use Rattle.messages.specs.Hearing.{Meaning, Says, Waits, Spoils, Strays, heard}
use Rattle.disk_model.specs.declared.save_outcome.SaveOutcome.TheVariants as lefts
use Rattle.server_core.specs.Inputs.{PacketInput as ServerInput}
use Rattle.server_core.specs.declared.input.Input.TheVariants as server_inputs
use Rattle.server_core.specs.declared.input.WriteEnd.{WriteEnd}
use Rattle.server_core.specs.declared.input.WriteEnd.TheVariants as ends
use Rattle.server_core.specs.Words as servers
use Rattle.server_core.specs.Answers as answers
use Rattle.client_core.specs.Inputs.{PacketInput as ClientInput}
use Rattle.client_core.specs.Inputs as client_inputs
use Rattle.client_core.specs.Words as clients
use Rattle.client_core.specs.Note.{is_blank}
use Rattle.mirror_core.specs.Words as mirrors
use Rattle.net_world.specs.Setup.{Setup}
use Rattle.net_world.specs.Happenings.{Happening, Begin, Trigger, StopRun, Verify, Tick, Deliver, Issue}
use Rattle.net_world.specs.Happenings.{Land, Done, Fail, Rot, Cut, Restart, LoseNote, Renew, CutIn}
use Rattle.net_world.specs.Happenings as happenings
use Rattle.net_world.specs.Trace.{Step, IsTrace, of_server, of_client, of_mirror, opening_of, client_opening, mirror_opening, sent_packets}
use Rattle.net_world.specs.Frames as frames
use Rattle.net_world.specs.Frames.{FrameStep, at_client, frames_sent, to_of, IsFrameTrace, trace_heard}
use Rattle.net_world.specs.InRange.{FitsFrames, SentAreInRange}
use Rattle.net_world.specs.FrameLaws.{FramesAreOfPackets, TagsNameOneBody}
use Rattle.net_world.specs.Passes.{NoPacketConflicts, NoCopyConflicts}
use Rattle.net_world.specs.Changes.{Change, steps, trace}
use Rattle.net_world.specs.Writes.{open_at}
use Rattle.net_world.specs.Checks.{end_of_check}
use Rattle.net_world.specs.Barred.{barring_fault}
use Rattle.net_world.specs.Outcomes.{Outcome, Does, Refuses, Drops, met_by_server, met_by_client, comes_to_server, comes_to_client, said_to_server}
use Rattle.server_core.specs.Words.{has_boot}
use Rattle.net_world.specs.Outcomes.{said_to_client, comes_to, delivery, end_of_write, end_of_check_met, cut, noted_in, restart_of}
use Rattle.net_world.specs.Outcomes.{cut_in, server_frame_cut, client_frame_cut, frame_cut, delivery_cut_in, restart_cut_in, brings, outcome}
use Rattle.net_world.specs.World.{told_by, world}
use Rattle.net_world.specs.WorldLaws.{EachWorldIsAFrameTrace}
use Rattle.net_world.specs.Claims.{OfEachTrace, OfEachWorld}
use Rattle.net_world.specs.Headline.{NoConflict}
use Rattle.net_world.proofs.OnlySentLemmas.{frame_is, keeps, stands, heard_fits, SaysSent}
use Rattle.net_world.proofs.WorldFitLemmas.{Reports, world_fits}
use Rattle.net_world.proofs.CalmLemmas.{Fine, FineStep, FineCome, fine_step, fine_unless, fine_save, fine_barred, fine_bar, fine_server, NoPacket, fine_call}

-- The laws on which this rests.
pub record Peace : Type 0 where
  pub traces : EachWorldIsAFrameTrace
  pub law : OnlySentComesTogether
  pub frames : FramesAreOfPackets
  pub tags : TagsNameOneBody
  pub ranges : SentAreInRange
  pub never : OfEachTrace NoPacketConflicts
  pub copies : OfEachTrace NoCopyConflicts
  pub reports : Reports

-- ---- a frame that comes

-- A packet that a frame says to the client was sent.
said_was_sent : Peace → (w : Setup) (t : List FrameStep) → IsFrameTrace w t → FitsFrames w t → (f : Frame) → Contains (frames_sent w t) f → to_of f ≡ Client
    → (p : PacketParts) → said_to_client w t f ≡ Says p → Contains (sent_packets w (trace_heard w t)) p
said_was_sent laws w t steps_are fits f i to p is =
    let s = stands laws.law laws.frames laws.tags laws.ranges w t steps_are fits in
    let ps = sent_packets w (trace_heard w t) in
    let are = laws.ranges w (trace_heard w t) s.trace (heard_fits w t fits) in
    let k = keeps laws.law (at_client w) ps are (laws.tags w (trace_heard w t) s.trace are) (heard (at_client w) (frames.of_client w t)) s.client_rows Client f
    (frame_is laws.frames w t f i) to lefts.NoSave in
    let says : SaysSent ps Client (Says p) = subst (SaysSent ps Client) is k.says in
    says.0

fine_to_server : (t : List Step) (s : ℕ) (f : Frame) (m : Meaning) → FineCome (comes_to_server t s f m)
unfolding FineCome
fine_to_server t s f (Says p) h =
    fine_step _ (fine_unless (answers.refusal (opening_of s) (of_server s t) (server_inputs.Deliver p)) _ (fine_server s (of_server s t) (server_inputs.Deliver p))) h
fine_to_server t s f Waits h = cc
fine_to_server t s f Spoils h = cc
fine_to_server t s f Strays h = cc

fine_to_client : (w : Setup) (t : List Step) (f : Frame) (m : Meaning)
    → ((p : PacketParts) → m ≡ Says p → Fine (clients.refusal (client_opening w) (of_client w t) (client_inputs.Deliver p))) → FineCome (comes_to_client w t f m)
unfolding FineCome
fine_to_client w t f (Says p) g h = fine_step _ (fine_unless (clients.refusal (client_opening w) (of_client w t) (client_inputs.Deliver p)) _ (g p refl)) h
fine_to_client w t f Waits g h = cc
fine_to_client w t f Spoils g h = cc
fine_to_client w t f Strays g h = cc

-- A whole frame at the mirror is a packet that was sent, and a piece is never for it.
fine_at_mirror : Peace → (w : Setup) (t : List FrameStep) → IsTrace w (trace_heard w t) → (f : Frame) → Contains (frames_sent w t) f
    → Fine (mirrors.refusal mirror_opening (of_mirror (trace_heard w t)) f)
unfolding Fine
fine_at_mirror laws w t trace (Whole p) i = laws.copies w (trace_heard w t) trace p (frame_is laws.frames w t (Whole p) i)
fine_at_mirror laws w t trace (Piece q) i = piece (mirrors.is_on (of_mirror (trace_heard w t)))
  where
    piece : (on : Bool) → slice_get (when (not on) Down ++ Misdirected ∷ []) 0 ≡ Some Conflict → ⊥
    piece true h = cc
    piece false h = cc

fine_to : Peace → (w : Setup) (past : List Change) → IsFrameTrace w (steps past) → FitsFrames w (steps past) → IsTrace w (trace w past)
    → (node : Node) (f : Frame) → Contains (frames_sent w (steps past)) f → to_of f ≡ node → FineCome (comes_to w past node f)
unfolding Fine FineCome
fine_to laws w past steps_are fits t (Server s) f i to = fine_to_server (trace w past) s f (said_to_server (steps past) s f)
fine_to laws w past steps_are fits t Client f i to =
    fine_to_client w (trace w past) f (said_to_client w (steps past) f)
    (λ p is. laws.never w (trace w past) t p (said_was_sent laws w (steps past) steps_are fits f i to p is))
fine_to laws w past steps_are fits t Mirror f i to =
    fine_step _ (fine_unless (mirrors.refusal mirror_opening (of_mirror (trace w past)) f) _ (fine_at_mirror laws w (steps past) t f i))

sent_at : (fs : List Frame) (i : ℕ) (f : Frame) → slice_get fs i ≡ Some f → Contains fs f
sent_at fs i f h = (i, slice_get_within fs i f h, get_or_from_slice_get fs i f f h)

fine_delivered : Peace → (w : Setup) (past : List Change) → IsFrameTrace w (steps past) → FitsFrames w (steps past) → IsTrace w (trace w past)
    → (x : Option Frame) → ((f : Frame) → x ≡ Some f → Contains (frames_sent w (steps past)) f) → FineCome (delivery w past x)
unfolding FineCome
fine_delivered laws w past steps_are fits t None g h = cc
fine_delivered laws w past steps_are fits t (Some f) g h = fine_to laws w past steps_are fits t (to_of f) f (g f refl) refl h

-- ---- the rest

fine_met_server : (t : List Step) (s : ℕ) (e : ServerInput) → FineStep (met_by_server t s e)
fine_met_server t s e = fine_unless (answers.refusal (opening_of s) (of_server s t) e) _ (fine_server s (of_server s t) e)

fine_met_client : (w : Setup) (t : List Step) (c : ClientInput) → NoPacket c → FineStep (met_by_client w t c)
fine_met_client w t c k = fine_unless (clients.refusal (client_opening w) (of_client w t) c) _ (fine_call w (of_client w t) c k)

fine_ended : (t : List Step) (s k : ℕ) (end : WriteEnd) (x : Option Origin) → FineStep (end_of_write t s k end x)
unfolding FineStep
fine_ended t s k end None h = cc
fine_ended t s k end (Some origin) h = fine_met_server t s (server_inputs.WriteDone (ticket_of origin k) end) h

fine_reported : (t : List Step) (s : ℕ) (x : Option ServerInput) → FineStep (end_of_check_met t s x)
unfolding FineStep
fine_reported t s None h = cc
fine_reported t s (Some e) h = fine_met_server t s e h

fine_if_step : (b : Bool) (step : FrameStep) (fault : Fault) → Fine (Some fault) → FineStep (if b then Ok step else Err fault)
unfolding Fine FineStep
fine_if_step true step fault f h = cc
fine_if_step false step fault f h = f (let e : fault ≡ Conflict = cc in ap Some e)

fine_unless_step : (b : Bool) (step : FrameStep) (fault : Fault) → Fine (Some fault) → FineStep (if b then Err fault else Ok step)
unfolding Fine FineStep
fine_unless_step true step fault f h = f (let e : fault ≡ Conflict = cc in ap Some e)
fine_unless_step false step fault f h = cc

fine_restarted : (w : Setup) (t : List Step) (node : Node) → FineStep (restart_of w t node)
unfolding Fine FineStep
fine_restarted w t (Server s) h = fine_if_step (has_boot (opening_of s) (of_server s t)) _ NumbersSpent (λ h. cc) h
fine_restarted w t Client h = fine_unless_step (w.mirror && is_blank (noted_in w t)) _ BadNote (λ h. cc) h
fine_restarted w t Mirror h = cc

fine_renewal : (w : Setup) (t : List Step) (step : FrameStep) (fault : Fault) → Fine (Some fault)
    → FineStep (if is_blank (noted_in w t) then Ok step else Err fault)
fine_renewal w t step fault f = fine_if_step (is_blank (noted_in w t)) step fault f

fine_cut : (node : Node) → FineStep (cut node)
unfolding FineStep
fine_cut (Server s) h = cc
fine_cut Client h = cc
fine_cut Mirror h = cc

fine_restart_cut : (t : List Step) (landed : Bool) (node : Node) → FineStep (restart_cut_in t landed node)
unfolding Fine FineStep
fine_restart_cut t landed (Server s) h = fine_if_step (has_boot (opening_of s) (of_server s t)) _ NoSave (λ h. cc) h
fine_restart_cut t landed Client h = cc
fine_restart_cut t landed Mirror h = cc

fine_frame_cut : (w : Setup) (past : List Change) (landed : Bool) (node : Node) (f : Frame) → FineStep (frame_cut w past landed node f)
unfolding FineStep
fine_frame_cut w past landed (Server s) f = by (said_to_server (steps past) s f)
  where
    by : (m : Meaning) → server_frame_cut (trace w past) s landed f m ≡ Err Conflict → ⊥
    by (Says p) h = fine_save (servers.due (opening_of s) (of_server s (trace w past)) (server_inputs.Deliver p)) _ h
    by Waits h = cc
    by Spoils h = cc
    by Strays h = cc
fine_frame_cut w past landed Client f = by (said_to_client w (steps past) f)
  where
    by : (m : Meaning) → client_frame_cut w (trace w past) landed f m ≡ Err Conflict → ⊥
    by (Says p) h = fine_save (clients.due (client_opening w) (of_client w (trace w past)) (client_inputs.Deliver p)) _ h
    by Waits h = cc
    by Spoils h = cc
    by Strays h = cc
fine_frame_cut w past landed Mirror f = fine_save (mirrors.due mirror_opening (of_mirror (trace w past)) f) _

fine_delivery_cut : (w : Setup) (past : List Change) (landed : Bool) (x : Option Frame) → FineStep (delivery_cut_in w past landed x)
unfolding FineStep
fine_delivery_cut w past landed None h = cc
fine_delivery_cut w past landed (Some f) h = fine_frame_cut w past landed (to_of f) f h

fine_cut_in : (w : Setup) (past : List Change) (landed : Bool) (e : Happening) → FineStep (cut_in w past landed e)
unfolding Fine FineStep
fine_cut_in w past landed (Begin text) h = fine_save (clients.due (client_opening w) (of_client w (trace w past)) (client_inputs.Begin text)) _ h
fine_cut_in w past landed (Verify run text) h = fine_save (clients.due (client_opening w) (of_client w (trace w past)) (client_inputs.Verify run text)) _ h
fine_cut_in w past landed (Deliver i) h = fine_delivery_cut w past landed (slice_get (frames_sent w (steps past)) i) h
fine_cut_in w past landed (Restart node) h = fine_restart_cut (trace w past) landed node h
fine_cut_in w past landed (Renew g) h = fine_renewal w (trace w past) _ NoSave (λ h. cc) h
fine_cut_in w past landed LoseNote h = cc
fine_cut_in w past landed (Trigger run act) h = cc
fine_cut_in w past landed (StopRun run) h = cc
fine_cut_in w past landed Tick h = cc
fine_cut_in w past landed (Issue s j) h = cc
fine_cut_in w past landed (Land s j k mask) h = cc
fine_cut_in w past landed (Done s j k) h = cc
fine_cut_in w past landed (Fail s j k) h = cc
fine_cut_in w past landed (Rot s j sector bytes) h = cc
fine_cut_in w past landed (happenings.Check s j) h = cc
fine_cut_in w past landed (Cut node) h = cc
fine_cut_in w past landed (CutIn again e) h = cc

fine_bring : Peace → (w : Setup) (past : List Change) → IsFrameTrace w (steps past) → FitsFrames w (steps past) → IsTrace w (trace w past) → (e : Happening)
    → FineCome (brings w past e)
unfolding Fine FineCome NoPacket
fine_bring laws w past steps_are fits t (Begin text) h = fine_step _ (fine_met_client w (trace w past) (client_inputs.Begin text) tt) h
fine_bring laws w past steps_are fits t (Trigger run act) h = fine_step _ (fine_met_client w (trace w past) (client_inputs.Trigger run act) tt) h
fine_bring laws w past steps_are fits t (StopRun run) h = fine_step _ (fine_met_client w (trace w past) (client_inputs.Stop run) tt) h
fine_bring laws w past steps_are fits t (Verify run text) h = fine_step _ (fine_met_client w (trace w past) (client_inputs.Verify run text) tt) h
fine_bring laws w past steps_are fits t Tick h = fine_step _ (fine_met_client w (trace w past) client_inputs.Tick tt) h
fine_bring laws w past steps_are fits t (Deliver i) h =
    fine_delivered laws w past steps_are fits t (slice_get (frames_sent w (steps past)) i) (sent_at (frames_sent w (steps past)) i) h
fine_bring laws w past steps_are fits t (Issue s j) h = fine_step _ (fine_met_server (trace w past) s (server_inputs.Issue j)) h
fine_bring laws w past steps_are fits t (Land s j k mask) h = cc
fine_bring laws w past steps_are fits t (Done s j k) h = fine_step _ (fine_ended (trace w past) s k ends.Done (open_at (trace w past) s j k)) h
fine_bring laws w past steps_are fits t (Fail s j k) h = fine_step _ (fine_ended (trace w past) s k ends.Failed (open_at (trace w past) s j k)) h
fine_bring laws w past steps_are fits t (Rot s j sector bytes) h = cc
fine_bring laws w past steps_are fits t (happenings.Check s j) h = fine_step _ (fine_reported (trace w past) s (end_of_check w past s j)) h
fine_bring laws w past steps_are fits t (Cut node) h = fine_step _ (fine_cut node) h
fine_bring laws w past steps_are fits t (Restart node) h = fine_step _ (fine_restarted w (trace w past) node) h
fine_bring laws w past steps_are fits t LoseNote h = cc
fine_bring laws w past steps_are fits t (Renew g) h = fine_step _ (fine_renewal w (trace w past) _ BadNote (λ h. cc)) h
fine_bring laws w past steps_are fits t (CutIn landed e) h = fine_step _ (fine_cut_in w past landed e) h

told_is : (w : Setup) (past : List Change) (e : Happening) (r : Outcome) → told_by w past e r ≡ Err Conflict → r ≡ Refuses Conflict
told_is w past e (Refuses fault) h = let same : fault ≡ Conflict = cc in ap Refuses same
told_is w past e (Drops step) h = absurd cc
told_is w past e (Does change) h = absurd cc

pub none_is_a_conflict : Peace → OfEachWorld NoConflict
unfolding FineCome
none_is_a_conflict laws w events few e h =
    let past = world w events in
    let steps_are = laws.traces w events in
    let fits = world_fits laws.reports w events few in
    let t = (stands laws.law laws.frames laws.tags laws.ranges w (steps past) steps_are fits).trace in
    fine_barred (barring_fault w (trace w past) (frames_sent w (steps past)) e) (brings w past e) (fine_bar w (trace w past) (frames_sent w (steps past)) e)
    (fine_bring laws w past steps_are fits t e)
    (told_is w past e (outcome w past e) h)
