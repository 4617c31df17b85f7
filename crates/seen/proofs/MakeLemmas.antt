-- Each entry of a server is made by an event of the world: by a frame, by a cut within a save, or by another.
use Rattle.std.proofs.Common.{◌≡◌, refl, sym, ◌∙◌, subst, ℕ, Bool, true, false, ◌==◌, List, Option, Some, None, Ok}
use Rattle.std.specs.Prelude.{slice_get}
use Rattle.std.proofs.lemmas.Bool.{eqb-true}
use Rattle.fc_base.specs.declared.fault.Fault.{Fault}
use Rattle.fc_base.specs.declared.fault.Fault.TheVariants.{BadNote, NoSave}
use Rattle.disk_model.specs.declared.save_outcome.SaveOutcome.{SaveOutcome}
use Rattle.disk_model.specs.declared.save_outcome.SaveOutcome.TheVariants as lefts
use Rattle.disk_model.specs.SaveOutcome.{saved_for, is_lost}
use Rattle.messages.specs.declared.frame.Frame.{Frame}
use Rattle.messages.specs.declared.node.Node.{Node}
use Rattle.messages.specs.declared.node.Node.TheVariants.{Server, Client, Mirror}
use Rattle.messages.specs.declared.packet.PacketParts.{PacketParts}
use Rattle.messages.specs.Hearing.{Comes, Happens, Meaning, Says, Waits, Spoils, Strays, heard_by, entry_of, heard}
use Rattle.server_core.specs.declared.input.Input.TheVariants as server_inputs
use Rattle.server_core.specs.declared.input.WriteEnd.TheVariants as ends
use Rattle.server_core.specs.History as server
use Rattle.server_core.specs.History.{Entry}
use Rattle.server_core.specs.Words.{Staged, due}
use Rattle.server_core.specs.Answers.{refusal}
use Rattle.server_core.specs.Check.{check}
use Rattle.client_core.specs.Inputs.{PacketInput}
use Rattle.client_core.specs.Inputs as client_inputs
use Rattle.client_core.specs.History as client
use Rattle.client_core.specs.Words as clients
use Rattle.mirror_core.specs.History as mirror
use Rattle.mirror_core.specs.Words as mirrors
use Rattle.net_world.specs.Setup.{Setup}
use Rattle.net_world.specs.Happenings.{Happening, Begin, Trigger, StopRun, Verify, Tick, Deliver, Issue}
use Rattle.net_world.specs.Happenings.{Land, Done, Fail, Rot, Cut, Restart, LoseNote, Renew, CutIn}
use Rattle.net_world.specs.Happenings as happenings
use Rattle.net_world.specs.Trace.{of_server, of_mirror, opening_of, client_opening, mirror_opening, of_client}
use Rattle.net_world.specs.Frames as frames
use Rattle.net_world.specs.Frames.{FrameStep, OfServer, OfClient, OfMirror, at_server, frames_sent, to_of}
use Rattle.net_world.specs.Changes.{Change, Met, steps, trace}
use Rattle.net_world.specs.Writes.{open_at}
use Rattle.net_world.specs.Barred.{barring_fault}
use Rattle.net_world.specs.Outcomes.{Outcome, Does, outcome_of_step, unless_fault, where_saved, lost_by}
use Rattle.net_world.specs.Outcomes.{comes_to_server, comes_to_client, said_to_server, said_to_client, comes_to}
use Rattle.net_world.specs.Outcomes.{delivery, client_cut_in, server_frame_cut}
use Rattle.net_world.specs.Outcomes.{client_frame_cut, frame_cut, delivery_cut_in, cut_in, brings, unless_barred, outcome}
use Rattle.seen.proofs.EntryLemmas.{step_in, entry_in, entry_by, Makes, ByFrame, ByLoss, Adds, adds_none, free, saves, by_client, here, same_entry, by_worker, by_end, by_check, by_cut, by_restart, by_restart_cut, by_renewal}

-- What a server hears of a frame that says this.
heard_of : (s r : ℕ) (ps : List FrameStep) (f : Frame) (left : SaveOutcome) (m : Meaning) (y : Entry) → said_to_server ps r f ≡ m
    → entry_in s ps (OfServer r (Comes f left)) ≡ Some y → (r ≡ s) × (heard_by (at_server r) left m ≡ Some y)
heard_of s r ps f left m y is h =
    let k = here r s (r == s) (eqb-true r s) (entry_of (at_server r) (heard (at_server r) (frames.of_server r ps)) (Comes f left)) y h in
    (k.0, subst (λ x. heard_by (at_server r) left x ≡ Some y) is k.1)

-- A frame that comes to a server and isn't refused.
brought : (w : Setup) (past : List Change) (s r i : ℕ) (f : Frame) (p : PacketParts) (x : Option Fault) (left : SaveOutcome)
    → slice_get (frames_sent w (steps past)) i ≡ Some f → to_of f ≡ Server r → said_to_server (steps past) r f ≡ Says p
    → refusal (opening_of r) (of_server r (trace w past)) (server_inputs.Deliver p) ≡ x
    → left ≡ saved_for (due (opening_of r) (of_server r (trace w past)) (server_inputs.Deliver p))
    → Adds w past s (Deliver i) (outcome_of_step (unless_fault x (Ok (OfServer r (Comes f left)))))
unfolding Adds
brought w past s r i f p None left is to says ok saved y h =
    let k = heard_of s r (steps past) f left (Says p) y says h in
    let e = same_entry (server.Met (server_inputs.Deliver p) left) y k.1 in
    subst (λ n. Makes w past n (Deliver i) (Does (Met (OfServer r (Comes f left)))) y) k.0
    (ByFrame i f p left refl is to says ok saved (sym e) refl)
brought w past s r i f p (Some fault) left is to says ok saved y h = absurd cc

waits : (w : Setup) (past : List Change) (s r : ℕ) (e : Happening) (f : Frame) (m : Meaning) → said_to_server (steps past) r f ≡ m
    → heard_by (at_server r) lefts.NoSave m ≡ None → (y : Entry) → entry_in s (steps past) (OfServer r (Comes f lefts.NoSave)) ≡ Some y → ⊥
waits w past s r e f m is none y h =
    let k = heard_of s r (steps past) f lefts.NoSave m y is h in
    let no : None ≡ Some y = sym none ∙ k.1 in
    absurd cc

come_to_server : (w : Setup) (past : List Change) (s r i : ℕ) (f : Frame) (m : Meaning) → slice_get (frames_sent w (steps past)) i ≡ Some f
    → to_of f ≡ Server r → said_to_server (steps past) r f ≡ m → Adds w past s (Deliver i) (comes_to_server (trace w past) r f m)
unfolding Adds
come_to_server w past s r i f (Says p) is to says =
    brought w past s r i f p (refusal (opening_of r) (of_server r (trace w past)) (server_inputs.Deliver p)) _ is to says refl refl
come_to_server w past s r i f Waits is to says = λ y h. absurd (waits w past s r (Deliver i) f Waits says refl y h)
come_to_server w past s r i f Spoils is to says = λ y h. absurd (waits w past s r (Deliver i) f Spoils says refl y h)
come_to_server w past s r i f Strays is to says = λ y h. absurd cc

come_to_client : (w : Setup) (past : List Change) (s : ℕ) (f : Frame) (m : Meaning) → entry_by s (steps past) (step_in (comes_to_client w (trace w past) f m)) ≡ None
come_to_client w past s f (Says p) = free s (steps past) (clients.refusal (client_opening w) (of_client w (trace w past)) (client_inputs.Deliver p)) _ refl
come_to_client w past s f Waits = refl
come_to_client w past s f Spoils = refl
come_to_client w past s f Strays = refl

come_to : (w : Setup) (past : List Change) (s i : ℕ) (f : Frame) (node : Node) → slice_get (frames_sent w (steps past)) i ≡ Some f → to_of f ≡ node
    → Adds w past s (Deliver i) (comes_to w past node f)
come_to w past s i f (Server r) is to = come_to_server w past s r i f (said_to_server (steps past) r f) is to refl
come_to w past s i f Client is to = adds_none w past s (Deliver i) _ (come_to_client w past s f (said_to_client w (steps past) f))
come_to w past s i f Mirror is to =
    adds_none w past s (Deliver i) _ (free s (steps past) (mirrors.refusal mirror_opening (of_mirror (trace w past)) f) _ refl)

delivered : (w : Setup) (past : List Change) (s i : ℕ) (x : Option Frame) → slice_get (frames_sent w (steps past)) i ≡ x → Adds w past s (Deliver i) (delivery w past x)
delivered w past s i None is = adds_none w past s (Deliver i) _ refl
delivered w past s i (Some f) is = come_to w past s i f (to_of f) is refl

-- ---- cuts within saves

lost : (landed : Bool) → is_lost (lost_by landed) ≡ true
lost true = refl
lost false = refl

cut_off : (w : Setup) (past : List Change) (s r : ℕ) (e : Happening) (f : Frame) (p : PacketParts) (landed : Bool) (x : Option Staged)
    → said_to_server (steps past) r f ≡ Says p → due (opening_of r) (of_server r (trace w past)) (server_inputs.Deliver p) ≡ x
    → Adds w past s e (outcome_of_step (where_saved x (OfServer r (Comes f (lost_by landed)))))
unfolding Adds
cut_off w past s r e f p landed None says is y h = absurd cc
cut_off w past s r e f p landed (Some d) says is y h =
    let k = heard_of s r (steps past) f (lost_by landed) (Says p) y says h in
    let same = same_entry (server.Met (server_inputs.Deliver p) (lost_by landed)) y k.1 in
    subst (λ n. Makes w past n e (Does (Met (OfServer r (Comes f (lost_by landed))))) y) k.0
    (ByLoss (server_inputs.Deliver p) (lost_by landed) (sym same) (lost landed) d is)

cut_at_server : (w : Setup) (past : List Change) (s r : ℕ) (e : Happening) (f : Frame) (landed : Bool) (m : Meaning) → said_to_server (steps past) r f ≡ m
    → Adds w past s e (outcome_of_step (server_frame_cut (trace w past) r landed f m))
cut_at_server w past s r e f landed (Says p) says =
    cut_off w past s r e f p landed (due (opening_of r) (of_server r (trace w past)) (server_inputs.Deliver p)) says refl
cut_at_server w past s r e f landed Waits says = adds_none w past s e _ refl
cut_at_server w past s r e f landed Spoils says = adds_none w past s e _ refl
cut_at_server w past s r e f landed Strays says = adds_none w past s e _ refl

cut_at_client : (w : Setup) (past : List Change) (s : ℕ) (f : Frame) (landed : Bool) (m : Meaning)
    → entry_by s (steps past) (step_in (outcome_of_step (client_frame_cut w (trace w past) landed f m))) ≡ None
cut_at_client w past s f landed (Says p) = saves s (steps past) (clients.due (client_opening w) (of_client w (trace w past)) (client_inputs.Deliver p)) _ refl
cut_at_client w past s f landed Waits = refl
cut_at_client w past s f landed Spoils = refl
cut_at_client w past s f landed Strays = refl

cut_at : (w : Setup) (past : List Change) (s : ℕ) (e : Happening) (f : Frame) (landed : Bool) (node : Node)
    → Adds w past s e (outcome_of_step (frame_cut w past landed node f))
cut_at w past s e f landed (Server r) = cut_at_server w past s r e f landed (said_to_server (steps past) r f) refl
cut_at w past s e f landed Client = adds_none w past s e _ (cut_at_client w past s f landed (said_to_client w (steps past) f))
cut_at w past s e f landed Mirror =
    adds_none w past s e _ (saves s (steps past) (mirrors.due mirror_opening (of_mirror (trace w past)) f) (OfMirror (mirror.Met f (lost_by landed))) refl)

delivery_cut : (w : Setup) (past : List Change) (s : ℕ) (e : Happening) (landed : Bool) (x : Option Frame)
    → Adds w past s e (outcome_of_step (delivery_cut_in w past landed x))
delivery_cut w past s e landed None = adds_none w past s e _ refl
delivery_cut w past s e landed (Some f) = cut_at w past s e f landed (to_of f)

client_cut : (w : Setup) (past : List Change) (s : ℕ) (e : Happening) (landed : Bool) (c : PacketInput)
    → Adds w past s e (outcome_of_step (client_cut_in w (trace w past) landed c))
client_cut w past s e landed c =
    adds_none w past s e _ (saves s (steps past) (clients.due (client_opening w) (of_client w (trace w past)) c)
    (OfClient (Happens (client.Met c (lost_by landed)))) refl)

by_cut_in : (w : Setup) (past : List Change) (s : ℕ) (e : Happening) (landed : Bool) (inner : Happening)
    → Adds w past s e (outcome_of_step (cut_in w past landed inner))
by_cut_in w past s e landed (Begin text) = client_cut w past s e landed (client_inputs.Begin text)
by_cut_in w past s e landed (Verify run text) = client_cut w past s e landed (client_inputs.Verify run text)
by_cut_in w past s e landed (Deliver i) = delivery_cut w past s e landed (slice_get (frames_sent w (steps past)) i)
by_cut_in w past s e landed (Restart node) = by_restart_cut w past s e landed node
by_cut_in w past s e landed (Renew g) = by_renewal w past s g e (lost_by landed) NoSave
by_cut_in w past s e landed LoseNote = adds_none w past s e _ refl
by_cut_in w past s e landed (Trigger run act) = adds_none w past s e _ refl
by_cut_in w past s e landed (StopRun run) = adds_none w past s e _ refl
by_cut_in w past s e landed Tick = adds_none w past s e _ refl
by_cut_in w past s e landed (Issue r j) = adds_none w past s e _ refl
by_cut_in w past s e landed (Land r j k mask) = adds_none w past s e _ refl
by_cut_in w past s e landed (Done r j k) = adds_none w past s e _ refl
by_cut_in w past s e landed (Fail r j k) = adds_none w past s e _ refl
by_cut_in w past s e landed (Rot r j sector bytes) = adds_none w past s e _ refl
by_cut_in w past s e landed (happenings.Check r j) = adds_none w past s e _ refl
by_cut_in w past s e landed (Cut node) = adds_none w past s e _ refl
by_cut_in w past s e landed (CutIn again f) = adds_none w past s e _ refl

-- ---- all of it

brings_so : (w : Setup) (past : List Change) (s : ℕ) (e : Happening) → Adds w past s e (brings w past e)
brings_so w past s (Begin text) = by_client w past s (Begin text) (client_inputs.Begin text)
brings_so w past s (Trigger run act) = by_client w past s (Trigger run act) (client_inputs.Trigger run act)
brings_so w past s (StopRun run) = by_client w past s (StopRun run) (client_inputs.Stop run)
brings_so w past s (Verify run text) = by_client w past s (Verify run text) (client_inputs.Verify run text)
brings_so w past s Tick = by_client w past s Tick client_inputs.Tick
brings_so w past s (Deliver i) = delivered w past s i (slice_get (frames_sent w (steps past)) i) refl
brings_so w past s (Issue r j) = by_worker w past s r j
brings_so w past s (Land r j k mask) = adds_none w past s (Land r j k mask) _ refl
brings_so w past s (Done r j k) = by_end w past s r j k ends.Done (open_at (trace w past) r j k) refl
brings_so w past s (Fail r j k) = by_end w past s r j k ends.Failed (open_at (trace w past) r j k) refl
brings_so w past s (Rot r j sector bytes) = adds_none w past s (Rot r j sector bytes) _ refl
brings_so w past s (happenings.Check r j) =
    by_check w past s r j (check (opening_of r) (of_server r (trace w past))) refl
brings_so w past s (Cut node) = by_cut w past s (Cut node) node
brings_so w past s (Restart node) = by_restart w past s (Restart node) node
brings_so w past s LoseNote = adds_none w past s LoseNote _ refl
brings_so w past s (Renew g) = by_renewal w past s g (Renew g) lefts.Saved BadNote
brings_so w past s (CutIn landed e) = by_cut_in w past s (CutIn landed e) landed e

unbarred : (w : Setup) (past : List Change) (s : ℕ) (e : Happening) (x : Option Fault) (r : Outcome) → Adds w past s e r → Adds w past s e (unless_barred x r)
unfolding Adds
unbarred w past s e None r a = a
unbarred w past s e (Some fault) r a = λ y h. absurd cc

-- What a server hears with an event is made by it.
pub makes : (w : Setup) (past : List Change) (s : ℕ) (e : Happening) (y : Entry) → entry_by s (steps past) (step_in (outcome w past e)) ≡ Some y
    → Makes w past s e (outcome w past e) y
unfolding Adds
makes w past s e y h =
    unbarred w past s e (barring_fault w (trace w past) (frames_sent w (steps past)) e) (brings w past e) (brings_so w past s e) y h
