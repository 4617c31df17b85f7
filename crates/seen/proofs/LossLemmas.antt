-- No event but the loss of its note makes the client lose it, and none makes it lose a state that it keeps.
use Rattle.std.proofs.Common.{◌≡◌, refl, sym, subst, ℕ, Bool, true, false, ◌&&◌, List, [], ◌∷◌, Option, Some, None, Ok, Err}
use Rattle.std.specs.Prelude.{if◌then◌else◌, is_ok, slice_get}
use Rattle.fc_base.specs.declared.fault.Fault.{Fault}
use Rattle.fc_base.specs.declared.fault.Fault.TheVariants.{BadNote, NoSave, NumbersSpent}
use Rattle.fc_base.specs.declared.numbers.Key.{Key}
use Rattle.verify_state.specs.State.{State}
use Rattle.disk_model.specs.declared.save_outcome.SaveOutcome.{SaveOutcome}
use Rattle.disk_model.specs.declared.save_outcome.SaveOutcome.TheVariants as lefts
use Rattle.disk_model.specs.SaveOutcome.{saved_for}
use Rattle.engine.specs.Running.{Origin}
use Rattle.engine.specs.Answers.{ticket_of}
use Rattle.messages.specs.declared.frame.Frame.{Frame}
use Rattle.messages.specs.declared.node.Node.{Node}
use Rattle.messages.specs.declared.node.Node.TheVariants.{Server, Client, Mirror}
use Rattle.messages.specs.Hearing.{Comes, Happens, Meaning, Says, Waits, Spoils, Strays, heard_by, with_entry}
use Rattle.server_core.specs.Inputs.{PacketInput as ServerInput}
use Rattle.server_core.specs.declared.input.Input.TheVariants as server_inputs
use Rattle.server_core.specs.declared.input.WriteEnd.{WriteEnd}
use Rattle.server_core.specs.declared.input.WriteEnd.TheVariants as ends
use Rattle.server_core.specs.History as server
use Rattle.server_core.specs.Words as servers
use Rattle.server_core.specs.Answers as answering
use Rattle.client_core.specs.Inputs.{PacketInput as ClientInput}
use Rattle.client_core.specs.Inputs as client_inputs
use Rattle.client_core.specs.History.{Entry, Met, Cut, Restart, Renew, Lose}
use Rattle.client_core.specs.Words.{refusal, due, kept_state}
use Rattle.client_core.specs.Note.{is_blank}
use Rattle.client_core.specs.Laws.{FirstKeptStays}
use Rattle.mirror_core.specs.History as mirror
use Rattle.mirror_core.specs.Words as mirrors
use Rattle.net_world.specs.Setup.{Setup}
use Rattle.net_world.specs.Happenings.{Happening, Begin, Trigger, StopRun, Verify, Tick, Deliver, Issue, Land, Done, Fail, Rot, Check, LoseNote, CutIn}
use Rattle.net_world.specs.Happenings as happenings
use Rattle.net_world.specs.Trace.{of_server, of_client, of_mirror, opening_of, client_opening, mirror_opening}
use Rattle.net_world.specs.Frames.{FrameStep, OfServer, OfClient, OfMirror, at_client, frames_sent, to_of}
use Rattle.net_world.specs.Changes.{Change, steps, trace}
use Rattle.net_world.specs.Writes.{open_at}
use Rattle.net_world.specs.Checks.{end_of_check}
use Rattle.net_world.specs.Barred.{barring_fault}
use Rattle.net_world.specs.Outcomes.{Outcome, outcome_of_step, unless_fault, where_saved, lost_by, delivery_cut_in, restart_cut_in, cut_in, brings, unless_barred, outcome}
use Rattle.net_world.specs.Outcomes.{met_by_server, met_by_client, comes_to_server, comes_to_client, comes_to, delivery, said_to_server, said_to_client}
use Rattle.net_world.specs.Outcomes.{end_of_write, end_of_check_met, cut, restart_of, noted_in, client_cut_in, server_frame_cut, client_frame_cut, frame_cut}
use Rattle.net_world.specs.World.{world, told_by, told_of_happening}
use Rattle.seen.specs.Kept.{is_loss}
use Rattle.seen.proofs.EntryLemmas.{step_in}
use Rattle.seen.proofs.ClientLemmas.{client_in, client_by, client_at, client_list_with}

-- What the client hears is the loss of its note.
is_lose : Option Entry → Bool
is_lose (Some Lose) = true
is_lose _ = false

-- The step isn't that, and no step of the outcome is.
StepKeeps : Setup → List Change → FrameStep → Type 0
StepKeeps w past step = is_lose (client_in w (steps past) step) ≡ false

Keeps : Setup → List Change → Outcome → Type 0
Keeps w past r = is_lose (client_by w (steps past) (step_in r)) ≡ false

-- ---- by what an outcome is made of

free : (w : Setup) (past : List Change) (x : Option Fault) (step : FrameStep) → StepKeeps w past step → Keeps w past (outcome_of_step (unless_fault x (Ok step)))
unfolding is_lose StepKeeps Keeps
free w past None step h = h
free w past (Some fault) step h = refl

saves : {X : Type 0} (w : Setup) (past : List Change) (x : Option X) (step : FrameStep) → StepKeeps w past step
    → Keeps w past (outcome_of_step (where_saved x step))
unfolding is_lose StepKeeps Keeps
saves w past None step h = refl
saves w past (Some x) step h = h

one_of : (w : Setup) (past : List Change) (b : Bool) (step : FrameStep) (fault : Fault) → StepKeeps w past step
    → Keeps w past (outcome_of_step (if b then Ok step else Err fault))
unfolding is_lose StepKeeps Keeps
one_of w past true step fault h = h
one_of w past false step fault h = refl

other_of : (w : Setup) (past : List Change) (b : Bool) (step : FrameStep) (fault : Fault) → StepKeeps w past step
    → Keeps w past (outcome_of_step (if b then Err fault else Ok step))
unfolding is_lose StepKeeps Keeps
other_of w past true step fault h = refl
other_of w past false step fault h = h

at_a_server : (w : Setup) (past : List Change) (s : ℕ) (x : ServerInput) → Keeps w past (outcome_of_step (met_by_server (trace w past) s x))
unfolding is_lose StepKeeps
at_a_server w past s x =
    let o = opening_of s in
    let list = of_server s (trace w past) in
    free w past (answering.refusal o list x) (OfServer s (Happens (server.Met x (saved_for (servers.due o list x))))) refl

call : (w : Setup) (past : List Change) (c : ClientInput) → Keeps w past (outcome_of_step (met_by_client w (trace w past) c))
unfolding is_lose StepKeeps
call w past c =
    let o = client_opening w in
    let list = of_client w (trace w past) in
    free w past (refusal o list c) (OfClient (Happens (Met c (saved_for (due o list c))))) refl

-- ---- frames

said : (w : Setup) (left : SaveOutcome) (m : Meaning) → is_lose (heard_by (at_client w) left m) ≡ false
unfolding is_lose
said w left (Says p) = refl
said w left Waits = refl
said w left Spoils = refl
said w left Strays = refl

frame : (w : Setup) (past : List Change) (f : Frame) (left : SaveOutcome) → StepKeeps w past (OfClient (Comes f left))
unfolding StepKeeps
frame w past f left = said w left (said_to_client w (steps past) f)

to_server : (w : Setup) (past : List Change) (s : ℕ) (f : Frame) (m : Meaning) → Keeps w past (comes_to_server (trace w past) s f m)
unfolding is_lose StepKeeps Keeps
to_server w past s f (Says p) =
    let o = opening_of s in
    let list = of_server s (trace w past) in
    free w past (answering.refusal o list (server_inputs.Deliver p)) (OfServer s (Comes f (saved_for (servers.due o list (server_inputs.Deliver p))))) refl
to_server w past s f Waits = refl
to_server w past s f Spoils = refl
to_server w past s f Strays = refl

to_client : (w : Setup) (past : List Change) (f : Frame) (m : Meaning) → Keeps w past (comes_to_client w (trace w past) f m)
unfolding is_lose StepKeeps Keeps
to_client w past f (Says p) =
    let o = client_opening w in
    let list = of_client w (trace w past) in
    let left = saved_for (due o list (client_inputs.Deliver p)) in
    free w past (refusal o list (client_inputs.Deliver p)) (OfClient (Comes f left)) (frame w past f left)
to_client w past f Waits = frame w past f lefts.NoSave
to_client w past f Spoils = frame w past f lefts.NoSave
to_client w past f Strays = refl

to_node : (w : Setup) (past : List Change) (node : Node) (f : Frame) → Keeps w past (comes_to w past node f)
unfolding is_lose StepKeeps
to_node w past (Server s) f = to_server w past s f (said_to_server (steps past) s f)
to_node w past Client f = to_client w past f (said_to_client w (steps past) f)
to_node w past Mirror f =
    let list = of_mirror (trace w past) in
    free w past (mirrors.refusal mirror_opening list f) (OfMirror (mirror.Met f (saved_for (mirrors.due mirror_opening list f)))) refl

delivers : (w : Setup) (past : List Change) (x : Option Frame) → Keeps w past (delivery w past x)
unfolding is_lose Keeps
delivers w past None = refl
delivers w past (Some f) = to_node w past (to_of f) f

-- ---- what else happens

ends_write : (w : Setup) (past : List Change) (s k : ℕ) (end : WriteEnd) (x : Option Origin) → Keeps w past (outcome_of_step (end_of_write (trace w past) s k end x))
unfolding is_lose Keeps
ends_write w past s k end None = refl
ends_write w past s k end (Some origin) = at_a_server w past s (server_inputs.WriteDone (ticket_of origin k) end)

ends_check : (w : Setup) (past : List Change) (s : ℕ) (x : Option ServerInput) → Keeps w past (outcome_of_step (end_of_check_met (trace w past) s x))
unfolding is_lose Keeps
ends_check w past s None = refl
ends_check w past s (Some x) = at_a_server w past s x

cuts : (w : Setup) (past : List Change) (node : Node) → Keeps w past (outcome_of_step (cut node))
unfolding is_lose Keeps
cuts w past (Server s) = refl
cuts w past Client = refl
cuts w past Mirror = refl

restarts : (w : Setup) (past : List Change) (node : Node) → Keeps w past (outcome_of_step (restart_of w (trace w past) node))
unfolding is_lose StepKeeps Keeps
restarts w past (Server s) =
    one_of w past (servers.has_boot (opening_of s) (of_server s (trace w past))) (OfServer s (Happens (server.Restart lefts.Saved))) NumbersSpent refl
restarts w past Client = other_of w past (w.mirror && is_blank (noted_in w (trace w past))) (OfClient (Happens (Restart w.mirror))) BadNote refl
restarts w past Mirror = refl

renews : (w : Setup) (past : List Change) (g : ℕ) (left : SaveOutcome) (fault : Fault)
    → Keeps w past (outcome_of_step (if is_blank (noted_in w (trace w past)) then Ok (OfClient (Happens (Renew g left))) else Err fault))
unfolding is_lose StepKeeps
renews w past g left fault = one_of w past (is_blank (noted_in w (trace w past))) (OfClient (Happens (Renew g left))) fault refl

-- ---- cuts within a save

call_cut : (w : Setup) (past : List Change) (landed : Bool) (c : ClientInput) → Keeps w past (outcome_of_step (client_cut_in w (trace w past) landed c))
unfolding is_lose StepKeeps
call_cut w past landed c =
    saves w past (due (client_opening w) (of_client w (trace w past)) c) (OfClient (Happens (Met c (lost_by landed)))) refl

to_server_cut : (w : Setup) (past : List Change) (s : ℕ) (landed : Bool) (f : Frame) (m : Meaning)
    → Keeps w past (outcome_of_step (server_frame_cut (trace w past) s landed f m))
unfolding is_lose StepKeeps Keeps
to_server_cut w past s landed f (Says p) =
    saves w past (servers.due (opening_of s) (of_server s (trace w past)) (server_inputs.Deliver p)) (OfServer s (Comes f (lost_by landed))) refl
to_server_cut w past s landed f Waits = refl
to_server_cut w past s landed f Spoils = refl
to_server_cut w past s landed f Strays = refl

to_client_cut : (w : Setup) (past : List Change) (landed : Bool) (f : Frame) (m : Meaning)
    → Keeps w past (outcome_of_step (client_frame_cut w (trace w past) landed f m))
unfolding is_lose Keeps
to_client_cut w past landed f (Says p) =
    saves w past (due (client_opening w) (of_client w (trace w past)) (client_inputs.Deliver p)) (OfClient (Comes f (lost_by landed)))
    (frame w past f (lost_by landed))
to_client_cut w past landed f Waits = refl
to_client_cut w past landed f Spoils = refl
to_client_cut w past landed f Strays = refl

to_node_cut : (w : Setup) (past : List Change) (landed : Bool) (node : Node) (f : Frame) → Keeps w past (outcome_of_step (frame_cut w past landed node f))
unfolding is_lose StepKeeps
to_node_cut w past landed (Server s) f = to_server_cut w past s landed f (said_to_server (steps past) s f)
to_node_cut w past landed Client f = to_client_cut w past landed f (said_to_client w (steps past) f)
to_node_cut w past landed Mirror f =
    saves w past (mirrors.due mirror_opening (of_mirror (trace w past)) f) (OfMirror (mirror.Met f (lost_by landed))) refl

delivers_cut : (w : Setup) (past : List Change) (landed : Bool) (x : Option Frame) → Keeps w past (outcome_of_step (delivery_cut_in w past landed x))
unfolding is_lose Keeps
delivers_cut w past landed None = refl
delivers_cut w past landed (Some f) = to_node_cut w past landed (to_of f) f

restarts_cut : (w : Setup) (past : List Change) (landed : Bool) (node : Node) → Keeps w past (outcome_of_step (restart_cut_in (trace w past) landed node))
unfolding is_lose StepKeeps Keeps
restarts_cut w past landed (Server s) =
    one_of w past (servers.has_boot (opening_of s) (of_server s (trace w past))) (OfServer s (Happens (server.Restart (lost_by landed)))) NoSave refl
restarts_cut w past landed Client = refl
restarts_cut w past landed Mirror = refl

cuts_in : (w : Setup) (past : List Change) (landed : Bool) (inner : Happening) → Keeps w past (outcome_of_step (cut_in w past landed inner))
unfolding is_lose Keeps
cuts_in w past landed (Begin text) = call_cut w past landed (client_inputs.Begin text)
cuts_in w past landed (Verify run text) = call_cut w past landed (client_inputs.Verify run text)
cuts_in w past landed (Deliver i) = delivers_cut w past landed (slice_get (frames_sent w (steps past)) i)
cuts_in w past landed (happenings.Restart node) = restarts_cut w past landed node
cuts_in w past landed (happenings.Renew g) = renews w past g (lost_by landed) NoSave
cuts_in w past landed _ = refl

-- ---- each event
each : (w : Setup) (past : List Change) (e : Happening) → is_loss e ≡ false → Keeps w past (brings w past e)
unfolding is_lose Keeps
each w past (Begin text) h = call w past (client_inputs.Begin text)
each w past (Trigger run act) h = call w past (client_inputs.Trigger run act)
each w past (StopRun run) h = call w past (client_inputs.Stop run)
each w past (Verify run text) h = call w past (client_inputs.Verify run text)
each w past Tick h = call w past client_inputs.Tick
each w past (Deliver i) h = delivers w past (slice_get (frames_sent w (steps past)) i)
each w past (Issue s j) h = at_a_server w past s (server_inputs.Issue j)
each w past (Land s j k mask) h = refl
each w past (Done s j k) h = ends_write w past s k ends.Done (open_at (trace w past) s j k)
each w past (Fail s j k) h = ends_write w past s k ends.Failed (open_at (trace w past) s j k)
each w past (Rot s j sector bytes) h = refl
each w past (Check s j) h = ends_check w past s (end_of_check w past s j)
each w past (happenings.Cut node) h = cuts w past node
each w past (happenings.Restart node) h = restarts w past node
each w past LoseNote h = absurd cc
each w past (happenings.Renew g) h = renews w past g lefts.Saved BadNote
each w past (CutIn landed e) h = cuts_in w past landed e

is_the_loss : (e : Happening) → is_loss e ≡ true → e ≡ LoseNote
is_the_loss LoseNote h = refl
is_the_loss _ h = absurd cc

unbarred : (w : Setup) (past : List Change) (x : Option Fault) (r : Outcome) → Keeps w past r → Keeps w past (unless_barred x r)
unfolding is_lose Keeps
unbarred w past None r h = h
unbarred w past (Some fault) r h = refl

-- The loss, where it is refused.
refused_loss : (w : Setup) (past : List Change) (x : Option Fault) → is_ok (told_by w past LoseNote (unless_barred x (brings w past LoseNote))) ≡ false
    → Keeps w past (unless_barred x (brings w past LoseNote))
unfolding is_lose Keeps
refused_loss w past None h = absurd cc
refused_loss w past (Some fault) h = refl

keeps : (w : Setup) (past : List Change) (e : Happening) (b : Bool) → is_loss e ≡ b → (b && is_ok (told_of_happening w past e)) ≡ false
    → Keeps w past (outcome w past e)
keeps w past e false is h =
    unbarred w past (barring_fault w (trace w past) (frames_sent w (steps past)) e) (brings w past e) (each w past e is)
keeps w past e true is h =
    let same = is_the_loss e is in
    subst (λ x. Keeps w past (outcome w past x)) (sym same)
    (refused_loss w past (barring_fault w (trace w past) (frames_sent w (steps past)) LoseNote)
    (subst (λ x. is_ok (told_of_happening w past x) ≡ false) same h))

-- ---- a state that is kept stays

kept_with : FirstKeptStays → (w : Setup) (list : List Entry) (x : Option Entry) (key : Key) (state : State) → is_lose x ≡ false
    → kept_state (client_opening w) list key ≡ Some state → kept_state (client_opening w) (with_entry x list) key ≡ Some state
unfolding is_lose
kept_with law w list None key state h kept = kept
kept_with law w list (Some (Met c left)) key state h kept = law (client_opening w) (Met c left ∷ []) list key state refl kept
kept_with law w list (Some Cut) key state h kept = law (client_opening w) (Cut ∷ []) list key state refl kept
kept_with law w list (Some (Restart mirror)) key state h kept = law (client_opening w) (Restart mirror ∷ []) list key state refl kept
kept_with law w list (Some (Renew g left)) key state h kept = law (client_opening w) (Renew g left ∷ []) list key state refl kept
kept_with law w list (Some Lose) key state h kept = absurd cc

-- A state that the client keeps it keeps behind one event more, where that isn't the loss of the note.
pub kept_behind : FirstKeptStays → (w : Setup) (evs : List Happening) (e : Happening) (key : Key) (state : State)
    → (is_loss e && is_ok (told_of_happening w (world w evs) e)) ≡ false → kept_state (client_opening w) (client_at w evs) key ≡ Some state
    → kept_state (client_opening w) (client_at w (e ∷ evs)) key ≡ Some state
unfolding Keeps
kept_behind law w evs e key state h kept =
    let past = world w evs in
    let r = outcome w past e in
    subst (λ l. kept_state (client_opening w) l key ≡ Some state) (sym (client_list_with w past r))
    (kept_with law w (client_at w evs) (client_by w (steps past) (step_in r)) key state (keeps w past e (is_loss e) refl h) kept)
