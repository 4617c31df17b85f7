-- Which number of a run or an attempt an event of the world gives.
use Rattle.std.proofs.Common.{◌≡◌, refl, ◌∙◌, ap, ℕ, ◌+◌, Bool, true, false, ◌&&◌, List, []}
use Rattle.std.proofs.Common.{Option, Some, None, Ok, Err}
use Rattle.std.specs.Prelude.{if◌then◌else◌, is_none, slice_get}
use Rattle.std.specs.List.{AllByRecursion}
use Rattle.fc_base.specs.declared.fault.Fault.{Fault}
use Rattle.fc_base.specs.declared.fault.Fault.TheVariants.{BadNote, NoSave}
use Rattle.disk_model.specs.declared.save_outcome.SaveOutcome.{SaveOutcome}
use Rattle.disk_model.specs.declared.save_outcome.SaveOutcome.TheVariants as lefts
use Rattle.disk_model.specs.SaveOutcome.{saved_for}
use Rattle.messages.specs.declared.frame.Frame.{Frame}
use Rattle.messages.specs.declared.node.Node.{Node}
use Rattle.messages.specs.declared.node.Node.TheVariants.{Server, Client, Mirror}
use Rattle.messages.specs.Hearing.{Comes, Happens, Meaning, Says, Waits, Spoils, Strays}
use Rattle.server_core.specs.declared.input.Input.TheVariants as server_inputs
use Rattle.server_core.specs.declared.input.WriteEnd.TheVariants as ends
use Rattle.server_core.specs.History as server
use Rattle.server_core.specs.Words as servers
use Rattle.client_core.specs.Inputs.{PacketInput}
use Rattle.client_core.specs.Inputs as client_inputs
use Rattle.client_core.specs.Saves.{Addition, is_answer}
use Rattle.client_core.specs.History.{Opening, Entry, Met, Renew}
use Rattle.client_core.specs.Words.{words_noted, refusal, due, is_answered}
use Rattle.client_core.specs.Note.{is_blank}
use Rattle.client_core.specs.Life.{Deed, deeds_of}
use Rattle.mirror_core.specs.History as mirror
use Rattle.mirror_core.specs.Words as mirrors
use Rattle.net_world.specs.Setup.{Setup}
use Rattle.net_world.specs.Happenings.{Happening, Begin, Trigger, StopRun, Verify, Tick, Deliver, Issue, Land, Done, Fail, Rot, Check, LoseNote, CutIn}
use Rattle.net_world.specs.Happenings as happenings
use Rattle.net_world.specs.Trace.{of_server, of_client, of_mirror, opening_of, client_opening, mirror_opening}
use Rattle.net_world.specs.Frames.{OfServer, OfClient, OfMirror, frames_sent, to_of}
use Rattle.net_world.specs.Changes as changes
use Rattle.net_world.specs.Changes.{Change, steps, trace}
use Rattle.net_world.specs.Writes.{open_at}
use Rattle.net_world.specs.Checks.{end_of_check}
use Rattle.net_world.specs.Barred.{barring_fault}
use Rattle.net_world.specs.Outcomes.{Outcome, Does, outcome_of_step, unless_fault, lost_by}
use Rattle.net_world.specs.Outcomes.{said_to_server, said_to_client}
use Rattle.net_world.specs.Outcomes.{noted_in, client_cut_in, server_frame_cut, client_frame_cut, frame_cut, delivery_cut_in, restart_cut_in}
use Rattle.net_world.specs.Outcomes.{cut_in, brings, unless_barred, outcome}
use Rattle.seen.specs.Texts.{text_with, asked_with}
use Rattle.seen.proofs.ClientLemmas.{deeds_by, IsPlain, IsCalm, Shows, ShowsRun, ShowsAttempt, ShowsNone, frame_calm, saves, one_of, calm_server, calm_call, calm_end, calm_check, calm_power, calm_restart, calm_delivery}

no_answer : (b : Bool) (x : Option Addition) (landed : Bool) → (b && is_answer x (lost_by landed)) ≡ false
no_answer false x landed = refl
no_answer true None true = refl
no_answer true None false = refl
no_answer true (Some a) true = refl
no_answer true (Some a) false = refl

plain_unless : (b : Bool) (xs : List Deed) → b ≡ false → AllByRecursion IsPlain (if b then xs else [])
plain_unless true xs h = absurd cc
plain_unless false xs h = tt

-- A call whose save is lost isn't answered, so it gives no number.
calm_loss : (w : Setup) (past : List Change) (landed : Bool) (c : PacketInput) → IsCalm w past (outcome_of_step (client_cut_in w (trace w past) landed c))
calm_loss w past landed c =
    let o = client_opening w in
    let list = of_client w (trace w past) in
    saves w past (due o list c) (OfClient (Happens (Met c (lost_by landed))))
    (plain_unless (is_answered o list c (lost_by landed)) (deeds_of (words_noted o list) c) (no_answer (is_none (refusal o list c)) (due o list c) landed))

calm_server_frame : (w : Setup) (past : List Change) (s : ℕ) (landed : Bool) (f : Frame) (m : Meaning)
    → IsCalm w past (outcome_of_step (server_frame_cut (trace w past) s landed f m))
calm_server_frame w past s landed f (Says p) =
    saves w past (servers.due (opening_of s) (of_server s (trace w past)) (server_inputs.Deliver p)) (OfServer s (Comes f (lost_by landed))) tt
calm_server_frame w past s landed f Waits = tt
calm_server_frame w past s landed f Spoils = tt
calm_server_frame w past s landed f Strays = tt

calm_client_frame : (w : Setup) (past : List Change) (landed : Bool) (f : Frame) (m : Meaning)
    → IsCalm w past (outcome_of_step (client_frame_cut w (trace w past) landed f m))
calm_client_frame w past landed f (Says p) =
    saves w past (due (client_opening w) (of_client w (trace w past)) (client_inputs.Deliver p)) (OfClient (Comes f (lost_by landed)))
    (frame_calm w past f (lost_by landed))
calm_client_frame w past landed f Waits = tt
calm_client_frame w past landed f Spoils = tt
calm_client_frame w past landed f Strays = tt

calm_frame_cut : (w : Setup) (past : List Change) (landed : Bool) (node : Node) (f : Frame) → IsCalm w past (outcome_of_step (frame_cut w past landed node f))
calm_frame_cut w past landed (Server s) f = calm_server_frame w past s landed f (said_to_server (steps past) s f)
calm_frame_cut w past landed Client f = calm_client_frame w past landed f (said_to_client w (steps past) f)
calm_frame_cut w past landed Mirror f =
    saves w past (mirrors.due mirror_opening (of_mirror (trace w past)) f) (OfMirror (mirror.Met f (lost_by landed))) tt

calm_delivery_cut : (w : Setup) (past : List Change) (landed : Bool) (x : Option Frame) → IsCalm w past (outcome_of_step (delivery_cut_in w past landed x))
calm_delivery_cut w past landed None = tt
calm_delivery_cut w past landed (Some f) = calm_frame_cut w past landed (to_of f) f

calm_restart_cut : (w : Setup) (past : List Change) (landed : Bool) (node : Node)
    → IsCalm w past (outcome_of_step (restart_cut_in (trace w past) landed node))
calm_restart_cut w past landed (Server s) =
    one_of w past (servers.has_boot (opening_of s) (of_server s (trace w past))) (OfServer s (Happens (server.Restart (lost_by landed)))) NoSave tt
calm_restart_cut w past landed Client = tt
calm_restart_cut w past landed Mirror = tt

calm_cut_in : (w : Setup) (past : List Change) (landed : Bool) (inner : Happening) → IsCalm w past (outcome_of_step (cut_in w past landed inner))
calm_cut_in w past landed (Begin text) = calm_loss w past landed (client_inputs.Begin text)
calm_cut_in w past landed (Verify run text) = calm_loss w past landed (client_inputs.Verify run text)
calm_cut_in w past landed (Deliver i) = calm_delivery_cut w past landed (slice_get (frames_sent w (steps past)) i)
calm_cut_in w past landed (happenings.Restart node) = calm_restart_cut w past landed node
calm_cut_in w past landed (happenings.Renew g) =
    one_of w past (is_blank (noted_in w (trace w past))) (OfClient (Happens (Renew g (lost_by landed)))) NoSave tt
calm_cut_in w past landed _ = tt

-- ---- what gives a number

saved_answers : (x : Option Addition) → is_answer x (saved_for x) ≡ true
saved_answers None = refl
saved_answers (Some a) = refl

answered_now : (o : Opening) (list : List Entry) (c : PacketInput) → refusal o list c ≡ None → is_answered o list c (saved_for (due o list c)) ≡ true
answered_now o list c h = ap (λ x. is_none x && is_answer (due o list c) (saved_for (due o list c))) h ∙ saved_answers (due o list c)

all_when : (b : Bool) (xs : List Deed) → b ≡ true → (if b then xs else []) ≡ xs
all_when true xs h = refl
all_when false xs h = absurd cc

-- What an answered call does.
call_does : (w : Setup) (past : List Change) (c : PacketInput) → refusal (client_opening w) (of_client w (trace w past)) c ≡ None
    → deeds_by w past (Does (changes.Met (OfClient (Happens (Met c (saved_for (due (client_opening w) (of_client w (trace w past)) c)))))))
    ≡ deeds_of (words_noted (client_opening w) (of_client w (trace w past))) c
call_does w past c h =
    let o = client_opening w in
    let list = of_client w (trace w past) in
    all_when (is_answered o list c (saved_for (due o list c))) (deeds_of (words_noted o list) c) (answered_now o list c h)

begins_if : (w : Setup) (past : List Change) (text : List ℕ) (x : Option Fault)
    → refusal (client_opening w) (of_client w (trace w past)) (client_inputs.Begin text) ≡ x → (left : SaveOutcome)
    → left ≡ saved_for (due (client_opening w) (of_client w (trace w past)) (client_inputs.Begin text))
    → Shows w past (Begin text) (outcome_of_step (unless_fault x (Ok (OfClient (Happens (Met (client_inputs.Begin text) left))))))
begins_if w past text None is left saved =
    let o = client_opening w in
    let list = of_client w (trace w past) in
    ShowsRun ((words_noted o list).runs + 1) text (λ m. refl) (λ m. refl)
    (ap (λ l. deeds_by w past (Does (changes.Met (OfClient (Happens (Met (client_inputs.Begin text) l)))))) saved ∙ call_does w past (client_inputs.Begin text) is)
begins_if w past text (Some fault) is left saved = ShowsNone (λ m. refl) (λ m. refl) tt

verifies_if : (w : Setup) (past : List Change) (run : ℕ) (text : List ℕ) (x : Option Fault)
    → refusal (client_opening w) (of_client w (trace w past)) (client_inputs.Verify run text) ≡ x → (left : SaveOutcome)
    → left ≡ saved_for (due (client_opening w) (of_client w (trace w past)) (client_inputs.Verify run text))
    → Shows w past (Verify run text) (outcome_of_step (unless_fault x (Ok (OfClient (Happens (Met (client_inputs.Verify run text) left))))))
verifies_if w past run text None is left saved =
    let o = client_opening w in
    let list = of_client w (trace w past) in
    ShowsAttempt run ((words_noted o list).attempts + 1) text (λ m. refl) (λ m. refl)
    (ap (λ l. deeds_by w past (Does (changes.Met (OfClient (Happens (Met (client_inputs.Verify run text) l)))))) saved
    ∙ call_does w past (client_inputs.Verify run text) is)
verifies_if w past run text (Some fault) is left saved = ShowsNone (λ m. refl) (λ m. refl) tt

-- ---- all of it

brings_so : (w : Setup) (past : List Change) (e : Happening) → Shows w past e (brings w past e)
brings_so w past (Begin text) = begins_if w past text (refusal (client_opening w) (of_client w (trace w past)) (client_inputs.Begin text)) refl _ refl
brings_so w past (Verify run text) = verifies_if w past run text (refusal (client_opening w) (of_client w (trace w past)) (client_inputs.Verify run text)) refl _ refl
brings_so w past (Trigger run act) = ShowsNone (λ m. refl) (λ m. refl) (calm_call w past (client_inputs.Trigger run act) (tt, tt))
brings_so w past (StopRun run) = ShowsNone (λ m. refl) (λ m. refl) (calm_call w past (client_inputs.Stop run) (tt, tt))
brings_so w past Tick = ShowsNone (λ m. refl) (λ m. refl) (calm_call w past client_inputs.Tick tt)
brings_so w past (Deliver i) = ShowsNone (λ m. refl) (λ m. refl) (calm_delivery w past (slice_get (frames_sent w (steps past)) i))
brings_so w past (Issue s j) = ShowsNone (λ m. refl) (λ m. refl) (calm_server w past s (server_inputs.Issue j))
brings_so w past (Land s j k mask) = ShowsNone (λ m. refl) (λ m. refl) tt
brings_so w past (Done s j k) = ShowsNone (λ m. refl) (λ m. refl) (calm_end w past s k ends.Done (open_at (trace w past) s j k))
brings_so w past (Fail s j k) = ShowsNone (λ m. refl) (λ m. refl) (calm_end w past s k ends.Failed (open_at (trace w past) s j k))
brings_so w past (Rot s j sector bytes) = ShowsNone (λ m. refl) (λ m. refl) tt
brings_so w past (Check s j) = ShowsNone (λ m. refl) (λ m. refl) (calm_check w past s (end_of_check w past s j))
brings_so w past (happenings.Cut node) = ShowsNone (λ m. refl) (λ m. refl) (calm_power w past node)
brings_so w past (happenings.Restart node) = ShowsNone (λ m. refl) (λ m. refl) (calm_restart w past node)
brings_so w past LoseNote = ShowsNone (λ m. refl) (λ m. refl) tt
brings_so w past (happenings.Renew g) =
    ShowsNone (λ m. refl) (λ m. refl)
    (one_of w past (is_blank (noted_in w (trace w past))) (OfClient (Happens (Renew g lefts.Saved))) BadNote tt)
brings_so w past (CutIn landed e) = ShowsNone (λ m. refl) (λ m. refl) (calm_cut_in w past landed e)

no_text : (m : ℕ) (e : Happening) (fault : Fault) → text_with m e (Err fault) ≡ None
no_text m (Begin text) fault = refl
no_text m _ fault = refl

not_asked : (m : ℕ) (e : Happening) (fault : Fault) → asked_with m e (Err fault) ≡ None
not_asked m (Verify run text) fault = refl
not_asked m _ fault = refl

unbarred : (w : Setup) (past : List Change) (e : Happening) (x : Option Fault) (r : Outcome) → Shows w past e r → Shows w past e (unless_barred x r)
unbarred w past e None r h = h
unbarred w past e (Some fault) r h = ShowsNone (λ m. no_text m e fault) (λ m. not_asked m e fault) tt

-- Each event shows the number that the client gives with it.
pub shows : (w : Setup) (past : List Change) (e : Happening) → Shows w past e (outcome w past e)
shows w past e = unbarred w past e (barring_fault w (trace w past) (frames_sent w (steps past)) e) (brings w past e) (brings_so w past e)
