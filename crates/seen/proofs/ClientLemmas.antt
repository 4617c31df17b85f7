-- What the client hears with an event of a world, and what it does by it.
use Rattle.std.proofs.Common.{◌≡◌, refl, ◌∙◌, ap, ℕ, Bool, true, false, ◌==◌, ◌&&◌, List, [], ◌∷◌, ◌++◌}
use Rattle.std.proofs.Common.{Option, Some, None, Ok, Err}
use Rattle.std.specs.Prelude.{if◌then◌else◌}
use Rattle.std.specs.List.{AllByRecursion}
use Rattle.fc_base.specs.declared.fault.Fault.{Fault}
use Rattle.fc_base.specs.declared.fault.Fault.TheVariants.{BadNote, NumbersSpent}
use Rattle.engine.specs.Running.{Origin}
use Rattle.engine.specs.Answers.{ticket_of}
use Rattle.disk_model.specs.declared.save_outcome.SaveOutcome.{SaveOutcome}
use Rattle.disk_model.specs.declared.save_outcome.SaveOutcome.TheVariants as lefts
use Rattle.disk_model.specs.SaveOutcome.{saved_for}
use Rattle.messages.specs.declared.frame.Frame.{Frame}
use Rattle.messages.specs.declared.node.Node.{Node}
use Rattle.messages.specs.declared.node.Node.TheVariants.{Server, Client, Mirror}
use Rattle.messages.specs.Hearing.{Comes, Happens, Meaning, Says, Waits, Spoils, Strays, heard_by, entry_of, with_entry, heard}
use Rattle.server_core.specs.Inputs.{PacketInput as ServerInput}
use Rattle.server_core.specs.declared.input.Input.TheVariants as server_inputs
use Rattle.server_core.specs.declared.input.WriteEnd.{WriteEnd}
use Rattle.server_core.specs.History as server
use Rattle.server_core.specs.Words as servers
use Rattle.server_core.specs.Answers as answering
use Rattle.server_core.specs.Sent.{PacketsGoToClient}
use Rattle.client_core.specs.Inputs.{PacketInput as ClientInput}
use Rattle.client_core.specs.Inputs as client_inputs
use Rattle.client_core.specs.History.{Opening, Entry, Met, Cut, Restart, Renew, Lose}
use Rattle.client_core.specs.Words.{words_noted, refusal, due, is_answered}
use Rattle.client_core.specs.Note.{is_blank}
use Rattle.client_core.specs.Life.{Deed, Begins, Verifies, deeds_of, deeds_done}
use Rattle.mirror_core.specs.History as mirror
use Rattle.mirror_core.specs.Words as mirrors
use Rattle.mirror_core.specs.Laws.{PacketsGoToTheClient}
use Rattle.net_world.specs.Setup.{Setup}
use Rattle.net_world.specs.Happenings.{Happening}
use Rattle.net_world.specs.Claims.{OfEachTrace}
use Rattle.net_world.specs.Trace.{of_server, of_client, of_mirror, opening_of, client_opening, mirror_opening}
use Rattle.net_world.specs.Frames as frames
use Rattle.net_world.specs.Frames.{FrameStep, OfServer, OfClient, OfMirror, at_server, at_client, to_of, trace_heard}
use Rattle.net_world.specs.Changes as changes
use Rattle.net_world.specs.Changes.{Change, Landed, Rotted, steps, trace}
use Rattle.net_world.specs.Outcomes.{Outcome, Does, Refuses, Drops, outcome_of_step, unless_fault, where_saved, met_by_server, met_by_client}
use Rattle.net_world.specs.Outcomes.{comes_to_server, comes_to_client, said_to_server, said_to_client, comes_to, delivery, end_of_write, end_of_check_met, cut}
use Rattle.net_world.specs.Outcomes.{noted_in, restart_of}
use Rattle.net_world.specs.Outcomes.{outcome}
use Rattle.net_world.specs.World.{and_outcome, world, told_by}
use Rattle.net_world.specs.WorldLaws.{EachWorldIsATrace}
use Rattle.net_world.specs.Headline.{RunsAreGivenOnce, AttemptsAreGivenOnce}
use Rattle.net_world.proofs.HearingLemmas.{client_with, client_by_server}
use Rattle.seen.specs.Texts.{text_with, asked_with}
use Rattle.seen.proofs.EntryLemmas.{step_in}

-- The laws on which this rests.
pub record TextLaws : Type 0 where
  pub traces : EachWorldIsATrace
  pub goes : PacketsGoToClient
  pub over : PacketsGoToTheClient
  pub runs : OfEachTrace RunsAreGivenOnce
  pub attempts : OfEachTrace AttemptsAreGivenOnce

-- ---- the list of the client

-- What the client hears in a step behind these.
abbrev pub client_in : Setup → List FrameStep → FrameStep → Option Entry
client_in w past (OfServer s c) = None
client_in w past (OfClient c) = entry_of (at_client w) (heard (at_client w) (frames.of_client w past)) c
client_in w past (OfMirror e) = None

-- What it hears in a step, if there is one.
abbrev pub client_by : Setup → List FrameStep → Option FrameStep → Option Entry
client_by w past None = None
client_by w past (Some step) = client_in w past step

client_step : (w : Setup) (ps : List FrameStep) (step : FrameStep)
    → of_client w (trace_heard w (step ∷ ps)) ≡ with_entry (client_in w ps step) (of_client w (trace_heard w ps))
client_step w ps (OfServer s c) = client_by_server w s (entry_of (at_server s) (heard (at_server s) (frames.of_server s ps)) c) (trace_heard w ps)
client_step w ps (OfClient c) = client_with w (entry_of (at_client w) (heard (at_client w) (frames.of_client w ps)) c) (trace_heard w ps)
client_step w ps (OfMirror e) = refl

-- With one more outcome the client's list has what it hears, if it hears anything.
pub client_list_with : (w : Setup) (past : List Change) (r : Outcome)
    → of_client w (trace w (and_outcome r past)) ≡ with_entry (client_by w (steps past) (step_in r)) (of_client w (trace w past))
client_list_with w past (Does (changes.Met step)) = client_step w (steps past) step
client_list_with w past (Does (Landed s j k mask)) = refl
client_list_with w past (Does (Rotted s j sector bytes)) = refl
client_list_with w past (Refuses fault) = refl
client_list_with w past (Drops step) = client_step w (steps past) step

-- The list of the client in a world.
abbrev pub client_at : Setup → List Happening → List Entry
client_at w evs = of_client w (trace w (world w evs))

-- ---- what it does

-- What the client does with what it hears.
abbrev pub new_deeds : Opening → List Entry → Option Entry → List Deed
new_deeds o past None = []
new_deeds o past (Some (Met c left)) = if is_answered o past c left then deeds_of (words_noted o past) c else []
new_deeds o past (Some Cut) = []
new_deeds o past (Some (Restart mirror)) = []
new_deeds o past (Some (Renew g left)) = []
new_deeds o past (Some Lose) = []

first_if : (b : Bool) (xs ys : List Deed) → (if b then xs ++ ys else ys) ≡ (if b then xs else []) ++ ys
first_if true xs ys = refl
first_if false xs ys = refl

deeds_with : (o : Opening) (past : List Entry) (x : Option Entry) → deeds_done o (with_entry x past) ≡ new_deeds o past x ++ deeds_done o past
deeds_with o past None = refl
deeds_with o past (Some (Met c left)) = first_if (is_answered o past c left) (deeds_of (words_noted o past) c) (deeds_done o past)
deeds_with o past (Some Cut) = refl
deeds_with o past (Some (Restart mirror)) = refl
deeds_with o past (Some (Renew g left)) = refl
deeds_with o past (Some Lose) = refl

-- What the client does with an outcome.
abbrev pub deeds_by : Setup → List Change → Outcome → List Deed
deeds_by w past r = new_deeds (client_opening w) (of_client w (trace w past)) (client_by w (steps past) (step_in r))

-- What it has ever done in a world.
abbrev pub all_done : Setup → List Happening → List Deed
all_done w evs = deeds_done (client_opening w) (client_at w evs)

pub all_with : (w : Setup) (evs : List Happening) (e : Happening)
    → all_done w (e ∷ evs) ≡ deeds_by w (world w evs) (outcome w (world w evs) e) ++ all_done w evs
all_with w evs e =
    let r = outcome w (world w evs) e in
    ap (deeds_done (client_opening w)) (client_list_with w (world w evs) r)
    ∙ deeds_with (client_opening w) (client_at w evs) (client_by w (steps (world w evs)) (step_in r))

-- ---- which event does what

-- The deed gives no number.
abbrev pub IsPlain : Deed → Type 0
IsPlain (Begins run text) = ⊥
IsPlain (Verifies run attempt text) = ⊥
IsPlain _ = Unit {0}

-- The outcome gives no number.
abbrev pub IsCalm : Setup → List Change → Outcome → Type 0
IsCalm w past r = AllByRecursion IsPlain (deeds_by w past r)

-- How an event shows the numbers that the client gives with it: that of a run, with the job file; that of an
-- attempt, with the run and the job file; or none.
pub data Shows (w : Setup) (past : List Change) (e : Happening) (r : Outcome) : Type 0 where
  ShowsRun : (n : ℕ) (text : List ℕ) → ((m : ℕ) → text_with m e (told_by w past e r) ≡ (if n == m then Some text else None))
      → ((m : ℕ) → asked_with m e (told_by w past e r) ≡ None) → deeds_by w past r ≡ Begins n text ∷ [] → Shows w past e r
  ShowsAttempt : (run n : ℕ) (text : List ℕ) → ((m : ℕ) → text_with m e (told_by w past e r) ≡ None)
      → ((m : ℕ) → asked_with m e (told_by w past e r) ≡ (if n == m then Some (record { run = run; text = text }) else None))
      → deeds_by w past r ≡ Verifies run n text ∷ [] → Shows w past e r
  ShowsNone : ((m : ℕ) → text_with m e (told_by w past e r) ≡ None) → ((m : ℕ) → asked_with m e (told_by w past e r) ≡ None) → IsCalm w past r
      → Shows w past e r

-- ---- what gives no number

plain_when : (b : Bool) (xs : List Deed) → AllByRecursion IsPlain xs → AllByRecursion IsPlain (if b then xs else [])
plain_when true xs a = a
plain_when false xs a = tt

-- What a frame says gives none.
said_calm : (w : Setup) (list : List Entry) (left : SaveOutcome) (m : Meaning)
    → AllByRecursion IsPlain (new_deeds (client_opening w) list (heard_by (at_client w) left m))
said_calm w list left (Says p) =
    let o = client_opening w in
    plain_when (is_answered o list (client_inputs.Deliver p) left) (deeds_of (words_noted o list) (client_inputs.Deliver p)) (tt, tt)
said_calm w list left Waits = tt
said_calm w list left Spoils = tt
said_calm w list left Strays = tt

-- The step gives no number.
abbrev pub StepIsCalm : Setup → List Change → FrameStep → Type 0
StepIsCalm w past step = AllByRecursion IsPlain (new_deeds (client_opening w) (of_client w (trace w past)) (client_in w (steps past) step))

pub frame_calm : (w : Setup) (past : List Change) (f : Frame) (left : SaveOutcome) → StepIsCalm w past (OfClient (Comes f left))
frame_calm w past f left = said_calm w (of_client w (trace w past)) left (said_to_client w (steps past) f)

free : (w : Setup) (past : List Change) (x : Option Fault) (step : FrameStep) → StepIsCalm w past step
    → IsCalm w past (outcome_of_step (unless_fault x (Ok step)))
free w past None step h = h
free w past (Some fault) step h = tt

pub saves : {X : Type 0} (w : Setup) (past : List Change) (x : Option X) (step : FrameStep) → StepIsCalm w past step
    → IsCalm w past (outcome_of_step (where_saved x step))
saves w past None step h = tt
saves w past (Some x) step h = h

pub one_of : (w : Setup) (past : List Change) (b : Bool) (step : FrameStep) (fault : Fault) → StepIsCalm w past step
    → IsCalm w past (outcome_of_step (if b then Ok step else Err fault))
one_of w past true step fault h = h
one_of w past false step fault h = tt

other_of : (w : Setup) (past : List Change) (b : Bool) (step : FrameStep) (fault : Fault) → StepIsCalm w past step
    → IsCalm w past (outcome_of_step (if b then Err fault else Ok step))
other_of w past true step fault h = tt
other_of w past false step fault h = h

pub calm_server : (w : Setup) (past : List Change) (s : ℕ) (x : ServerInput) → IsCalm w past (outcome_of_step (met_by_server (trace w past) s x))
calm_server w past s x =
    let o = opening_of s in
    let list = of_server s (trace w past) in
    free w past (answering.refusal o list x) (OfServer s (Happens (server.Met x (saved_for (servers.due o list x))))) tt

-- A call that gives none.
pub calm_call : (w : Setup) (past : List Change) (c : ClientInput) → AllByRecursion IsPlain (deeds_of (words_noted (client_opening w) (of_client w (trace w past))) c)
    → IsCalm w past (outcome_of_step (met_by_client w (trace w past) c))
calm_call w past c h =
    let o = client_opening w in
    let list = of_client w (trace w past) in
    free w past (refusal o list c) (OfClient (Happens (Met c (saved_for (due o list c)))))
    (plain_when (is_answered o list c (saved_for (due o list c))) (deeds_of (words_noted o list) c) h)

pub calm_end : (w : Setup) (past : List Change) (s k : ℕ) (end : WriteEnd) (x : Option Origin)
    → IsCalm w past (outcome_of_step (end_of_write (trace w past) s k end x))
calm_end w past s k end None = tt
calm_end w past s k end (Some origin) = calm_server w past s (server_inputs.WriteDone (ticket_of origin k) end)

pub calm_check : (w : Setup) (past : List Change) (s : ℕ) (x : Option ServerInput) → IsCalm w past (outcome_of_step (end_of_check_met (trace w past) s x))
calm_check w past s None = tt
calm_check w past s (Some x) = calm_server w past s x

pub calm_power : (w : Setup) (past : List Change) (node : Node) → IsCalm w past (outcome_of_step (cut node))
calm_power w past (Server s) = tt
calm_power w past Client = tt
calm_power w past Mirror = tt

pub calm_restart : (w : Setup) (past : List Change) (node : Node) → IsCalm w past (outcome_of_step (restart_of w (trace w past) node))
calm_restart w past (Server s) =
    one_of w past (servers.has_boot (opening_of s) (of_server s (trace w past))) (OfServer s (Happens (server.Restart lefts.Saved))) NumbersSpent tt
calm_restart w past Client = other_of w past (w.mirror && is_blank (noted_in w (trace w past))) (OfClient (Happens (Restart w.mirror))) BadNote tt
calm_restart w past Mirror = tt

-- ---- frames

calm_at_server : (w : Setup) (past : List Change) (s : ℕ) (f : Frame) (m : Meaning) → IsCalm w past (comes_to_server (trace w past) s f m)
calm_at_server w past s f (Says p) =
    let o = opening_of s in
    let list = of_server s (trace w past) in
    free w past (answering.refusal o list (server_inputs.Deliver p)) (OfServer s (Comes f (saved_for (servers.due o list (server_inputs.Deliver p))))) tt
calm_at_server w past s f Waits = tt
calm_at_server w past s f Spoils = tt
calm_at_server w past s f Strays = tt

calm_at_client : (w : Setup) (past : List Change) (f : Frame) (m : Meaning) → IsCalm w past (comes_to_client w (trace w past) f m)
calm_at_client w past f (Says p) =
    let o = client_opening w in
    let list = of_client w (trace w past) in
    let left = saved_for (due o list (client_inputs.Deliver p)) in
    free w past (refusal o list (client_inputs.Deliver p)) (OfClient (Comes f left)) (frame_calm w past f left)
calm_at_client w past f Waits = frame_calm w past f lefts.NoSave
calm_at_client w past f Spoils = frame_calm w past f lefts.NoSave
calm_at_client w past f Strays = tt

calm_come : (w : Setup) (past : List Change) (node : Node) (f : Frame) → IsCalm w past (comes_to w past node f)
calm_come w past (Server s) f = calm_at_server w past s f (said_to_server (steps past) s f)
calm_come w past Client f = calm_at_client w past f (said_to_client w (steps past) f)
calm_come w past Mirror f =
    let list = of_mirror (trace w past) in
    free w past (mirrors.refusal mirror_opening list f) (OfMirror (mirror.Met f (saved_for (mirrors.due mirror_opening list f)))) tt

pub calm_delivery : (w : Setup) (past : List Change) (x : Option Frame) → IsCalm w past (delivery w past x)
calm_delivery w past None = tt
calm_delivery w past (Some f) = calm_come w past (to_of f) f
