-- What comes to a server with an event of a world.
use Rattle.std.proofs.Common.{◌≡◌, refl, sym, ◌∙◌, ap, subst, ℕ, Bool, true, false, ◌==◌, List, ◌∷◌, Option, Some, None, Result, Ok, Err}
use Rattle.std.specs.Prelude.{if◌then◌else◌, ◌&&◌, slice_get}
use Rattle.std.proofs.lemmas.Bool.{eqb-true}
use Rattle.fc_base.specs.declared.fault.Fault.{Fault}
use Rattle.fc_base.specs.declared.fault.Fault.TheVariants.{BadNote, NumbersSpent, NoSave}
use Rattle.fc_base.specs.declared.report.ReportParts.{ReportParts}
use Rattle.engine.specs.Running.{Origin}
use Rattle.engine.specs.Answers.{ticket_of}
use Rattle.disk_model.specs.declared.save_outcome.SaveOutcome.{SaveOutcome}
use Rattle.disk_model.specs.declared.save_outcome.SaveOutcome.TheVariants as lefts
use Rattle.disk_model.specs.SaveOutcome.{saved_for, is_lost}
use Rattle.messages.specs.declared.frame.Frame.{Frame}
use Rattle.messages.specs.declared.node.Node.{Node}
use Rattle.messages.specs.declared.node.Node.TheVariants.{Server, Client, Mirror}
use Rattle.messages.specs.declared.packet.PacketParts.{PacketParts}
use Rattle.messages.specs.Hearing.{Comes, Happens, Says, entry_of, with_entry, heard}
use Rattle.server_core.specs.Inputs.{PacketInput as ServerInput}
use Rattle.server_core.specs.declared.input.Input.TheVariants as inputs
use Rattle.server_core.specs.declared.input.WriteEnd.{WriteEnd}
use Rattle.server_core.specs.History as server
use Rattle.server_core.specs.History.{Entry}
use Rattle.server_core.specs.Words as words
use Rattle.server_core.specs.Words.{Staged, due}
use Rattle.server_core.specs.Answers.{refusal}
use Rattle.server_core.specs.Check.{Check, check}
use Rattle.client_core.specs.Inputs.{PacketInput as ClientInput}
use Rattle.client_core.specs.History as client
use Rattle.client_core.specs.Words as clients
use Rattle.client_core.specs.Note.{is_blank}
use Rattle.net_world.specs.Setup.{Setup}
use Rattle.net_world.specs.Happenings as happenings
use Rattle.net_world.specs.Happenings.{Happening, Deliver, Issue}
use Rattle.net_world.specs.Events.{happening_of_end}
use Rattle.net_world.specs.Trace.{of_server, opening_of, client_opening, of_client}
use Rattle.net_world.specs.Frames as frames
use Rattle.net_world.specs.Frames.{FrameStep, OfServer, OfClient, OfMirror, at_server, frames_sent, to_of, trace_heard}
use Rattle.net_world.specs.Changes.{Change, Met, Landed, Rotted, steps, trace}
use Rattle.net_world.specs.Writes.{open_at}
use Rattle.net_world.specs.Contents.{content}
use Rattle.net_world.specs.Checks.{report_for, check_end, end_of_check_in, end_of_check}
use Rattle.net_world.specs.Outcomes.{Outcome, Does, Refuses, Drops, outcome_of_step, unless_fault, where_saved, lost_by, met_by_server}
use Rattle.net_world.specs.Outcomes.{met_by_client, said_to_server}
use Rattle.net_world.specs.Outcomes.{end_of_write, end_of_check_met, cut, noted_in, restart_of}
use Rattle.net_world.specs.Outcomes.{restart_cut_in}
use Rattle.net_world.specs.World.{and_outcome}
use Rattle.net_world.proofs.HearingLemmas.{server_with, server_by_client}

-- The step that comes of something, if one does.
abbrev pub step_in : Outcome → Option FrameStep
step_in (Does (Met step)) = Some step
step_in (Does (Landed s j k mask)) = None
step_in (Does (Rotted s j sector bytes)) = None
step_in (Refuses fault) = None
step_in (Drops step) = Some step

-- What server s hears in a step behind these.
abbrev pub entry_in : ℕ → List FrameStep → FrameStep → Option Entry
entry_in s past (OfServer r c) = if r == s then entry_of (at_server r) (heard (at_server r) (frames.of_server r past)) c else None
entry_in s past (OfClient c) = None
entry_in s past (OfMirror e) = None

abbrev pub entry_by : ℕ → List FrameStep → Option FrameStep → Option Entry
entry_by s past None = None
entry_by s past (Some step) = entry_in s past step

-- ---- the list of a server

if_out : (b : Bool) (x : Option Entry) (list : List Entry) → (if b then with_entry x list else list) ≡ with_entry (if b then x else None) list
if_out true x list = refl
if_out false x list = refl

step_with : (w : Setup) (s : ℕ) (ps : List FrameStep) (step : FrameStep)
    → of_server s (trace_heard w (step ∷ ps)) ≡ with_entry (entry_in s ps step) (of_server s (trace_heard w ps))
step_with w s ps (OfServer r c) =
    let x = entry_of (at_server r) (heard (at_server r) (frames.of_server r ps)) c in
    server_with s r x (trace_heard w ps) ∙ if_out (r == s) x (of_server s (trace_heard w ps))
step_with w s ps (OfClient c) = server_by_client s (entry_of (frames.at_client w) (heard (frames.at_client w) (frames.of_client w ps)) c) (trace_heard w ps)
step_with w s ps (OfMirror e) = refl

-- With one more outcome it has what the server hears, if it hears anything.
pub list_with : (w : Setup) (s : ℕ) (past : List Change) (r : Outcome)
    → of_server s (trace w (and_outcome r past)) ≡ with_entry (entry_by s (steps past) (step_in r)) (of_server s (trace w past))
list_with w s past (Does (Met step)) = step_with w s (steps past) step
list_with w s past (Does (Landed t j k mask)) = refl
list_with w s past (Does (Rotted t j sector bytes)) = refl
list_with w s past (Refuses fault) = refl
list_with w s past (Drops step) = step_with w s (steps past) step

-- ---- which event brings what

-- What comes to server s with this event, of which this comes.
pub data Makes (w : Setup) (past : List Change) (s : ℕ) (e : Happening) (r : Outcome) (y : Entry) : Type 0 where
  ByFrame : (i : ℕ) (f : Frame) (p : PacketParts) (left : SaveOutcome) → e ≡ Deliver i → slice_get (frames_sent w (steps past)) i ≡ Some f → to_of f ≡ Server s
      → said_to_server (steps past) s f ≡ Says p → refusal (opening_of s) (of_server s (trace w past)) (inputs.Deliver p) ≡ None
      → left ≡ saved_for (due (opening_of s) (of_server s (trace w past)) (inputs.Deliver p)) → y ≡ server.Met (inputs.Deliver p) left
      → r ≡ Does (Met (OfServer s (Comes f left))) → Makes w past s e r y
  ByLoss : (x : ServerInput) (left : SaveOutcome) → y ≡ server.Met x left → is_lost left ≡ true → (d : Staged)
      → due (opening_of s) (of_server s (trace w past)) x ≡ Some d → Makes w past s e r y
  ByWorker : (j : ℕ) (left : SaveOutcome) → e ≡ Issue s j → left ≡ saved_for (due (opening_of s) (of_server s (trace w past)) (inputs.Issue j))
      → y ≡ server.Met (inputs.Issue j) left → (c : Change) → r ≡ Does c → Makes w past s e r y
  ByEnd : (end : WriteEnd) (j k : ℕ) (origin : Origin) (left : SaveOutcome) → e ≡ happening_of_end end s j k → open_at (trace w past) s j k ≡ Some origin
      → refusal (opening_of s) (of_server s (trace w past)) (inputs.WriteDone (ticket_of origin k) end) ≡ None
      → left ≡ saved_for (due (opening_of s) (of_server s (trace w past)) (inputs.WriteDone (ticket_of origin k) end))
      → y ≡ server.Met (inputs.WriteDone (ticket_of origin k) end) left → (c : Change) → r ≡ Does c → Makes w past s e r y
  ByCheck : (boot a j : ℕ) (report : ReportParts) (left : SaveOutcome) → e ≡ happenings.Check s j → end_of_check w past s j ≡ Some (inputs.CheckDone boot a j report)
      → left ≡ saved_for (due (opening_of s) (of_server s (trace w past)) (inputs.CheckDone boot a j report))
      → y ≡ server.Met (inputs.CheckDone boot a j report) left → (c : Change) → r ≡ Does c → Makes w past s e r y
  ByCut : y ≡ server.Cut → Makes w past s e r y
  ByRestart : (left : SaveOutcome) → y ≡ server.Restart left → Makes w past s e r y

-- What a server hears of this is made so.
unfoldable pub Adds : Setup → List Change → ℕ → Happening → Outcome → Type 0
Adds w past s e r = (y : Entry) → entry_by s (steps past) (step_in r) ≡ Some y → Makes w past s e r y

pub adds_none : (w : Setup) (past : List Change) (s : ℕ) (e : Happening) (r : Outcome) → entry_by s (steps past) (step_in r) ≡ None → Adds w past s e r
unfolding Adds
adds_none w past s e r n y h = let no : None ≡ Some y = sym n ∙ h in absurd cc

-- ---- what servers don't hear

not_client : (s : ℕ) (ps : List FrameStep) (x : Result FrameStep Fault) → ((step : FrameStep) → x ≡ Ok step → entry_in s ps step ≡ None)
    → entry_by s ps (step_in (outcome_of_step x)) ≡ None
not_client s ps (Ok step) h = h step refl
not_client s ps (Err fault) h = refl

pub free : (s : ℕ) (ps : List FrameStep) (x : Option Fault) (step : FrameStep) → entry_in s ps step ≡ None
    → entry_by s ps (step_in (outcome_of_step (unless_fault x (Ok step)))) ≡ None
free s ps None step h = h
free s ps (Some fault) step h = refl

pub saves : {X : Type 0} (s : ℕ) (ps : List FrameStep) (x : Option X) (step : FrameStep) → entry_in s ps step ≡ None
    → entry_by s ps (step_in (outcome_of_step (where_saved x step))) ≡ None
saves s ps None step h = refl
saves s ps (Some x) step h = h

one_of : (s : ℕ) (ps : List FrameStep) (b : Bool) (step : FrameStep) (fault : Fault) → entry_in s ps step ≡ None
    → entry_by s ps (step_in (outcome_of_step (if b then Ok step else Err fault))) ≡ None
one_of s ps true step fault h = h
one_of s ps false step fault h = refl

other_of : (s : ℕ) (ps : List FrameStep) (b : Bool) (step : FrameStep) (fault : Fault) → entry_in s ps step ≡ None
    → entry_by s ps (step_in (outcome_of_step (if b then Err fault else Ok step))) ≡ None
other_of s ps true step fault h = refl
other_of s ps false step fault h = h

pub by_client : (w : Setup) (past : List Change) (s : ℕ) (e : Happening) (c : ClientInput) → Adds w past s e (outcome_of_step (met_by_client w (trace w past) c))
by_client w past s e c =
    adds_none w past s e _ (free s (steps past) (clients.refusal (client_opening w) (of_client w (trace w past)) c)
    (OfClient (Happens (client.Met c (saved_for (clients.due (client_opening w) (of_client w (trace w past)) c))))) refl)

-- ---- what a server meets

pub here : (r s : ℕ) (b : Bool) → (b ≡ true → r ≡ s) → (x : Option Entry) (y : Entry) → (if b then x else None) ≡ Some y → (r ≡ s) × (x ≡ Some y)
here r s true is x y h = (is refl, h)
here r s false is x y h = absurd cc

pub same_entry : (x y : Entry) → Some x ≡ Some y → x ≡ y
same_entry x y h = cc

pub met : (s r : ℕ) (ps : List FrameStep) (x : Option Fault) (e y : Entry)
    → entry_by s ps (step_in (outcome_of_step (unless_fault x (Ok (OfServer r (Happens e)))))) ≡ Some y
    → (r ≡ s) × (x ≡ None) × (e ≡ y) × (outcome_of_step (unless_fault x (Ok (OfServer r (Happens e)))) ≡ Does (Met (OfServer r (Happens e))))
met s r ps None e y h = let k = here r s (r == s) (eqb-true r s) (Some e) y h in (k.0, refl, same_entry e y k.1, refl)
met s r ps (Some fault) e y h = absurd cc

pub by_worker : (w : Setup) (past : List Change) (s r j : ℕ) → Adds w past s (Issue r j) (outcome_of_step (met_by_server (trace w past) r (inputs.Issue j)))
unfolding Adds
by_worker w past s r j y h =
    let o = opening_of r in
    let list = of_server r (trace w past) in
    let left = saved_for (due o list (inputs.Issue j)) in
    let k = met s r (steps past) (refusal o list (inputs.Issue j)) (server.Met (inputs.Issue j) left) y h in
    subst (λ n. Makes w past n (Issue r j) (outcome_of_step (met_by_server (trace w past) r (inputs.Issue j))) y) k.0
    (ByWorker j left refl refl (sym k.2) (Met (OfServer r (Happens (server.Met (inputs.Issue j) left)))) k.3)

pub by_end : (w : Setup) (past : List Change) (s r j k : ℕ) (end : WriteEnd) (x : Option Origin) → open_at (trace w past) r j k ≡ x
    → Adds w past s (happening_of_end end r j k) (outcome_of_step (end_of_write (trace w past) r k end x))
unfolding Adds
by_end w past s r j k end None is y h = absurd cc
by_end w past s r j k end (Some origin) is y h =
    let o = opening_of r in
    let list = of_server r (trace w past) in
    let x = inputs.WriteDone (ticket_of origin k) end in
    let left = saved_for (due o list x) in
    let m = met s r (steps past) (refusal o list x) (server.Met x left) y h in
    subst (λ n. Makes w past n (happening_of_end end r j k) (outcome_of_step (met_by_server (trace w past) r x)) y) m.0
    (ByEnd end j k origin left refl is m.1 refl (sym m.2) (Met (OfServer r (Happens (server.Met x left)))) m.3)

by_report : (w : Setup) (past : List Change) (s r : ℕ) (c : Check) (j : ℕ) (x : Option ReportParts) → end_of_check w past r j ≡ check_end c j x
    → Adds w past s (happenings.Check r j) (outcome_of_step (end_of_check_met (trace w past) r (check_end c j x)))
unfolding Adds
by_report w past s r c j None is y h = absurd cc
by_report w past s r c j (Some report) is y h =
    let o = opening_of r in
    let list = of_server r (trace w past) in
    let x = inputs.CheckDone c.boot c.attempt j report in
    let left = saved_for (due o list x) in
    let m = met s r (steps past) (refusal o list x) (server.Met x left) y h in
    subst (λ n. Makes w past n (happenings.Check r j) (outcome_of_step (met_by_server (trace w past) r x)) y) m.0
    (ByCheck c.boot c.attempt j report left refl is refl (sym m.2) (Met (OfServer r (Happens (server.Met x left)))) m.3)

pub by_check : (w : Setup) (past : List Change) (s r j : ℕ) (x : Option Check) → check (opening_of r) (of_server r (trace w past)) ≡ x
    → Adds w past s (happenings.Check r j) (outcome_of_step (end_of_check_met (trace w past) r (end_of_check_in x j (content w past r j))))
unfolding Adds
by_check w past s r j None is y h = absurd cc
by_check w past s r j (Some c) is y h =
    by_report w past s r c j (report_for c j (slice_get c.jobs j) (content w past r j)) (ap (λ z. end_of_check_in z j (content w past r j)) is) y h

-- ---- power

powered : (w : Setup) (past : List Change) (s r : ℕ) (e : Happening) (entry : Entry) (o : Outcome) → o ≡ Does (Met (OfServer r (Happens entry)))
    → ((y : Entry) → entry ≡ y → Makes w past s e o y) → Adds w past s e o
unfolding Adds
powered w past s r e entry o is f y h =
    let g : (if r == s then Some entry else None) ≡ Some y = subst (λ (x : Outcome). entry_by s (steps past) (step_in x) ≡ Some y) is h in
    f y (same_entry entry y (here r s (r == s) (eqb-true r s) (Some entry) y g).1)

pub by_cut : (w : Setup) (past : List Change) (s : ℕ) (e : Happening) (node : Node) → Adds w past s e (outcome_of_step (cut node))
by_cut w past s e (Server r) = powered w past s r e server.Cut _ refl (λ y k. ByCut (sym k))
by_cut w past s e Client = adds_none w past s e _ refl
by_cut w past s e Mirror = adds_none w past s e _ refl

restarted : (w : Setup) (past : List Change) (s r : ℕ) (e : Happening) (b : Bool) (left : SaveOutcome) (fault : Fault)
    → Adds w past s e (outcome_of_step (if b then Ok (OfServer r (Happens (server.Restart left))) else Err fault))
restarted w past s r e true left fault = powered w past s r e (server.Restart left) _ refl (λ y k. ByRestart left (sym k))
restarted w past s r e false left fault = adds_none w past s e _ refl

pub by_restart : (w : Setup) (past : List Change) (s : ℕ) (e : Happening) (node : Node) → Adds w past s e (outcome_of_step (restart_of w (trace w past) node))
by_restart w past s e (Server r) = restarted w past s r e (words.has_boot (opening_of r) (of_server r (trace w past))) lefts.Saved NumbersSpent
by_restart w past s e Client =
    adds_none w past s e _ (other_of s (steps past) (w.mirror && is_blank (noted_in w (trace w past))) (OfClient (Happens (client.Restart w.mirror))) BadNote refl)
by_restart w past s e Mirror = adds_none w past s e _ refl

pub by_restart_cut : (w : Setup) (past : List Change) (s : ℕ) (e : Happening) (landed : Bool) (node : Node)
    → Adds w past s e (outcome_of_step (restart_cut_in (trace w past) landed node))
by_restart_cut w past s e landed (Server r) = restarted w past s r e (words.has_boot (opening_of r) (of_server r (trace w past))) (lost_by landed) NoSave
by_restart_cut w past s e landed Client = adds_none w past s e _ refl
by_restart_cut w past s e landed Mirror = adds_none w past s e _ refl

pub by_renewal : (w : Setup) (past : List Change) (s g : ℕ) (e : Happening) (left : SaveOutcome) (fault : Fault)
    → Adds w past s e (outcome_of_step (if is_blank (noted_in w (trace w past)) then Ok (OfClient (Happens (client.Renew g left))) else Err fault))
by_renewal w past s g e left fault =
    adds_none w past s e _ (one_of s (steps past) (is_blank (noted_in w (trace w past))) (OfClient (Happens (client.Renew g left))) fault refl)
