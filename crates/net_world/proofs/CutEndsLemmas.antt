-- A server of a world loses its power within a save.
use Rattle.std.proofs.Common.{◌≡◌, refl, sym, ◌∙◌, ap, ℕ, ◌<◌, Bool, true, false, List, [], Option, Some, None, Ok, Err}
use Rattle.std.specs.Prelude.{if◌then◌else◌, is_some, slice_get}
use Rattle.std.specs.List.{flat_map}
use Rattle.std.specs.Option.{option_map}
use Rattle.std.proofs.lemmas.Bool.{false≢true}
use Rattle.fc_base.specs.declared.fault.Fault.{Fault}
use Rattle.fc_base.specs.declared.fault.Fault.TheVariants.{NoMemory, NodeOff, NodeOn, NoSave}
use Rattle.disk_model.specs.declared.save_outcome.SaveOutcome.{SaveOutcome}
use Rattle.disk_model.specs.SaveOutcome.{is_lost}
use Rattle.messages.specs.declared.frame.Frame.{Frame}
use Rattle.messages.specs.declared.frame.Frame.TheVariants.{Whole, Piece}
use Rattle.messages.specs.declared.packet.PacketParts.{PacketParts}
use Rattle.messages.specs.declared.body.Body.{Body}
use Rattle.messages.specs.declared.node.Node.TheVariants as nodes
use Rattle.messages.specs.declared.refusal.Act.TheVariants as acts
use Rattle.messages.specs.Pieces.{frames_of}
use Rattle.messages.specs.Hearing.{Meaning, Says, Waits, Spoils, Strays, meaning, heard_by, frames_by}
use Rattle.messages.specs.Senses.{sense_of, heard_or}
use Rattle.server_core.specs.Inputs.{PacketInput}
use Rattle.server_core.specs.declared.input.Input.TheVariants as inputs
use Rattle.server_core.specs.History as server
use Rattle.server_core.specs.History.{Opening}
use Rattle.server_core.specs.Request.{request_of}
use Rattle.server_core.specs.Replies.{replies}
use Rattle.server_core.specs.Words as words
use Rattle.server_core.specs.Answers as answers
use Rattle.server_core.specs.Answers.{to_client, sent_by}
use Rattle.server_core.specs.Hearing as hearing
use Rattle.server_core.specs.Hearing.{FrameEntry, rules, heard_at, packets_heard}
use Rattle.server_core.specs.FrameAnswers as framed
use Rattle.server_core.specs.FrameAnswers.{would_save}
use Rattle.net_world.specs.ServerNodes.{ServerNode}
use Rattle.net_world.specs.declared.world.World.{World}
use Rattle.net_world.specs.Setup.{Setup}
use Rattle.net_world.specs.Happenings.{Deliver, Restart, CutIn}
use Rattle.net_world.specs.Trace.{Step, AtServer, opening_of, of_server}
use Rattle.net_world.specs.Frames.{frames_sent}
use Rattle.net_world.specs.Changes.{Change, Met, steps, trace}
use Rattle.net_world.specs.Barred.{unless_on, unless_off, unless_sent}
use Rattle.net_world.specs.Outcomes.{lost_by, outcome_of_step, said_to_server, server_frame_cut, frame_cut, delivery_cut_in, cut_in}
use Rattle.net_world.specs.World.{act, act_of}
use Rattle.net_world.specs.ServerNodes as servers
use Rattle.server_core.specs.Words.{has_boot}
use Rattle.net_world.specs.ServerNodes.{server_nodes}
use Rattle.net_world.specs.Nodes.{CutsIn}
use Rattle.net_world.specs.Stands.{StandsFor}
use Rattle.net_world.specs.Ends.{Ends}
use Rattle.net_world.specs.Serving.{entries, step_of}
use Rattle.net_world.proofs.MetLemmas.{HasMoved, server_kept}
use Rattle.net_world.proofs.ServeLemmas.{heard_is, frames_are, is_off, is_there}
use Rattle.net_world.proofs.EndsLemmas.{GoesTo, goes, stops, refuses, some_save, no_save}
use Rattle.net_world.proofs.OutcomeLemmas.{said_is}
use Rattle.net_world.proofs.PlainLemmas.{IsPlain, boot_is, may_restart, runs_on}

lost : (landed : Bool) → is_lost (lost_by landed) ≡ true
lost true = refl
lost false = refl

-- ---- nothing is sent, and nothing is asked for

lost_sends : (me : ℕ) (b : Bool) (x : Option Fault) (bodies : List Body) → b ≡ true → flat_map frames_of (to_client me (sent_by b x bodies)) ≡ []
lost_sends me b None bodies h = ap (λ t. flat_map frames_of (to_client me (if t then [] else bodies))) h
lost_sends me b (Some fault) bodies h = refl

event_silent : (o : Opening) (list : List server.Entry) (e : PacketInput) (left : SaveOutcome) → is_lost left ≡ true
    → frames_by (answers.packets o) list (Some (server.Met e left)) ≡ []
event_silent o list e left h = lost_sends o.me (is_lost left) (answers.refusal o list e) (replies (answers.now o list) (request_of o.me e)) h

meaning_silent : (o : Opening) (list : List server.Entry) (m : Meaning) (left : SaveOutcome) → is_lost left ≡ true
    → frames_by (answers.packets o) list (heard_by (rules o) left m) ≡ []
meaning_silent o list (Says p) left h = event_silent o list (inputs.Deliver p) left h
meaning_silent o list Waits left h = refl
meaning_silent o list Spoils left h = refl
meaning_silent o list Strays left h = refl

silent : (o : Opening) (past : List FrameEntry) (f : Frame) (left : SaveOutcome) → is_lost left ≡ true
    → framed.frames o past (hearing.Met (inputs.Deliver f) left) ≡ []
silent o past f left h = meaning_silent o (packets_heard o past) (meaning (rules o) (heard_at o past) f) left h

asks_nothing : (t : List Step) (s : ℕ) (e : PacketInput) (left : SaveOutcome) → is_lost left ≡ true → act_of t (Some (AtServer s (server.Met e left))) ≡ acts.None
asks_nothing t s e left h = ap (λ b. if b then acts.None else answers.act (opening_of s) (of_server s t) e) h

-- ---- a frame

says_cut : (t : List Step) (s : ℕ) (landed : Bool) (f : Frame) (p : PacketParts) (list : List server.Entry) → list ≡ of_server s t
    → is_some (words.due (opening_of s) list (inputs.Deliver p)) ≡ true
    → server_frame_cut t s landed f (Says p) ≡ Ok (step_of s (hearing.Met (inputs.Deliver f) (lost_by landed)))
says_cut t s landed f p list is h =
    some_save (words.due (opening_of s) (of_server s t) (inputs.Deliver p)) (step_of s (hearing.Met (inputs.Deliver f) (lost_by landed)))
    (ap (λ l. is_some (words.due (opening_of s) l (inputs.Deliver p))) (sym is) ∙ h)

says_none : (t : List Step) (s : ℕ) (landed : Bool) (f : Frame) (p : PacketParts) (list : List server.Entry) → list ≡ of_server s t
    → is_some (words.due (opening_of s) list (inputs.Deliver p)) ≡ false
    → server_frame_cut t s landed f (Says p) ≡ Err NoSave
says_none t s landed f p list is h =
    no_save (words.due (opening_of s) (of_server s t) (inputs.Deliver p)) (step_of s (hearing.Met (inputs.Deliver f) (lost_by landed)))
    (ap (λ l. is_some (words.due (opening_of s) l (inputs.Deliver p))) (sym is) ∙ h)

meaning_cut : (t : List Step) (s : ℕ) (landed : Bool) (f : Frame) (list : List server.Entry) → list ≡ of_server s t → (m : Meaning)
    → is_some (heard_or None (words.due (opening_of s) list) (sense_of inputs.Deliver m)) ≡ true
    → server_frame_cut t s landed f m ≡ Ok (step_of s (hearing.Met (inputs.Deliver f) (lost_by landed)))
meaning_cut t s landed f list is (Says p) h = says_cut t s landed f p list is h
meaning_cut t s landed f list is Waits h = absurd (false≢true h)
meaning_cut t s landed f list is Spoils h = absurd (false≢true h)
meaning_cut t s landed f list is Strays h = absurd (false≢true h)

meaning_none : (t : List Step) (s : ℕ) (landed : Bool) (f : Frame) (list : List server.Entry) → list ≡ of_server s t → (m : Meaning)
    → is_some (heard_or None (words.due (opening_of s) list) (sense_of inputs.Deliver m)) ≡ false
    → server_frame_cut t s landed f m ≡ Err NoSave
meaning_none t s landed f list is (Says p) h = says_none t s landed f p list is h
meaning_none t s landed f list is Waits h = refl
meaning_none t s landed f list is Spoils h = refl
meaning_none t s landed f list is Strays h = refl

frame_is_cut : (w : Setup) (past : List Change) (s : ℕ) (landed : Bool) (f : Frame) → would_save (opening_of s) (entries past s) f ≡ true
    → server_frame_cut (trace w past) s landed f (said_to_server (steps past) s f) ≡ Ok (step_of s (hearing.Met (inputs.Deliver f) (lost_by landed)))
frame_is_cut w past s landed f h =
    ap (server_frame_cut (trace w past) s landed f) (sym (said_is w s past f))
    ∙ meaning_cut (trace w past) s landed f (packets_heard (opening_of s) (entries past s)) (heard_is w past s)
    (meaning (rules (opening_of s)) (heard_at (opening_of s) (entries past s)) f) h

frame_not_cut : (w : Setup) (past : List Change) (s : ℕ) (landed : Bool) (f : Frame) → would_save (opening_of s) (entries past s) f ≡ false
    → server_frame_cut (trace w past) s landed f (said_to_server (steps past) s f) ≡ Err NoSave
frame_not_cut w past s landed f h =
    ap (server_frame_cut (trace w past) s landed f) (sym (said_is w s past f))
    ∙ meaning_none (trace w past) s landed f (packets_heard (opening_of s) (entries past s)) (heard_is w past s)
    (meaning (rules (opening_of s)) (heard_at (opening_of s) (entries past s)) f) h

pub cut_bar : (w : Setup) (past : List Change) (number : ℕ) (landed : Bool) (f : Frame) (s : ℕ) → GoesTo w past number f (nodes.Server s)
    → unless_sent w (trace w past) (slice_get (frames_sent w (steps past)) number) ≡ unless_on w (trace w past) (nodes.Server s)
cut_bar w past number landed f s g = ap (unless_sent w (trace w past)) g.is_sent ∙ ap (unless_on w (trace w past)) g.goes_to

cut_brings : (w : Setup) (past : List Change) (number : ℕ) (landed : Bool) (f : Frame) (s : ℕ) → GoesTo w past number f (nodes.Server s)
    → cut_in w past landed (Deliver number) ≡ server_frame_cut (trace w past) s landed f (said_to_server (steps past) s f)
cut_brings w past number landed f s g = ap (delivery_cut_in w past landed) g.is_sent ∙ ap (λ node. frame_cut w past landed node f) g.goes_to

act_silent : (w : Setup) (past : List Change) (s : ℕ) (f : Frame) (left : SaveOutcome) → is_lost left ≡ true
    → act w past (Met (step_of s (hearing.Met (inputs.Deliver f) left))) ≡ acts.None
act_silent w past s (Whole p) left h = asks_nothing (trace w past) s (inputs.Deliver p) left h
act_silent w past s (Piece q) left h =
    ap (λ m. act_of (trace w past) (option_map (AtServer s) (heard_by (rules (opening_of s)) left m))) (sym (said_is w s past (Piece q)))
    ∙ by_meaning (meaning (rules (opening_of s)) (heard_at (opening_of s) (entries past s)) (Piece q))
  where
    by_meaning : (m : Meaning) → act_of (trace w past) (option_map (AtServer s) (heard_by (rules (opening_of s)) left m)) ≡ acts.None
    by_meaning (Says p) = asks_nothing (trace w past) s (inputs.Deliver p) left h
    by_meaning Waits = refl
    by_meaning Spoils = refl
    by_meaning Strays = refl

pub frame_cut_plain : (w : Setup) (past : List Change) (number : ℕ) (landed : Bool) (f : Frame) (s : ℕ) → GoesTo w past number f (nodes.Server s)
    → unless_on w (trace w past) (nodes.Server s) ≡ None → would_save (opening_of s) (entries past s) f ≡ true
    → IsPlain w past (CutIn landed (Deliver number)) (step_of s (hearing.Met (inputs.Deliver f) (lost_by landed)))
frame_cut_plain w past number landed f s g on h = record {
  comes = goes w past (CutIn landed (Deliver number)) (cut_bar w past number landed f s g ∙ on)
      ∙ ap outcome_of_step (cut_brings w past number landed f s g ∙ frame_is_cut w past s landed f h);
  answered = refl;
  silent = sym (frames_are w past s (hearing.Met (inputs.Deliver f) (lost_by landed)))
      ∙ silent (opening_of s) (entries past s) f (lost_by landed) (lost landed);
  asks = act_silent w past s f (lost_by landed) (lost landed);
}

-- How a cut within the save of a frame ends in a world, where it isn't made.
pub frame_cut_ends : (w : Setup) (past : List Change) (number : ℕ) (landed : Bool) (f : Frame) (s : ℕ) (node : ServerNode) (fault : Fault) (old new : World)
    → StandsFor w past old → HasMoved s node [] old new → s < w.servers → GoesTo w past number f (nodes.Server s)
    → CutsIn (server_nodes (opening_of s)) (entries past s) landed (inputs.Deliver f) node (Err fault)
    → Ends w past (CutIn landed (Deliver number)) new (Err fault)
frame_cut_ends w past number landed f s node NodeOff old new stands moved l g h =
    refuses w past (CutIn landed (Deliver number)) NodeOff new refl
    (stops w past (CutIn landed (Deliver number)) NodeOff (cut_bar w past number landed f s g ∙ is_off w past s l h.0))
    (server_kept w past s node old new stands moved h.1)
frame_cut_ends w past number landed f s node NoSave old new stands moved l g h =
    refuses w past (CutIn landed (Deliver number)) NoSave new refl
    (goes w past (CutIn landed (Deliver number)) (cut_bar w past number landed f s g ∙ is_there w past s l h.0)
    ∙ ap outcome_of_step (cut_brings w past number landed f s g ∙ frame_not_cut w past s landed f h.1))
    (server_kept w past s node old new stands moved h.2)
frame_cut_ends w past number landed f s node NoMemory old new stands moved l g h = (refl, server_kept w past s node old new stands moved h.1)
frame_cut_ends w past number landed f s node _ old new stands moved l g h = absurd h

-- ---- a restart

pub restart_cut_plain : (w : Setup) (past : List Change) (s : ℕ) (landed : Bool) → unless_off w (trace w past) (nodes.Server s) ≡ None
    → has_boot (opening_of s) (packets_heard (opening_of s) (entries past s)) ≡ true
    → IsPlain w past (CutIn landed (Restart (nodes.Server s))) (step_of s (hearing.Restart (lost_by landed)))
restart_cut_plain w past s landed h b = record {
  comes = goes w past (CutIn landed (Restart (nodes.Server s))) h
      ∙ ap (λ x. outcome_of_step (if x then Ok (step_of s (hearing.Restart (lost_by landed))) else Err NoSave)) (sym (boot_is w past s) ∙ b);
  answered = refl;
  silent = sym (frames_are w past s (hearing.Restart (lost_by landed)));
  asks = refl;
}

pub restart_cut_ends : (w : Setup) (past : List Change) (s : ℕ) (landed : Bool) (node : ServerNode) (fault : Fault) (old new : World) → StandsFor w past old
    → HasMoved s node [] old new → s < w.servers
    → servers.CutsInRestart (opening_of s) (entries past s) landed node (Err fault) → Ends w past (CutIn landed (Restart (nodes.Server s))) new (Err fault)
restart_cut_ends w past s landed node NodeOn old new stands moved l h =
    refuses w past (CutIn landed (Restart (nodes.Server s))) NodeOn new refl
    (stops w past (CutIn landed (Restart (nodes.Server s))) NodeOn (runs_on w past s l h.0)) (server_kept w past s node old new stands moved h.1)
restart_cut_ends w past s landed node NoSave old new stands moved l h =
    refuses w past (CutIn landed (Restart (nodes.Server s))) NoSave new refl
    (goes w past (CutIn landed (Restart (nodes.Server s))) (may_restart w past s l h.0)
    ∙ ap (λ x. outcome_of_step (if x then Ok (step_of s (hearing.Restart (lost_by landed))) else Err NoSave)) (sym (boot_is w past s) ∙ h.1))
    (server_kept w past s node old new stands moved h.2)
restart_cut_ends w past s landed node NoMemory old new stands moved l h = (refl, server_kept w past s node old new stands moved h.1)
restart_cut_ends w past s landed node _ old new stands moved l h = let wrong = h.3 in absurd cc
