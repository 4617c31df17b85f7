-- What an event of a history adds to the list of the client.
use Rattle.std.proofs.Common.{◌≡◌, refl, ◌∙◌, ap, subst, inl, inr, ℕ, Bool, true, false}
use Rattle.std.proofs.Common.{◌&&◌, ◌||◌, List, [], ◌++◌, Option, Some, None}
use Rattle.std.specs.Prelude.{Contains, not, is_none, if◌then◌else◌, slice_get}
use Rattle.std.specs.Option.{option_map}
use Rattle.std.specs.List.{flat_map}
use Rattle.fc_base.specs.declared.fault.Fault.{Fault}
use Rattle.fc_base.specs.declared.fault.Fault.TheVariants.{Down, Misdirected}
use Rattle.fc_base.specs.Faults.{when}
use Rattle.disk_model.specs.declared.save_outcome.SaveOutcome.{SaveOutcome}
use Rattle.disk_model.specs.declared.save_outcome.SaveOutcome.TheVariants as lefts
use Rattle.disk_model.specs.SaveOutcome.{is_lost}
use Rattle.messages.specs.declared.frame.Frame.{Frame}
use Rattle.messages.specs.declared.frame.Frame.TheVariants.{Whole, Piece}
use Rattle.messages.specs.declared.node.Node.{Node}
use Rattle.messages.specs.declared.node.Node.TheVariants.{Server, Client, Mirror}
use Rattle.messages.specs.declared.packet.PacketParts.{PacketParts}
use Rattle.messages.specs.FrameBytes.{frame_at}
use Rattle.messages.specs.Hearing.{Meaning, Strays, said_by, frames_by}
use Rattle.messages.specs.Senses.{sense_of, refusal_of_sense, Sense, Hears, Keeps, Drops, Misses}
use Rattle.messages.proofs.SenseLemmas.{entry_by, entry_is}
use Rattle.messages.specs.Assemblies.{look_at_piece}
use Rattle.messages.specs.Kinds.{is_of_server}
use Rattle.messages.specs.Nodes.{is_client}
use Rattle.messages.specs.Pieces.{frames_of}
use Rattle.client_core.specs.Inputs.{PacketInput, FrameInput}
use Rattle.client_core.specs.Inputs as inputs
use Rattle.client_core.specs.History as history
use Rattle.client_core.specs.History.{Opening}
use Rattle.client_core.specs.Life.{life}
use Rattle.client_core.specs.Packets.{packets, packets_for}
use Rattle.client_core.specs.Refusals.{is_for_client, is_from_server, is_from_mirror, is_server_of, faults_of_body}
use Rattle.client_core.specs.declared.peers.Peers.{Peers}
use Rattle.client_core.specs.Saves.{Addition, is_answer}
use Rattle.client_core.specs.Words as words
use Rattle.client_core.specs.Words.{is_on, words_noted}
use Rattle.client_core.specs.Hearing.{FrameEntry, Met, Cut, Restart, Renew, Lose, coming_of, heard_at, packets_heard, rules as hearing, arrival}
use Rattle.client_core.specs.FrameAnswers as answers
use Rattle.client_core.specs.FrameEnds.{words_of}
use Rattle.cells.specs.declared.input.NodeInput.{NodeInput}
use Rattle.cells.specs.declared.input.NodeInput.TheVariants as came
use Rattle.cells.specs.declared.client_cell.request.ClientRequest.TheVariants as requests
use Rattle.cells.specs.Rules.{Ask, Meets, Cuts, Restarts, Nothing}
use Rattle.cells.specs.CoreRules.{left_by}
use Rattle.cells.specs.ClientRules.{ask_of, ask_of_frame, core}
use Rattle.net_world.specs.Setup.{without_mirror}
use Rattle.net_world.specs.Frames.{FrameStep, OfClient, MayHappen, is_allowed, to_of}
use Rattle.assembly.specs.Marks.{frame_of}
use Rattle.assembly.proofs.RefusalLemmas.{CameOf, MayPass, no_pass}
use Rattle.assembly.proofs.AddLemmas.{IsLost, Known, Quiet, lost_met, lost_of, strays}

-- ---- a frame that isn't refused is for the client

to_client : (to : Node) → is_client to ≡ true → to ≡ Client
to_client (Server s) h = cc
to_client Client h = refl
to_client Mirror h = cc

both_true : (a b : Bool) → (a && b) ≡ true → a ≡ true
both_true true b h = refl
both_true false b h = cc

for_client : (peers : Peers) (p : PacketParts) → is_for_client peers p ≡ true → is_client p.to ≡ true
unfolding is_for_client
for_client peers p h = both_true (is_client p.to) (is_from_server peers.servers p || is_from_mirror peers.mirror p) h

whole_to : (on good : Bool) (others : List Fault) → MayPass (slice_get (when (not on) Down ++ (when (not good) Misdirected ++ others)) 0) → good ≡ true
whole_to true true others h = refl
whole_to true false others h = absurd (no_pass Misdirected refl h)
whole_to false good others h = absurd (no_pass Down refl h)

piece_to : (o : Opening) (past : List history.Entry) (on a b : Bool) (m : Meaning)
    → MayPass (refusal_of_sense (hearing o) past (sense_of inputs.Deliver (if on && (a && b) then m else Strays))) → a ≡ true
piece_to o past true true b m h = refl
piece_to o past true false b m h = absurd (strays (is_on past) Misdirected Down refl refl h)
piece_to o past false a b m h = absurd (strays (is_on past) Misdirected Down refl refl h)

to_me : (o : Opening) (past : List FrameEntry) (f : Frame) → MayPass (answers.refusal o past (inputs.Deliver f)) → to_of f ≡ Client
to_me o past (Whole p) h =
    to_client p.to (for_client (words.peers o (packets_heard o past)) p
    (whole_to (is_on (packets_heard o past)) (is_for_client (words.peers o (packets_heard o past)) p)
    (faults_of_body (words_noted o (packets_heard o past)) p.body) h))
to_me o past (Piece q) h =
    to_client q.to (piece_to o (packets_heard o past) (is_on (packets_heard o past)) (is_client q.to)
    (is_server_of o.servers q.from && is_of_server q.tag.whole) (said_by (look_at_piece (heard_at o past).rows q)) h)

-- ---- what is refused, or whose save failed, sends nothing

no_answer : (x : Option Addition) (left : SaveOutcome) → is_lost left ≡ true → is_answer x left ≡ false
no_answer None lefts.NoSave h = cc
no_answer None lefts.Saved h = cc
no_answer None lefts.LostNew h = refl
no_answer None lefts.LostOld h = refl
no_answer (Some addition) lefts.NoSave h = cc
no_answer (Some addition) lefts.Saved h = cc
no_answer (Some addition) lefts.LostNew h = refl
no_answer (Some addition) lefts.LostOld h = refl

unanswered : (x : Option Fault) (y : Option Addition) (left : SaveOutcome) → Quiet (is_lost left) x → (is_none x && is_answer y left) ≡ false
unanswered (Some fault) y left h = refl
unanswered None y left (inl h) = no_answer y left h
unanswered None y left (inr h) = cc

call_quiet : (o : Opening) (list : List history.Entry) (c : PacketInput) (left : SaveOutcome) → Quiet (is_lost left) (words.refusal o list c)
    → frames_by (packets o) list (Some (history.Met c left)) ≡ []
call_quiet o list c left h =
    ap (λ b. flat_map frames_of (if b then packets_for (words.peers o list) (words_noted o list) (life o list) c else []))
    (unanswered (words.refusal o list c) (words.due o list c) left h)

sense_quiet : (o : Opening) (list : List history.Entry) (left : SaveOutcome) (x : Sense PacketInput) → Quiet (is_lost left) (refusal_of_sense (hearing o) list x)
    → frames_by (packets o) list (entry_by (hearing o) left x) ≡ []
sense_quiet o list left (Hears c) h = call_quiet o list c left h
sense_quiet o list left Keeps h = refl
sense_quiet o list left Drops h = refl
sense_quiet o list left Misses h = refl

quiet : (o : Opening) (past : List FrameEntry) (e : FrameInput) (left : SaveOutcome) → Quiet (is_lost left) (answers.refusal o past e)
    → answers.frames o past (Met e left) ≡ []
quiet o past e left h =
    ap (frames_by (packets o) (packets_heard o past)) (entry_is (hearing o) (heard_at o past) (arrival e) left)
    ∙ sense_quiet o (packets_heard o past) left (answers.sense o past e) h

-- ---- the entry of an event

-- The entry is of what was asked, where it is a frame, and that is for the client; and it has no mirror.
pub IsAsked : Ask FrameInput → FrameEntry → Type 0
IsAsked ask (Met (inputs.Deliver f) left) = (ask ≡ Meets (inputs.Deliver f)) × (to_of f ≡ Client)
IsAsked ask (Met (inputs.Begin text) left) = Unit {0}
IsAsked ask (Met (inputs.Trigger run act) left) = Unit {0}
IsAsked ask (Met (inputs.Stop run) left) = Unit {0}
IsAsked ask (Met (inputs.Verify run text) left) = Unit {0}
IsAsked ask (Met inputs.Tick left) = Unit {0}
IsAsked ask Cut = Unit {0}
IsAsked ask (Restart mirror) = mirror ≡ false
IsAsked ask (Renew g left) = ⊥
IsAsked ask Lose = ⊥

met_asked : (o : Opening) (past : List FrameEntry) (e : FrameInput) (left : SaveOutcome) → MayPass (answers.refusal o past e) → IsAsked (Meets e) (Met e left)
unfolding IsAsked
met_asked o past (inputs.Deliver f) left h = (refl, to_me o past f h)
met_asked o past (inputs.Begin text) left h = tt
met_asked o past (inputs.Trigger run act) left h = tt
met_asked o past (inputs.Stop run) left h = tt
met_asked o past (inputs.Verify run text) left h = tt
met_asked o past inputs.Tick left h = tt

lost_save : (o : Opening) (past : List FrameEntry) (e : FrameInput) (landed : Bool) (entry : FrameEntry) → answers.refusal o past e ≡ None
    → option_map (λ due. Met e (left_by landed)) (answers.due o past e) ≡ Some entry → IsLost (core o) IsAsked past (Meets e) entry
lost_save o past e landed entry free is =
    lost_met past e (Met e (left_by landed)) entry (answers.due o past e)
    (record {
      silent = quiet o past e (left_by landed) (inl (lost_of landed));
      is_asked = met_asked o past e (left_by landed) (inl free);
    }) is

lost_start : (o : Opening) (past : List FrameEntry) (landed : Bool) (entry : FrameEntry) → (core o).unstarted (left_by landed) ≡ Some entry
    → IsLost (core o) IsAsked past Restarts entry
lost_start o past landed entry is = cc

-- What is known of the entries of a client.
pub known : (o : Opening) → Known (words_of o) (core o) IsAsked
unfolding IsAsked
known o = record {
  answered = λ past e free. met_asked o past e _ (inl free);
  dropped = λ past e may. met_asked o past e lefts.NoSave may;
  refused = λ past e fault is. quiet o past e lefts.NoSave (inr (fault, is));
  unsaved = lost_save o;
  unstarted = lost_start o;
  cut = tt;
  started = refl;
  spent = λ past. inl refl;
}

-- ---- what it is in a trace

-- What is asked is of these frames.
IsOf : List Frame → Ask FrameInput → Type 0
IsOf frames (Meets (inputs.Deliver f)) = Contains frames f
IsOf frames (Meets (inputs.Begin text)) = Unit {0}
IsOf frames (Meets (inputs.Trigger run act)) = Unit {0}
IsOf frames (Meets (inputs.Stop run)) = Unit {0}
IsOf frames (Meets (inputs.Verify run text)) = Unit {0}
IsOf frames (Meets inputs.Tick) = Unit {0}
IsOf frames Cuts = Unit {0}
IsOf frames Restarts = Unit {0}
IsOf frames Nothing = Unit {0}

asked_frame : (frames : List Frame) (x : Option Frame) → ((f : Frame) → x ≡ Some f → Contains frames f) → IsOf frames (ask_of_frame x)
unfolding IsOf
asked_frame frames None h = tt
asked_frame frames (Some f) h = h f refl

asked_of : (frames : List Frame) (c : NodeInput) → CameOf frames (frame_of c) → IsOf frames (ask_of c)
unfolding IsOf
asked_of frames (came.Frame bytes) h = asked_frame frames (frame_at bytes) h
asked_of frames (came.Issue j) h = tt
asked_of frames (came.WriteDone ticket end) h = tt
asked_of frames (came.CheckDone boot a j report) h = tt
asked_of frames (came.Request (requests.Begin text)) h = tt
asked_of frames (came.Request (requests.Trigger run act)) h = tt
asked_of frames (came.Request (requests.Stop run)) h = tt
asked_of frames (came.Request (requests.Verify run text)) h = tt
asked_of frames came.Tick h = tt
asked_of frames came.Cut h = tt
asked_of frames came.Restart h = tt

happens : (frames : List Frame) (ask : Ask FrameInput) (e : FrameEntry) → IsOf frames ask → IsAsked ask e → MayHappen frames (OfClient (coming_of e))
unfolding IsOf IsAsked
happens frames ask (Met (inputs.Deliver f) left) h k = (subst (IsOf frames) k.0 h, k.1)
happens frames ask (Met (inputs.Begin text) left) h k = refl
happens frames ask (Met (inputs.Trigger run act) left) h k = refl
happens frames ask (Met (inputs.Stop run) left) h k = refl
happens frames ask (Met (inputs.Verify run text) left) h k = refl
happens frames ask (Met inputs.Tick left) h k = refl
happens frames ask Cut h k = refl
happens frames ask (Restart mirror) h k = refl
happens frames ask (Renew g left) h k = absurd k
happens frames ask Lose h k = absurd k

-- It may happen behind these frames.
pub client_happens : (frames : List Frame) (c : NodeInput) (e : FrameEntry) → CameOf frames (frame_of c) → IsAsked (ask_of c) e
    → MayHappen frames (OfClient (coming_of e))
client_happens frames c e h k = happens frames (ask_of c) e (asked_of frames c h) k

allowed : (n : ℕ) (t : List FrameStep) (ask : Ask FrameInput) (e : FrameEntry) → IsAsked ask e → is_allowed (without_mirror n) t (OfClient (coming_of e)) ≡ true
unfolding IsAsked
allowed n t ask (Met (inputs.Deliver f) left) k = refl
allowed n t ask (Met (inputs.Begin text) left) k = refl
allowed n t ask (Met (inputs.Trigger run act) left) k = refl
allowed n t ask (Met (inputs.Stop run) left) k = refl
allowed n t ask (Met (inputs.Verify run text) left) k = refl
allowed n t ask (Met inputs.Tick left) k = refl
allowed n t ask Cut k = refl
allowed n t ask (Restart mirror) k = ap not k
allowed n t ask (Renew g left) k = absurd k
allowed n t ask Lose k = absurd k

-- It is one without a mirror.
pub client_allowed : (n : ℕ) (t : List FrameStep) (c : NodeInput) (e : FrameEntry) → IsAsked (ask_of c) e
    → is_allowed (without_mirror n) t (OfClient (coming_of e)) ≡ true
client_allowed n t c e k = allowed n t (ask_of c) e k
