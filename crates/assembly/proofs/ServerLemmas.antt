-- What an event of a history adds to the list of a server.
use Rattle.std.proofs.Common.{◌≡◌, refl, ◌∙◌, ap, subst, inl, inr, ℕ, ◌<◌, Bool, true}
use Rattle.std.proofs.Common.{false, ◌&&◌, List, [], Option, Some, None}
use Rattle.std.specs.Prelude.{Contains, IsTrue, if◌then◌else◌}
use Rattle.std.specs.Option.{option_map}
use Rattle.std.specs.List.{flat_map}
use Rattle.std.proofs.lemmas.Bool.{eqb-true}
use Rattle.std.proofs.lemmas.Option.{same_Some}
use Rattle.fc_base.specs.declared.fault.Fault.{Fault}
use Rattle.fc_base.specs.declared.fault.Fault.TheVariants.{Down, Misdirected, NumbersSpent}
use Rattle.fc_base.specs.declared.report.ReportParts.{ReportParts}
use Rattle.fc_base.specs.Report.{is_report}
use Rattle.disk_model.specs.declared.save_outcome.SaveOutcome.{SaveOutcome}
use Rattle.disk_model.specs.declared.save_outcome.SaveOutcome.TheVariants as lefts
use Rattle.disk_model.specs.SaveOutcome.{is_lost}
use Rattle.messages.specs.declared.body.Body.{Body}
use Rattle.messages.specs.declared.frame.Frame.{Frame}
use Rattle.messages.specs.declared.frame.Frame.TheVariants.{Whole, Piece}
use Rattle.messages.specs.declared.node.Node.{Node}
use Rattle.messages.specs.declared.node.Node.TheVariants.{Server, Client, Mirror}
use Rattle.messages.specs.FrameBytes.{frame_at}
use Rattle.messages.specs.Hearing.{Meaning, Strays, said_by, frames_by}
use Rattle.messages.specs.Senses.{sense_of, refusal_of_sense, Sense, Hears, Keeps, Drops, Misses}
use Rattle.messages.proofs.SenseLemmas.{entry_by, entry_is}
use Rattle.messages.specs.Assemblies.{look_at_piece}
use Rattle.messages.specs.Kinds.{is_of_client}
use Rattle.messages.specs.Nodes.{is_client, is_server}
use Rattle.messages.specs.Pieces.{frames_of}
use Rattle.server_core.specs.Inputs.{PacketInput, FrameInput}
use Rattle.server_core.specs.declared.input.Input.TheVariants as inputs
use Rattle.server_core.specs.History as history
use Rattle.server_core.specs.History.{Opening}
use Rattle.server_core.specs.Answers as words
use Rattle.server_core.specs.Answers.{refusal_of, sent_by, to_client}
use Rattle.server_core.specs.Request.{ToNobody, request_in}
use Rattle.server_core.specs.Request as requests
use Rattle.server_core.specs.Replies.{Now, replies}
use Rattle.server_core.specs.Words.{is_on, has_boot}
use Rattle.server_core.specs.Hearing.{FrameEntry, Met, Cut, Restart, coming_of, heard_at, packets_heard, rules as hearing, arrival}
use Rattle.server_core.specs.FrameAnswers as answers
use Rattle.server_core.specs.FrameEnds.{words_of}
use Rattle.cells.specs.declared.input.NodeInput.{NodeInput}
use Rattle.cells.specs.declared.input.NodeInput.TheVariants as came
use Rattle.cells.specs.Rules.{Ask, Meets, Cuts, Restarts, Nothing}
use Rattle.cells.specs.CoreRules.{left_by}
use Rattle.cells.specs.ServerRules.{ask_of, ask_of_frame, ask_of_report, core}
use Rattle.net_world.specs.Frames.{OfServer, MayHappen, to_of}
use Rattle.net_world.specs.InRange.{FrameStepFits}
use Rattle.assembly.specs.Marks.{frame_of}
use Rattle.assembly.proofs.RefusalLemmas.{CameOf, MayNot, MayPass, no_pass}
use Rattle.assembly.proofs.AddLemmas.{IsLost, Known, Quiet, lost_met, lost_of, strays}

-- ---- a frame that isn't refused is for the server

to_server : (me : ℕ) (to : Node) → is_server me to ≡ true → to ≡ Server me
to_server me (Server s) h = ap (λ i. Server i) (eqb-true s me h)
to_server me Client h = cc
to_server me Mirror h = cc

whole_to : (now : Now) (on a b : Bool) (body : Body) → MayPass (if on then refusal_of now (if a && b then request_in body else ToNobody) else Some Down)
    → b ≡ true
whole_to now true true true body h = refl
whole_to now true true false body h = absurd (no_pass Misdirected refl h)
whole_to now true false b body h = absurd (no_pass Misdirected refl h)
whole_to now false a b body h = absurd (no_pass Down refl h)

piece_to : (o : Opening) (past : List history.Entry) (on a b c : Bool) (m : Meaning)
    → MayPass (refusal_of_sense (hearing o) past (sense_of inputs.Deliver (if on && (a && (b && c)) then m else Strays))) → b ≡ true
piece_to o past true true true c m h = refl
piece_to o past true true false c m h = absurd (strays (is_on past) Misdirected Down refl refl h)
piece_to o past true false b c m h = absurd (strays (is_on past) Misdirected Down refl refl h)
piece_to o past false a b c m h = absurd (strays (is_on past) Misdirected Down refl refl h)

to_me : (o : Opening) (past : List FrameEntry) (f : Frame) → MayPass (answers.refusal o past (inputs.Deliver f)) → to_of f ≡ Server o.me
to_me o past (Whole p) h =
    to_server o.me p.to (whole_to (words.now o (packets_heard o past)) (is_on (packets_heard o past)) (is_client p.from) (is_server o.me p.to) p.body h)
to_me o past (Piece q) h =
    to_server o.me q.to (piece_to o (packets_heard o past) (is_on (packets_heard o past)) (is_client q.from) (is_server o.me q.to) (is_of_client q.tag.whole)
    (said_by (look_at_piece (heard_at o past).rows q)) h)

-- ---- what is refused, or whose save failed, sends nothing

none_sent : (me : ℕ) (gone : Bool) (x : Option Fault) (bodies : List Body) → Quiet gone x → flat_map frames_of (to_client me (sent_by gone x bodies)) ≡ []
none_sent me gone (Some fault) bodies h = refl
none_sent me gone None bodies (inl h) = ap (λ b. flat_map frames_of (to_client me (if b then [] else bodies))) h
none_sent me gone None bodies (inr h) = cc

event_quiet : (o : Opening) (list : List history.Entry) (e : PacketInput) (left : SaveOutcome) → Quiet (is_lost left) (words.refusal o list e)
    → frames_by (words.packets o) list (Some (history.Met e left)) ≡ []
event_quiet o list e left h = none_sent o.me (is_lost left) (words.refusal o list e) (replies (words.now o list) (requests.request_of o.me e)) h

sense_quiet : (o : Opening) (list : List history.Entry) (left : SaveOutcome) (x : Sense PacketInput) → Quiet (is_lost left) (refusal_of_sense (hearing o) list x)
    → frames_by (words.packets o) list (entry_by (hearing o) left x) ≡ []
sense_quiet o list left (Hears e) h = event_quiet o list e left h
sense_quiet o list left Keeps h = refl
sense_quiet o list left Drops h = refl
sense_quiet o list left Misses h = refl

quiet : (o : Opening) (past : List FrameEntry) (e : FrameInput) (left : SaveOutcome) → Quiet (is_lost left) (answers.refusal o past e)
    → answers.frames o past (Met e left) ≡ []
quiet o past e left h =
    ap (frames_by (words.packets o) (packets_heard o past)) (entry_is (hearing o) (heard_at o past) (arrival e) left)
    ∙ sense_quiet o (packets_heard o past) left (answers.sense o past e) h

-- ---- the entry of an event

-- The entry is of what was asked: a frame that is for the server, or the report of a check.
pub IsAsked : Opening → Ask FrameInput → FrameEntry → Type 0
IsAsked o ask (Met (inputs.Deliver f) left) = (ask ≡ Meets (inputs.Deliver f)) × (to_of f ≡ Server o.me)
IsAsked o ask (Met (inputs.Issue j) left) = Unit {0}
IsAsked o ask (Met (inputs.WriteDone ticket end) left) = Unit {0}
IsAsked o ask (Met (inputs.CheckDone boot a j report) left) = ask ≡ Meets (inputs.CheckDone boot a j report)
IsAsked o ask Cut = Unit {0}
IsAsked o ask (Restart left) = Unit {0}

met_asked : (o : Opening) (past : List FrameEntry) (e : FrameInput) (left : SaveOutcome) → MayPass (answers.refusal o past e) → IsAsked o (Meets e) (Met e left)
unfolding IsAsked
met_asked o past (inputs.Deliver f) left h = (refl, to_me o past f h)
met_asked o past (inputs.Issue j) left h = tt
met_asked o past (inputs.WriteDone ticket end) left h = tt
met_asked o past (inputs.CheckDone boot a j report) left h = refl

lost_save : (o : Opening) (past : List FrameEntry) (e : FrameInput) (landed : Bool) (entry : FrameEntry) → answers.refusal o past e ≡ None
    → option_map (λ due. Met e (left_by landed)) (answers.due o past e) ≡ Some entry → IsLost (core o) (IsAsked o) past (Meets e) entry
lost_save o past e landed entry free is =
    lost_met past e (Met e (left_by landed)) entry (answers.due o past e)
    (record {
      silent = quiet o past e (left_by landed) (inl (lost_of landed));
      is_asked = met_asked o past e (left_by landed) (inl free);
    }) is

lost_start : (o : Opening) (past : List FrameEntry) (landed : Bool) (entry : FrameEntry) → (core o).unstarted (left_by landed) ≡ Some entry
    → IsLost (core o) (IsAsked o) past Restarts entry
unfolding IsAsked
lost_start o past landed entry is =
    subst (IsLost (core o) (IsAsked o) past Restarts) (same_Some (Restart (left_by landed)) entry is) (record { silent = refl; is_asked = tt })

no_drop : (boots : Bool) → MayNot (if boots then None else Some NumbersSpent)
no_drop true = inl refl
no_drop false = inr (NumbersSpent, refl, refl)

-- What is known of the entries of a server.
pub known : (o : Opening) → Known (words_of o) (core o) (IsAsked o)
unfolding IsAsked
known o = record {
  answered = λ past e free. met_asked o past e _ (inl free);
  dropped = λ past e may. met_asked o past e lefts.NoSave may;
  refused = λ past e fault is. quiet o past e lefts.NoSave (inr (fault, is));
  unsaved = lost_save o;
  unstarted = lost_start o;
  cut = tt;
  started = tt;
  spent = λ past. no_drop (has_boot o (packets_heard o past));
}

-- ---- what it is in a trace

-- What is asked is of these frames, and within its ranges.
IsOf : List Frame → Ask FrameInput → Type 0
IsOf frames (Meets (inputs.Deliver f)) = Contains frames f
IsOf frames (Meets (inputs.Issue j)) = Unit {0}
IsOf frames (Meets (inputs.WriteDone ticket end)) = Unit {0}
IsOf frames (Meets (inputs.CheckDone boot a j report)) = IsTrue (is_report report)
IsOf frames Cuts = Unit {0}
IsOf frames Restarts = Unit {0}
IsOf frames Nothing = Unit {0}

asked_frame : (frames : List Frame) (x : Option Frame) → ((f : Frame) → x ≡ Some f → Contains frames f) → IsOf frames (ask_of_frame x)
unfolding IsOf
asked_frame frames None h = tt
asked_frame frames (Some f) h = h f refl

asked_report : (frames : List Frame) (boot a j : ℕ) (report : ReportParts) (b : Bool) → is_report report ≡ b
    → IsOf frames (ask_of_report b (inputs.CheckDone boot a j report))
unfolding IsOf
asked_report frames boot a j report true h = h
asked_report frames boot a j report false h = tt

asked_of : (frames : List Frame) (c : NodeInput) → CameOf frames (frame_of c) → IsOf frames (ask_of c)
unfolding IsOf
asked_of frames (came.Frame bytes) h = asked_frame frames (frame_at bytes) h
asked_of frames (came.Issue j) h = tt
asked_of frames (came.WriteDone ticket end) h = tt
asked_of frames (came.CheckDone boot a j report) h = asked_report frames boot a j report.value (is_report report.value) refl
asked_of frames (came.Request request) h = tt
asked_of frames came.Tick h = tt
asked_of frames came.Cut h = tt
asked_of frames came.Restart h = tt

happens : (frames : List Frame) (s : ℕ) (ask : Ask FrameInput) (e : FrameEntry) (o : Opening) → o.me ≡ s → IsOf frames ask → IsAsked o ask e
    → MayHappen frames (OfServer s (coming_of e))
unfolding IsOf IsAsked
happens frames s ask (Met (inputs.Deliver f) left) o me h k = (subst (IsOf frames) k.0 h, k.1 ∙ ap (λ i. Server i) me)
happens frames s ask (Met (inputs.Issue j) left) o me h k = refl
happens frames s ask (Met (inputs.WriteDone ticket end) left) o me h k = refl
happens frames s ask (Met (inputs.CheckDone boot a j report) left) o me h k = refl
happens frames s ask Cut o me h k = refl
happens frames s ask (Restart left) o me h k = refl

fits : (frames : List Frame) (s : ℕ) (ask : Ask FrameInput) (e : FrameEntry) (o : Opening) → s < 8 → IsOf frames ask → IsAsked o ask e
    → FrameStepFits (OfServer s (coming_of e))
unfolding IsOf IsAsked
fits frames s ask (Met (inputs.Deliver f) left) o l h k = l
fits frames s ask (Met (inputs.Issue j) left) o l h k = (l, tt)
fits frames s ask (Met (inputs.WriteDone ticket end) left) o l h k = (l, tt)
fits frames s ask (Met (inputs.CheckDone boot a j report) left) o l h k = (l, subst (IsOf frames) k h)
fits frames s ask Cut o l h k = (l, tt)
fits frames s ask (Restart left) o l h k = (l, tt)

-- It may happen behind these frames, and is within its ranges.
pub server_happens : (frames : List Frame) (o : Opening) (c : NodeInput) (e : FrameEntry) → CameOf frames (frame_of c) → IsAsked o (ask_of c) e
    → MayHappen frames (OfServer o.me (coming_of e))
server_happens frames o c e h k = happens frames o.me (ask_of c) e o refl (asked_of frames c h) k

pub server_fits : (frames : List Frame) (o : Opening) (c : NodeInput) (e : FrameEntry) → o.me < 8 → CameOf frames (frame_of c) → IsAsked o (ask_of c) e
    → FrameStepFits (OfServer o.me (coming_of e))
server_fits frames o c e l h k = fits frames o.me (ask_of c) e o l (asked_of frames c h) k
