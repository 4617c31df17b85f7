-- Only packets that were sent are heard.
use Rattle.std.proofs.Common.{◌≡◌, refl, sym, ◌∙◌, ap, subst, ◌⊎◌, inl, inr, ℕ, ◌<◌, Bool, true, false, ◌&&◌, ◌==◌, List, [], ◌∷◌, Option, None, Some}
use Rattle.std.specs.Prelude.{if◌then◌else◌, is_some, map, Contains}
use Rattle.std.specs.List.{AllByRecursion, flat_map}
use Rattle.std.specs.Option.{option_map}
use Rattle.std.proofs.lemmas.Bool.{eqb-true}
use Rattle.std.proofs.lemmas.List.Concat.{flat_map-cons}
use Rattle.std.proofs.lemmas.List.Elements.{Contains-append_cases, Contains-append_left}
use Rattle.fc_base.specs.declared.limits.TheConstants.{MAX_SERVERS}
use Rattle.messages.specs.declared.packet.PacketParts.{PacketParts}
use Rattle.messages.specs.declared.node.Node.{Node}
use Rattle.messages.specs.declared.node.Node.TheVariants.{Server, Client, Mirror}
use Rattle.messages.specs.declared.piece.PieceParts.{PieceParts}
use Rattle.messages.specs.declared.piece.Tag.{Tag}
use Rattle.messages.specs.declared.places.PlaceSet.{PlaceSet}
use Rattle.messages.specs.declared.frame.Frame.{Frame}
use Rattle.messages.specs.declared.frame.Frame.TheVariants.{Whole, Piece}
use Rattle.messages.specs.Bodies.{length_of}
use Rattle.messages.specs.Pieces.{is_cut, frames_of, pieces_of, piece_at, places}
use Rattle.messages.specs.Assemblies as assemblies
use Rattle.messages.specs.Assemblies.{Row, Look, look_at_piece, rows_after_piece}
use Rattle.messages.specs.PieceLaws.{ArePackets, OneBodyOfEachTag, AreCut, WasSent, IsPieceOf, OnlySentComesTogether}
use Rattle.messages.specs.Hearing.{Rules, Heard, Coming, Comes, Happens, Meaning, Says, Waits, Spoils, Strays}
use Rattle.messages.specs.Hearing.{said_by, meaning, heard_by, entry_of, rows_by, rows_of, with_entry, heard}
use Rattle.disk_model.specs.declared.save_outcome.SaveOutcome.{SaveOutcome}
use Rattle.fc_base.proofs.ListLemmas.{none_in, only_in, of_map, first_of, behind_one}
use Rattle.server_core.specs.History as server
use Rattle.client_core.specs.History as client
use Rattle.mirror_core.specs.History as mirror
use Rattle.net_world.specs.Setup.{Setup}
use Rattle.net_world.specs.Trace.{Step, AtServer, AtClient, AtMirror, IsTrace, WasSentTo, taken_by, first_entry, sent_packets}
use Rattle.net_world.specs.Frames.{FrameStep, OfServer, OfClient, OfMirror, of_server, of_client, at_server, at_client}
use Rattle.net_world.specs.Frames.{frames_sent, to_of, MayHappen, is_allowed, IsFrameTrace, step_heard, trace_heard}
use Rattle.net_world.specs.InRange.{EntryFits, StepFits, FrameStepFits, Fits, FitsFrames, SentAreInRange}
use Rattle.net_world.specs.FrameLaws.{FramesAreOfPackets, TagsNameOneBody, OnlySentIsHeard}
use Rattle.net_world.proofs.HearingLemmas.{packets_by, sent_with}
use Rattle.net_world.proofs.WorldLemmas.{either_way}

-- ---- what was sent stays sent

abbrev pub IsIn : List PacketParts → List PacketParts → Type 0
IsIn xs ys = (p : PacketParts) → Contains xs p → Contains ys p

cut_more : (xs ys : List PacketParts) → IsIn xs ys → (tag : Tag) (fs : List PlaceSet) → AreCut xs tag fs → AreCut ys tag fs
cut_more xs ys in_it tag [] a = tt
cut_more xs ys in_it tag (f ∷ fs) a =
    let w = a.0 in (
      record { packet = w.packet; was_sent = in_it w.packet w.was_sent; cut = w.cut; tag_is = w.tag_is; bytes_are = w.bytes_are },
      cut_more xs ys in_it tag fs a.1,
    )

rows_more : (xs ys : List PacketParts) → IsIn xs ys → (rows : List Row) → WasSent xs rows → WasSent ys rows
rows_more xs ys in_it [] w = tt
rows_more xs ys in_it (row ∷ rows) w = (cut_more xs ys in_it row.tag row.filled w.0, rows_more xs ys in_it rows w.1)

-- ---- a frame that was sent is of a packet that was sent

-- The frame of one of these packets, or a piece of one.
abbrev pub IsFrameOf : List PacketParts → Frame → Type 0
IsFrameOf ps (Whole p) = Contains ps p
IsFrameOf ps (Piece q) = (p : PacketParts) × Contains ps p × IsPieceOf p q

of_cut : (p : PacketParts) (b : Bool) → is_cut p.body ≡ b → (f : Frame) → Contains (if b then map Piece (pieces_of p) else Whole p ∷ []) f
    → (ps : List PacketParts) → Contains ps p → IsFrameOf ps f
of_cut p true e f h ps i =
    let s = of_map Piece (pieces_of p) f h in
    subst (IsFrameOf ps) s.2 (p, i, (e, s.1))
of_cut p false e f h ps i = subst (IsFrameOf ps) (only_in (Whole p) f h) i

of_frames : (ps : List PacketParts) (f : Frame) → Contains (flat_map frames_of ps) f → (all : List PacketParts) → IsIn ps all → IsFrameOf all f
of_frames [] f h all in_it = absurd (none_in f h)
of_frames (p ∷ ps) f h all in_it =
    elim (Contains-append_cases (frames_of p) (flat_map frames_of ps) f (subst (λ fs. Contains fs f) (flat_map-cons frames_of p ps) h)) [
      | inl i ↦ of_cut p (is_cut p.body) refl f i all (in_it p (first_of p ps))
      | inr i ↦ of_frames ps f i all (λ q j. in_it q (behind_one p ps q j))
    ]

pub frame_is : FramesAreOfPackets → (w : Setup) (past : List FrameStep) (f : Frame) → Contains (frames_sent w past) f
    → IsFrameOf (sent_packets w (trace_heard w past)) f
frame_is frames w past f h =
    of_frames (sent_packets w (trace_heard w past)) f (subst (λ fs. Contains fs f) (frames w past) h) (sent_packets w (trace_heard w past)) (λ p i. i)

piece_goes : (p : PacketParts) (q : PieceParts) → Contains (pieces_of p) q → p.to ≡ q.to
piece_goes p q h = let s = of_map (piece_at p) (places (length_of p.body)) q h in let e : piece_at p s.0 ≡ q = s.2 in ap (λ (x : PieceParts). x.to) e

-- ---- what a frame says was sent to the node

abbrev pub SaysSent : List PacketParts → Node → Meaning → Type 0
SaysSent ps node (Says p) = WasSentTo ps node p
SaysSent ps node Waits = Unit {0}
SaysSent ps node Spoils = Unit {0}
SaysSent ps node Strays = Unit {0}

look_sent : (ps : List PacketParts) (node : Node) (p : PacketParts) → Contains ps p → p.to ≡ node → (x : Look)
    → (x ≡ assemblies.Waits) ⊎ (x ≡ assemblies.Gives p) → SaysSent ps node (said_by x)
look_sent ps node p i to x (inl e) = subst (λ y. SaysSent ps node (said_by y)) (sym e) tt
look_sent ps node p i to x (inr e) = subst (λ y. SaysSent ps node (said_by y)) (sym e) (i, to)

if_taken : (ps : List PacketParts) (node : Node) (b : Bool) (m : Meaning) → SaysSent ps node m → SaysSent ps node (if b then m else Strays)
if_taken ps node true m h = h
if_taken ps node false m h = tt

either : (ps : List PacketParts) (b : Bool) (xs ys : List Row) → WasSent ps xs → WasSent ps ys → WasSent ps (if b then xs else ys)
either ps true xs ys v w = v
either ps false xs ys v w = w

rows_kept : {X E L : Type 0} (r : Rules X E L) (ps : List PacketParts) (h : Heard E) (q : PieceParts) → WasSent ps h.rows
    → WasSent ps (rows_after_piece h.rows q) → (m : Meaning) → WasSent ps (rows_by r h q m)
rows_kept r ps h q w v (Says p) = either ps (is_some (r.refusal h.entries (r.delivers p))) h.rows (rows_after_piece h.rows q) w v
rows_kept r ps h q w v Waits = v
rows_kept r ps h q w v Spoils = v
rows_kept r ps h q w v Strays = w

-- What a frame that was sent to the node leaves and says is of packets that were sent.
pub record Keeps {X E L : Type 0} (r : Rules X E L) (ps : List PacketParts) (node : Node) (h : Heard E) (f : Frame) (left : L) : Type 0 where
  pub rows : WasSent ps (rows_of r h (Comes f left))
  pub says : SaysSent ps node (meaning r h f)

pub keeps : OnlySentComesTogether → {X E L : Type 0} (r : Rules X E L) (ps : List PacketParts) → ArePackets ps → OneBodyOfEachTag ps → (h : Heard E)
    → WasSent ps h.rows
    → (node : Node) (f : Frame) → IsFrameOf ps f → to_of f ≡ node → (left : L) → Keeps r ps node h f left
keeps law r ps are one h w node (Whole p) i to left = record { rows = w; says = (i, to) }
keeps law r ps are one h w node (Piece q) i to left =
    let p = i.0 in
    let told = law ps are one h.rows w p i.1 q i.2 in
    let goes : p.to ≡ node = piece_goes p q (i.2).1 ∙ to in
    record {
      rows = rows_kept r ps h q w told.1 (meaning r h (Piece q));
      says = if_taken ps node (r.is_on h.entries && r.is_for q) (said_by (look_at_piece h.rows q))
          (look_sent ps node p i.1 goes (look_at_piece h.rows q) told.0);
    }

-- ---- each step keeps the trace, and what has come together

-- What has come together at a node is of sent packets, and with the step the trace is one.
record Kept {X E L : Type 0} (r : Rules X E L) (w : Setup) (t : List Step) (h : Heard E) (c : Coming E L) (step : E → Step) : Type 0 where
  pub rows : WasSent (sent_packets w t) (rows_of r h c)
  pub trace : IsTrace w (with_entry (option_map step (entry_of r h c)) t)

server_says : (w : Setup) (s : ℕ) (t : List Step) (left : SaveOutcome) (m : Meaning) → IsTrace w t → SaysSent (sent_packets w t) (Server s) m
    → IsTrace w (with_entry (option_map (AtServer s) (heard_by (at_server s) left m)) t)
server_says w s t left (Says p) h i = (h, (i, tt), refl)
server_says w s t left Waits h i = h
server_says w s t left Spoils h i = h
server_says w s t left Strays h i = h

client_says : (w : Setup) (t : List Step) (left : SaveOutcome) (m : Meaning) → IsTrace w t → SaysSent (sent_packets w t) Client m
    → IsTrace w (with_entry (option_map AtClient (heard_by (at_client w) left m)) t)
client_says w t left (Says p) h i = (h, (i, tt), either_way w.mirror)
client_says w t left Waits h i = h
client_says w t left Spoils h i = h
client_says w t left Strays h i = h

takes_none : (ps : List PacketParts) (node : Node) (taken : List PacketParts) → taken ≡ [] → AllByRecursion (WasSentTo ps node) taken
takes_none ps node taken e = subst (λ xs. AllByRecursion (WasSentTo ps node) xs) (sym e) tt

server_step : OnlySentComesTogether → FramesAreOfPackets → (w : Setup) (s : ℕ) (past : List FrameStep) → IsTrace w (trace_heard w past)
    → ArePackets (sent_packets w (trace_heard w past)) → OneBodyOfEachTag (sent_packets w (trace_heard w past))
    → (h : Heard server.Entry) → WasSent (sent_packets w (trace_heard w past)) h.rows → (c : Coming server.Entry SaveOutcome)
    → MayHappen (frames_sent w past) (OfServer s c) → Kept (at_server s) w (trace_heard w past) h c (AtServer s)
server_step law frames w s past t are one h was (Comes f left) i =
    let k = keeps law (at_server s) (sent_packets w (trace_heard w past)) are one h was (Server s) f (frame_is frames w past f i.0) i.1 left in
    record { rows = k.rows; trace = server_says w s (trace_heard w past) left (meaning (at_server s) h f) t k.says }
server_step law frames w s past t are one h was (Happens e) i = record {
  rows = either (sent_packets w (trace_heard w past)) ((at_server s).ends e) [] h.rows tt was;
  trace = (t, takes_none (sent_packets w (trace_heard w past)) (Server s) (taken_by (AtServer s e)) i, refl);
}

client_step : OnlySentComesTogether → FramesAreOfPackets → (w : Setup) (past : List FrameStep) → IsTrace w (trace_heard w past)
    → ArePackets (sent_packets w (trace_heard w past)) → OneBodyOfEachTag (sent_packets w (trace_heard w past))
    → (h : Heard client.Entry) → WasSent (sent_packets w (trace_heard w past)) h.rows → (c : Coming client.Entry SaveOutcome)
    → MayHappen (frames_sent w past) (OfClient c) → is_allowed w past (OfClient c) ≡ true → Kept (at_client w) w (trace_heard w past) h c AtClient
client_step law frames w past t are one h was (Comes f left) i allowed =
    let k = keeps law (at_client w) (sent_packets w (trace_heard w past)) are one h was Client f (frame_is frames w past f i.0) i.1 left in
    record { rows = k.rows; trace = client_says w (trace_heard w past) left (meaning (at_client w) h f) t k.says }
client_step law frames w past t are one h was (Happens e) i allowed = record {
  rows = either (sent_packets w (trace_heard w past)) ((at_client w).ends e) [] h.rows tt was;
  trace = (t, takes_none (sent_packets w (trace_heard w past)) Client (taken_by (AtClient e)) i, allowed);
}

mirror_takes : FramesAreOfPackets → (w : Setup) (past : List FrameStep) (e : mirror.Entry) → MayHappen (frames_sent w past) (OfMirror e)
    → AllByRecursion (WasSentTo (sent_packets w (trace_heard w past)) Mirror) (taken_by (AtMirror e))
mirror_takes frames w past (mirror.Met (Whole p) left) i = ((frame_is frames w past (Whole p) i.0, i.1), tt)
mirror_takes frames w past (mirror.Met (Piece q) left) i = tt
mirror_takes frames w past mirror.Cut i = tt
mirror_takes frames w past mirror.Restart i = tt

-- ---- ranges

SomeFits : Option server.Entry → Type 0
SomeFits None = Unit {0}
SomeFits (Some e) = EntryFits e

server_added : (s : ℕ) (x : Option server.Entry) (t : List Step) → s < MAX_SERVERS → SomeFits x → AllByRecursion StepFits t
    → AllByRecursion StepFits (with_entry (option_map (AtServer s) x) t)
unfolding SomeFits
server_added s None t l k h = h
server_added s (Some e) t l k h = ((l, k), h)

client_added : (x : Option client.Entry) (t : List Step) → AllByRecursion StepFits t → AllByRecursion StepFits (with_entry (option_map AtClient x) t)
client_added None t h = h
client_added (Some e) t h = (tt, h)

meaning_fits : (s : ℕ) (left : SaveOutcome) (m : Meaning) → SomeFits (heard_by (at_server s) left m)
unfolding SomeFits
meaning_fits s left (Says p) = tt
meaning_fits s left Waits = tt
meaning_fits s left Spoils = tt
meaning_fits s left Strays = tt

server_adds : (s : ℕ) (h : Heard server.Entry) (c : Coming server.Entry SaveOutcome) (t : List Step) → FrameStepFits (OfServer s c) → AllByRecursion StepFits t
    → AllByRecursion StepFits (with_entry (option_map (AtServer s) (entry_of (at_server s) h c)) t)
unfolding SomeFits
server_adds s h (Comes f left) t k a =
    server_added s (heard_by (at_server s) left (meaning (at_server s) h f)) t k (meaning_fits s left (meaning (at_server s) h f)) a
server_adds s h (Happens e) t k a = (k, a)

steps_fit : (w : Setup) (t : List FrameStep) → AllByRecursion FrameStepFits t → AllByRecursion StepFits (trace_heard w t)
steps_fit w [] h = tt
steps_fit w (OfServer s c ∷ past) h = server_adds s (heard (at_server s) (of_server s past)) c (trace_heard w past) h.0 (steps_fit w past h.1)
steps_fit w (OfMirror e ∷ past) h = (tt, steps_fit w past h.1)
steps_fit w (OfClient c ∷ past) h = client_added (entry_of (at_client w) (heard (at_client w) (of_client w past)) c) (trace_heard w past) (steps_fit w past h.1)

pub heard_fits : (w : Setup) (t : List FrameStep) → FitsFrames w t → Fits w (trace_heard w t)
heard_fits w t f = record { few = f.few; steps = steps_fit w t f.steps }

-- ---- the whole list

-- A trace of frames says a trace, and what has come together at each node is of sent packets.
pub record Stands (w : Setup) (t : List FrameStep) : Type 0 where
  pub trace : IsTrace w (trace_heard w t)
  pub servers : (s : ℕ) → WasSent (sent_packets w (trace_heard w t)) (heard (at_server s) (of_server s t)).rows
  pub client_rows : WasSent (sent_packets w (trace_heard w t)) (heard (at_client w) (of_client w t)).rows

more_sent : (w : Setup) (x : Option Step) (t : List Step) → IsIn (sent_packets w t) (sent_packets w (with_entry x t))
more_sent w x t p i = subst (λ ps. Contains ps p) (sym (sent_with w x t)) (Contains-append_left (sent_packets w t) (packets_by w t x) p i)

server_rows : (ps : List PacketParts) (s r : ℕ) (b : Bool) → (b ≡ true → r ≡ s) → (c : Coming server.Entry SaveOutcome) (past : List FrameStep)
    → WasSent ps (rows_of (at_server r) (heard (at_server r) (of_server r past)) c) → WasSent ps (heard (at_server s) (of_server s past)).rows
    → WasSent ps (heard (at_server s) (if b then c ∷ of_server s past else of_server s past)).rows
server_rows ps s r true is c past v w = subst (λ x. WasSent ps (rows_of (at_server x) (heard (at_server x) (of_server x past)) c)) (is refl) v
server_rows ps s r false is c past v w = w

-- Nothing has come together where nothing came.
first_rows : (w : Setup) (b : Bool) → WasSent (sent_packets w []) (heard (at_client w) (Happens (first_entry b) ∷ [])).rows
first_rows w true = tt
first_rows w false = tt

pub stands : OnlySentComesTogether → FramesAreOfPackets → TagsNameOneBody → SentAreInRange → (w : Setup) (t : List FrameStep) → IsFrameTrace w t
    → FitsFrames w t → Stands w t
stands law frames tags ranges w [] h fits = record { trace = tt; servers = λ s. tt; client_rows = first_rows w w.mirror }
stands law frames tags ranges w (OfServer r c ∷ past) h fits =
    let t = trace_heard w past in
    let x = step_heard w past (OfServer r c) in
    let f : FitsFrames w past = record { few = fits.few; steps = fits.steps.1 } in
    let s = stands law frames tags ranges w past h.0 f in
    let are = ranges w t s.trace (heard_fits w past f) in
    let k = server_step law frames w r past s.trace are (tags w t s.trace are) (heard (at_server r) (of_server r past)) (s.servers r) c h.1 in
    record {
      trace = k.trace;
      servers = λ i. rows_more (sent_packets w t) (sent_packets w (with_entry x t)) (more_sent w x t)
          (heard (at_server i) (of_server i (OfServer r c ∷ past))).rows
          (server_rows (sent_packets w t) i r (r == i) (eqb-true r i) c past k.rows (s.servers i));
      client_rows =
          rows_more (sent_packets w t) (sent_packets w (with_entry x t)) (more_sent w x t) (heard (at_client w) (of_client w past)).rows s.client_rows;
    }
stands law frames tags ranges w (OfClient c ∷ past) h fits =
    let t = trace_heard w past in
    let x = step_heard w past (OfClient c) in
    let f : FitsFrames w past = record { few = fits.few; steps = fits.steps.1 } in
    let s = stands law frames tags ranges w past h.0 f in
    let are = ranges w t s.trace (heard_fits w past f) in
    let k = client_step law frames w past s.trace are (tags w t s.trace are) (heard (at_client w) (of_client w past)) s.client_rows c h.1 h.2 in
    record {
      trace = k.trace;
      servers = λ i. rows_more (sent_packets w t) (sent_packets w (with_entry x t)) (more_sent w x t) (heard (at_server i) (of_server i past)).rows
          (s.servers i);
      client_rows =
          rows_more (sent_packets w t) (sent_packets w (with_entry x t)) (more_sent w x t) (heard (at_client w) (of_client w (OfClient c ∷ past))).rows k.rows;
    }
stands law frames tags ranges w (OfMirror e ∷ past) h fits =
    let t = trace_heard w past in
    let x = step_heard w past (OfMirror e) in
    let f : FitsFrames w past = record { few = fits.few; steps = fits.steps.1 } in
    let s = stands law frames tags ranges w past h.0 f in
    record {
      trace = (s.trace, mirror_takes frames w past e h.1, h.2);
      servers = λ i. rows_more (sent_packets w t) (sent_packets w (with_entry x t)) (more_sent w x t) (heard (at_server i) (of_server i past)).rows
          (s.servers i);
      client_rows =
          rows_more (sent_packets w t) (sent_packets w (with_entry x t)) (more_sent w x t) (heard (at_client w) (of_client w past)).rows s.client_rows;
    }

pub only_sent_is_heard : OnlySentComesTogether → FramesAreOfPackets → TagsNameOneBody → SentAreInRange → OnlySentIsHeard
only_sent_is_heard law frames tags ranges w t h fits = (stands law frames tags ranges w t h fits).trace
