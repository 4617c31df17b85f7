-- The frames that are seen: those that were sent, which are read back, and whose packets are those of the steps.
use Rattle.std.proofs.Common.{◌≡◌, refl, sym, ◌∙◌, ap, subst, ◌⊎◌, inl, inr, ℕ, Bool, true, false, List, [], ◌∷◌, ◌++◌, length, Option, Some, None, append-nil}
use Rattle.std.specs.Prelude.{if◌then◌else◌, ◌==◌, ◌≤◌, map, drop, Contains}
use Rattle.std.specs.List.{flat_map}
use Rattle.std.proofs.lemmas.Bool.{eq-eqb}
use Rattle.std.proofs.lemmas.List.{map-append}
use Rattle.std.proofs.lemmas.List.Concat.{flat_map-cons}
use Rattle.std.proofs.lemmas.List.Elements.{Contains-append_cases, Contains-append_left, Contains-append_right}
use Rattle.fc_base.proofs.ListLemmas.{none_in, only_in, of_map, first_of, first_or_behind, behind_one}
use Rattle.fc_base.specs.declared.limits.TheConstants.{MAX_SERVERS}
use Rattle.messages.specs.declared.packet.PacketParts.{PacketParts}
use Rattle.messages.specs.declared.node.Node.TheVariants.{Server, Client, Mirror}
use Rattle.messages.specs.declared.frame.Frame.{Frame}
use Rattle.messages.specs.declared.frame.Frame.TheVariants.{Whole, Piece}
use Rattle.messages.specs.FrameBytes.{frame_at, frame_spelling}
use Rattle.messages.specs.Pieces.{is_cut, pieces_of, frames_of}
use Rattle.messages.specs.Hearing.{Coming, entry_of, frames_by, heard}
use Rattle.disk_model.specs.declared.save_outcome.SaveOutcome.{SaveOutcome}
use Rattle.server_core.specs.History.{Entry}
use Rattle.server_core.specs.Answers as servers
use Rattle.server_core.specs.Sent.{PacketsGoToClient}
use Rattle.client_core.specs.History as client
use Rattle.client_core.specs.Packets as clients
use Rattle.client_core.specs.Laws as asked
use Rattle.client_core.specs.Words.{has_mirror}
use Rattle.mirror_core.specs.Packets as mirrors
use Rattle.mirror_core.specs.Laws as mirror_laws
use Rattle.net_world.specs.Setup.{Setup}
use Rattle.net_world.specs.Happenings.{Happening}
use Rattle.net_world.specs.Trace.{of_server, opening_of, client_opening, mirror_opening}
use Rattle.net_world.specs.Frames as frames
use Rattle.net_world.specs.Frames.{FrameStep, OfServer, OfClient, OfMirror, at_server, at_client, frames_sent, frames_of_step, trace_heard}
use Rattle.net_world.specs.FrameLaws.{NodesHearTheirOwn}
use Rattle.net_world.specs.Changes.{Change, Met, Landed, Rotted, steps}
use Rattle.net_world.specs.Outcomes.{Outcome, Does, Refuses, Drops, outcome}
use Rattle.net_world.specs.World as worlds
use Rattle.net_world.specs.World.{world, and_outcome}
use Rattle.net_world.specs.WorldLaws.{SentFramesAreRead}
use Rattle.net_world.proofs.MirrorLemmas.{sent_by_mirror}
use Rattle.seen.specs.Observations.{frames_in}
use Rattle.seen.specs.Sightings.{IsAmong}
use Rattle.seen.specs.Watching.{observation, observations}
use Rattle.seen.proofs.EntryLemmas.{step_in, entry_in, entry_by}
use Rattle.seen.proofs.PlaceLemmas.{list_at, entry_now}
use Rattle.seen.proofs.ReadLemmas.{reads, is_whole_of}
use Rattle.seen.proofs.ServerLemmas.{in_map}

-- ---- what was sent

-- The frames that come of something.
abbrev pub frames_by_step : Setup → List FrameStep → Option FrameStep → List Frame
frames_by_step w ps None = []
frames_by_step w ps (Some step) = frames_of_step w ps step

pub sent_more : (w : Setup) (past : List Change) (r : Outcome)
    → frames_sent w (steps (and_outcome r past)) ≡ frames_sent w (steps past) ++ frames_by_step w (steps past) (step_in r)
unfolding frames_sent
sent_more w past (Does (Met step)) = refl
sent_more w past (Does (Landed s j k mask)) = sym (append-nil (frames_sent w (steps past)))
sent_more w past (Does (Rotted s j sector bytes)) = sym (append-nil (frames_sent w (steps past)))
sent_more w past (Refuses fault) = sym (append-nil (frames_sent w (steps past)))
sent_more w past (Drops step) = refl

abbrev pub step_now : Setup → List Happening → Happening → Option FrameStep
step_now w events e = step_in (outcome w (world w events) e)

abbrev pub sent_at : Setup → List Happening → List Frame
sent_at w events = frames_sent w (steps (world w events))

behind : {X : Type 0} (xs ys : List X) → drop (length xs) (xs ++ ys) ≡ ys
behind [] ys = refl
behind (x ∷ xs) ys = behind xs ys

pub frames_now : (w : Setup) (events : List Happening) (e : Happening)
    → (observation w events e).frames ≡ map frame_spelling (frames_by_step w (steps (world w events)) (step_now w events e))
frames_now w events e =
    let more = frames_by_step w (steps (world w events)) (step_now w events e) in
    let before = worlds.frames w (world w events) in
    ap (drop (length before))
    (ap (map frame_spelling) (sent_more w (world w events) (outcome w (world w events) e)) ∙ map-append frame_spelling (sent_at w events) more)
    ∙ behind before (map frame_spelling more)

none_sent : (w : Setup) → [] ≡ map frame_spelling (frames_sent w [])
unfolding frames_sent
none_sent w = refl

pub frames_are : (w : Setup) (events : List Happening) → frames_in (observations w events) ≡ map frame_spelling (sent_at w events)
frames_are w [] = none_sent w
frames_are w (e ∷ events) =
    let more = frames_by_step w (steps (world w events)) (step_now w events e) in
    ap (λ l. l ++ (observation w events e).frames) (frames_are w events)
    ∙ ap (λ l. map frame_spelling (sent_at w events) ++ l) (frames_now w events e)
    ∙ sym (map-append frame_spelling (sent_at w events) more)
    ∙ ap (map frame_spelling) (sym (sent_more w (world w events) (outcome w (world w events) e)))

-- ---- what is read

-- A packet that is said among frames that were sent is one of them.
pub read_among : SentFramesAreRead → (w : Setup) (events : List Happening) → w.servers ≤ MAX_SERVERS → (fs : List Frame)
    → ((f : Frame) → Contains fs f → Contains (sent_at w events) f) → (p : PacketParts) → IsAmong (map frame_spelling fs) p → Contains fs (Whole p)
read_among law w events few fs in_it p h =
    let s = of_map frame_spelling fs h.bytes h.there in
    let f = s.0 in
    let back : frame_at h.bytes ≡ Some f = ap frame_at (sym s.2) ∙ (law w events f few (in_it f s.1)).1 in
    let same : f ≡ Whole p = is_whole_of h.bytes f p back h.says in
    subst (Contains fs) same s.1

-- A packet whose frame was sent is said.
pub say_among : SentFramesAreRead → (w : Setup) (events : List Happening) → w.servers ≤ MAX_SERVERS → (fs : List Frame) (p : PacketParts)
    → Contains (sent_at w events) (Whole p) → Contains fs (Whole p) → IsAmong (map frame_spelling fs) p
say_among law w events few fs p sent h =
    record { bytes = frame_spelling (Whole p); there = in_map frame_spelling fs (Whole p) h; says = reads (frame_spelling (Whole p)) (Whole p) (law w events (Whole p) few sent).1 }

-- ---- packets and frames

out_of_cut : (p q : PacketParts) (b : Bool) → Contains (if b then map Piece (pieces_of p) else Whole p ∷ []) (Whole q) → p ≡ q
out_of_cut p q true h = let s = of_map Piece (pieces_of p) (Whole q) h in let no : Piece s.0 ≡ Whole q = s.2 in absurd cc
out_of_cut p q false h = let e = only_in (Whole p) (Whole q) h in cc

pub whole_of : (ps : List PacketParts) (p : PacketParts) → Contains (flat_map frames_of ps) (Whole p) → Contains ps p
whole_of [] p h = absurd (none_in (Whole p) h)
whole_of (q ∷ ps) p h =
    elim (Contains-append_cases (frames_of q) (flat_map frames_of ps) (Whole p) (subst (λ fs. Contains fs (Whole p)) (flat_map-cons frames_of q ps) h)) [
      | inl i ↦ subst (Contains (q ∷ ps)) (out_of_cut q p (is_cut q.body) i) (first_of q ps)
      | inr i ↦ behind_one q ps p (whole_of ps p i)
    ]

in_cut : (p : PacketParts) (b : Bool) → b ≡ false → Contains (if b then map Piece (pieces_of p) else Whole p ∷ []) (Whole p)
in_cut p true h = absurd cc
in_cut p false h = first_of (Whole p) []

pub of_whole : (ps : List PacketParts) (p : PacketParts) → is_cut p.body ≡ false → Contains ps p → Contains (flat_map frames_of ps) (Whole p)
of_whole [] p short h = absurd (none_in p h)
of_whole (q ∷ ps) p short h =
    subst (λ fs. Contains fs (Whole p)) (sym (flat_map-cons frames_of q ps))
    (elim (first_or_behind q ps p h) [
      | inl e ↦ Contains-append_left (frames_of q) (flat_map frames_of ps) (Whole p)
          (subst (λ (x : PacketParts). Contains (frames_of x) (Whole p)) (sym e) (in_cut p (is_cut p.body) short))
      | inr i ↦ Contains-append_right (frames_of q) (flat_map frames_of ps) (Whole p) (of_whole ps p short i)
    ])

-- ---- the frames of a server

-- The packets of what a server hears.
abbrev pub packets_by_entry : ℕ → List Entry → Option Entry → List PacketParts
packets_by_entry s list None = []
packets_by_entry s list (Some y) = servers.packets (opening_of s) list y

by_entry : (s : ℕ) (list : List Entry) (x : Option Entry) → frames_by (servers.packets (opening_of s)) list x ≡ flat_map frames_of (packets_by_entry s list x)
by_entry s list None = refl
by_entry s list (Some y) = refl

-- What a step at a server sends, by what the server hears.
pub server_sends : NodesHearTheirOwn → (w : Setup) (ps : List FrameStep) (s : ℕ) (c : Coming Entry SaveOutcome)
    → frames_of_step w ps (OfServer s c)
    ≡ flat_map frames_of (packets_by_entry s (of_server s (trace_heard w ps)) (entry_of (at_server s) (heard (at_server s) (frames.of_server s ps)) c))
server_sends law w ps s c =
    let x = entry_of (at_server s) (heard (at_server s) (frames.of_server s ps)) c in
    by_entry s (heard (at_server s) (frames.of_server s ps)).entries x
    ∙ ap (λ l. flat_map frames_of (packets_by_entry s l x)) (sym ((law w ps).servers s))

-- The laws on which this rests.
pub record FrameLaws : Type 0 where
  pub own : NodesHearTheirOwn
  pub read : SentFramesAreRead
  pub to_client : PacketsGoToClient
  pub to_peers : asked.PacketsGoToPeers
  pub over : mirror_laws.PacketsGoToTheClient

server_apart : (r s : ℕ) → Server r ≡ Server s → r ≡ s
server_apart r s h = cc

not_client : (s : ℕ) → Client ≡ Server s → ⊥
not_client s h = cc

not_mirror : (s : ℕ) → Mirror ≡ Server s → ⊥
not_mirror s h = cc

-- The entry that sends a packet.
pub record SendsNow (s : ℕ) (list : List Entry) (x : Option Entry) (p : PacketParts) : Type 0 where
  pub entry : Entry
  pub is : x ≡ Some entry
  pub sends : Contains (servers.packets (opening_of s) list entry) p

pub sends_now : (s : ℕ) (list : List Entry) (x : Option Entry) (p : PacketParts) → Contains (packets_by_entry s list x) p → SendsNow s list x p
sends_now s list None p h = absurd (none_in p h)
sends_now s list (Some y) p h = record { entry = y; is = refl; sends = h }

its_own : (b : Bool) → b ≡ true → (s : ℕ) (list : List Entry) (x : Option Entry) (p : PacketParts) → SendsNow s list x p
    → SendsNow s list (if b then x else None) p
its_own true e s list x p h = h
its_own false e s list x p h = absurd cc

client_sends : FrameLaws → (w : Setup) (list : List client.Entry) (x : Option client.Entry) (p : PacketParts)
    → Contains (frames_by (clients.packets (client_opening w)) list x) (Whole p) → p.from ≡ Client
client_sends laws w list None p h = absurd (none_in (Whole p) h)
client_sends laws w list (Some y) p h =
    from (laws.to_peers (client_opening w) list y p (whole_of (clients.packets (client_opening w) list y) p h))
  where
    from : asked.GoesToServer w.servers p ⊎ asked.GoesToMirror (has_mirror list) p → p.from ≡ Client
    from (inl k) = ap (λ (q : PacketParts). q.from) k.2
    from (inr k) = ap (λ (q : PacketParts). q.from) k.1

step_sends : FrameLaws → (w : Setup) (ps : List FrameStep) (s : ℕ) (step : FrameStep) (p : PacketParts) → p.from ≡ Server s
    → Contains (frames_of_step w ps step) (Whole p) → SendsNow s (of_server s (trace_heard w ps)) (entry_in s ps step) p
step_sends laws w ps s (OfServer r c) p from h =
    let list = of_server r (trace_heard w ps) in
    let x = entry_of (at_server r) (heard (at_server r) (frames.of_server r ps)) c in
    let i = whole_of (packets_by_entry r list x) p (subst (λ fs. Contains fs (Whole p)) (server_sends laws.own w ps r c) h) in
    let k = sends_now r list x p i in
    let goes = laws.to_client (opening_of r) list k.entry p k.sends in
    let same : r ≡ s = server_apart r s (sym (ap (λ (q : PacketParts). q.from) goes.ends) ∙ from) in
    its_own (r == s) (eq-eqb r s same) s (of_server s (trace_heard w ps)) x p (subst (λ m. SendsNow m (of_server m (trace_heard w ps)) x p) same k)
step_sends laws w ps s (OfClient c) p from h =
    absurd (not_client s (sym (client_sends laws w (heard (at_client w) (frames.of_client w ps)).entries
    (entry_of (at_client w) (heard (at_client w) (frames.of_client w ps)) c) p h) ∙ from))
step_sends laws w ps s (OfMirror e) p from h =
    let i = whole_of (mirrors.packets mirror_opening (frames.of_mirror ps) e) p h in
    absurd (not_mirror s (sym (sent_by_mirror laws.over mirror_opening (frames.of_mirror ps) e p i).0 ∙ from))

step_sends_so : FrameLaws → (w : Setup) (ps : List FrameStep) (s : ℕ) (x : Option FrameStep) (p : PacketParts) → p.from ≡ Server s
    → Contains (frames_by_step w ps x) (Whole p) → SendsNow s (of_server s (trace_heard w ps)) (entry_by s ps x) p
step_sends_so laws w ps s None p from h = absurd (none_in (Whole p) h)
step_sends_so laws w ps s (Some step) p from h = step_sends laws w ps s step p from h

-- A packet of a server that is seen with an event is sent by what it hears then.
pub sent_here : FrameLaws → (w : Setup) (s : ℕ) (events : List Happening) (e : Happening) (p : PacketParts) → w.servers ≤ MAX_SERVERS → p.from ≡ Server s
    → IsAmong (observation w events e).frames p → SendsNow s (list_at w s events) (entry_now w s events e) p
sent_here laws w s events e p few from h =
    let more = frames_by_step w (steps (world w events)) (step_now w events e) in
    let all = sent_more w (world w events) (outcome w (world w events) e) in
    let i = read_among laws.read w (e ∷ events) few more
    (λ f k. subst (λ fs. Contains fs f) (sym all) (Contains-append_right (sent_at w events) more f k)) p
    (subst (λ fs. IsAmong fs p) (frames_now w events e) h) in
    step_sends_so laws w (steps (world w events)) s (step_now w events e) p from i

-- What a server sends with a step is seen, where it is short.
pub seen_here : FrameLaws → (w : Setup) (s : ℕ) (events : List Happening) (e : Happening) (c : Coming Entry SaveOutcome) (y : Entry) (p : PacketParts)
    → w.servers ≤ MAX_SERVERS → outcome w (world w events) e ≡ Does (Met (OfServer s c))
    → entry_of (at_server s) (heard (at_server s) (frames.of_server s (steps (world w events)))) c ≡ Some y → is_cut p.body ≡ false
    → Contains (servers.packets (opening_of s) (list_at w s events) y) p → IsAmong (observation w events e).frames p
seen_here laws w s events e c y p few does hears short h =
    let ps = steps (world w events) in
    let list = list_at w s events in
    let more = frames_by_step w ps (step_now w events e) in
    let sends : more ≡ flat_map frames_of (servers.packets (opening_of s) list y) =
    ap (λ (r : Outcome). frames_by_step w ps (step_in r)) does ∙ server_sends laws.own w ps s c ∙ ap (λ x. flat_map frames_of (packets_by_entry s list x)) hears in
    let i : Contains more (Whole p) =
    subst (λ fs. Contains fs (Whole p)) (sym sends) (of_whole (servers.packets (opening_of s) list y) p short h) in
    let all = sent_more w (world w events) (outcome w (world w events) e) in
    let sent : Contains (sent_at w (e ∷ events)) (Whole p) =
    subst (λ fs. Contains fs (Whole p)) (sym all) (Contains-append_right (sent_at w events) more (Whole p) i) in
    subst (λ fs. IsAmong fs p) (sym (frames_now w events e)) (say_among laws.read w (e ∷ events) few more p sent i)
