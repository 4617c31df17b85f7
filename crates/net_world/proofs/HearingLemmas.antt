-- Each node hears its own steps, and the frames that are sent are those of packets.
use Rattle.std.proofs.Common.{◌≡◌, refl, sym, ◌∙◌, ap, ℕ, Bool, true, false, ◌==◌, List, [], ◌∷◌, ◌++◌, Option, None, Some, append-nil}
use Rattle.std.specs.Prelude.{if◌then◌else◌}
use Rattle.std.specs.List.{flat_map}
use Rattle.std.specs.Option.{option_map}
use Rattle.std.proofs.lemmas.Bool.{eqb-true}
use Rattle.std.proofs.lemmas.List.Concat.{flat_map-append}
use Rattle.messages.specs.declared.packet.PacketParts.{PacketParts}
use Rattle.messages.specs.Pieces.{frames_of}
use Rattle.messages.specs.Hearing.{Coming, entry_of, with_entry, heard, frames_by}
use Rattle.disk_model.specs.declared.save_outcome.SaveOutcome.{SaveOutcome}
use Rattle.server_core.specs.History as server
use Rattle.server_core.specs.Answers as servers
use Rattle.client_core.specs.History as client
use Rattle.client_core.specs.Packets as clients
use Rattle.mirror_core.specs.Packets as mirrors
use Rattle.net_world.specs.Setup.{Setup}
use Rattle.net_world.specs.Trace as packets
use Rattle.net_world.specs.Trace.{Step, AtServer, AtClient, opening_of, client_opening, mirror_opening, packets_of, sent_packets}
use Rattle.net_world.specs.Frames.{FrameStep, OfServer, OfClient, OfMirror, of_server, of_client, of_mirror, at_server}
use Rattle.net_world.specs.Frames.{at_client, frames_of_step, frames_sent, step_heard, trace_heard}
use Rattle.net_world.specs.FrameLaws.{NodesHearTheirOwn, FramesAreOfPackets}

if_same : {X : Type 0} (t : Bool) (x : X) → x ≡ (if t then x else x)
if_same true x = refl
if_same false x = refl

-- ---- each node's own list

pub server_with : (s r : ℕ) (x : Option server.Entry) (t : List Step)
    → packets.of_server s (with_entry (option_map (AtServer r) x) t) ≡ (if r == s then with_entry x (packets.of_server s t) else packets.of_server s t)
server_with s r None t = if_same (r == s) (packets.of_server s t)
server_with s r (Some e) t = refl

pub client_with : (w : Setup) (x : Option client.Entry) (t : List Step)
    → packets.of_client w (with_entry (option_map AtClient x) t) ≡ with_entry x (packets.of_client w t)
client_with w None t = refl
client_with w (Some e) t = refl

pub server_by_client : (s : ℕ) (x : Option client.Entry) (t : List Step) → packets.of_server s (with_entry (option_map AtClient x) t) ≡ packets.of_server s t
server_by_client s None t = refl
server_by_client s (Some e) t = refl

pub client_by_server : (w : Setup) (r : ℕ) (x : Option server.Entry) (t : List Step)
    → packets.of_client w (with_entry (option_map (AtServer r) x) t) ≡ packets.of_client w t
client_by_server w r None t = refl
client_by_server w r (Some e) t = refl

server_if : (s r : ℕ) (b : Bool) → (b ≡ true → r ≡ s) → (c : Coming server.Entry SaveOutcome) (past : List FrameStep) (list : List server.Entry)
    → list ≡ (heard (at_server s) (of_server s past)).entries
    → (if b then with_entry (entry_of (at_server r) (heard (at_server r) (of_server r past)) c) list else list)
    ≡ (heard (at_server s) (if b then c ∷ of_server s past else of_server s past)).entries
server_if s r true is c past list h =
    ap (λ m. with_entry (entry_of (at_server m) (heard (at_server m) (of_server m past)) c) list) (is refl)
    ∙ ap (λ l. with_entry (entry_of (at_server s) (heard (at_server s) (of_server s past)) c) l) h
server_if s r false is c past list h = h

servers_hear : (w : Setup) (s : ℕ) (t : List FrameStep) → packets.of_server s (trace_heard w t) ≡ (heard (at_server s) (of_server s t)).entries
servers_hear w s [] = refl
servers_hear w s (OfServer r c ∷ past) =
    server_with s r (entry_of (at_server r) (heard (at_server r) (of_server r past)) c) (trace_heard w past)
    ∙ server_if s r (r == s) (eqb-true r s) c past (packets.of_server s (trace_heard w past)) (servers_hear w s past)
servers_hear w s (OfMirror e ∷ past) = servers_hear w s past
servers_hear w s (OfClient c ∷ past) =
    server_by_client s (entry_of (at_client w) (heard (at_client w) (of_client w past)) c) (trace_heard w past) ∙ servers_hear w s past

client_hears : (w : Setup) (t : List FrameStep) → packets.of_client w (trace_heard w t) ≡ (heard (at_client w) (of_client w t)).entries
client_hears w [] = refl
client_hears w (OfServer r c ∷ past) =
    client_by_server w r (entry_of (at_server r) (heard (at_server r) (of_server r past)) c) (trace_heard w past) ∙ client_hears w past
client_hears w (OfMirror e ∷ past) = client_hears w past
client_hears w (OfClient c ∷ past) =
    let x = entry_of (at_client w) (heard (at_client w) (of_client w past)) c in
    client_with w x (trace_heard w past) ∙ ap (λ l. with_entry x l) (client_hears w past)

mirror_by_server : (r : ℕ) (x : Option server.Entry) (t : List Step) → packets.of_mirror (with_entry (option_map (AtServer r) x) t) ≡ packets.of_mirror t
mirror_by_server r None t = refl
mirror_by_server r (Some e) t = refl

mirror_by_client : (x : Option client.Entry) (t : List Step) → packets.of_mirror (with_entry (option_map AtClient x) t) ≡ packets.of_mirror t
mirror_by_client None t = refl
mirror_by_client (Some e) t = refl

pub mirror_hears : (w : Setup) (t : List FrameStep) → packets.of_mirror (trace_heard w t) ≡ of_mirror t
mirror_hears w [] = refl
mirror_hears w (OfServer r c ∷ past) =
    mirror_by_server r (entry_of (at_server r) (heard (at_server r) (of_server r past)) c) (trace_heard w past) ∙ mirror_hears w past
mirror_hears w (OfClient c ∷ past) =
    mirror_by_client (entry_of (at_client w) (heard (at_client w) (of_client w past)) c) (trace_heard w past) ∙ mirror_hears w past
mirror_hears w (OfMirror e ∷ past) = ap (λ l. e ∷ l) (mirror_hears w past)

pub nodes_hear_their_own : NodesHearTheirOwn
nodes_hear_their_own w t = record { servers = λ s. servers_hear w s t; client = client_hears w t; mirror = mirror_hears w t }

-- ---- the frames

-- The packets of a step, if there is one.
pub packets_by : Setup → List Step → Option Step → List PacketParts
packets_by w t None = []
packets_by w t (Some step) = packets_of w t step

pub sent_with : (w : Setup) (x : Option Step) (t : List Step) → sent_packets w (with_entry x t) ≡ sent_packets w t ++ packets_by w t x
unfolding packets_by sent_packets
sent_with w None t = sym (append-nil (sent_packets w t))
sent_with w (Some step) t = refl

by_server : (w : Setup) (s : ℕ) (t : List Step) (list : List server.Entry) (x : Option server.Entry) → packets.of_server s t ≡ list
    → frames_by (servers.packets (opening_of s)) list x ≡ flat_map frames_of (packets_by w t (option_map (AtServer s) x))
unfolding packets_by
by_server w s t list None h = refl
by_server w s t list (Some e) h = ap (λ past. flat_map frames_of (servers.packets (opening_of s) past e)) (sym h)

by_client : (w : Setup) (t : List Step) (list : List client.Entry) (x : Option client.Entry) → packets.of_client w t ≡ list
    → frames_by (clients.packets (client_opening w)) list x ≡ flat_map frames_of (packets_by w t (option_map AtClient x))
unfolding packets_by
by_client w t list None h = refl
by_client w t list (Some e) h = ap (λ past. flat_map frames_of (clients.packets (client_opening w) past e)) (sym h)

step_frames : (w : Setup) (past : List FrameStep) (step : FrameStep)
    → frames_of_step w past step ≡ flat_map frames_of (packets_by w (trace_heard w past) (step_heard w past step))
unfolding packets_by
step_frames w past (OfServer s c) =
    by_server w s (trace_heard w past) (heard (at_server s) (of_server s past)).entries (entry_of (at_server s) (heard (at_server s) (of_server s past)) c)
    (servers_hear w s past)
step_frames w past (OfClient c) =
    by_client w (trace_heard w past) (heard (at_client w) (of_client w past)).entries (entry_of (at_client w) (heard (at_client w) (of_client w past)) c)
    (client_hears w past)
step_frames w past (OfMirror e) = ap (λ l. flat_map frames_of (mirrors.packets mirror_opening l e)) (sym (mirror_hears w past))

sent_more : (w : Setup) (past : List FrameStep) (step : FrameStep) → frames_sent w (step ∷ past) ≡ frames_sent w past ++ frames_of_step w past step
unfolding frames_sent
sent_more w past step = refl

none_sent : (w : Setup) → frames_sent w [] ≡ flat_map frames_of (sent_packets w [])
unfolding frames_sent sent_packets
none_sent w = refl

pub frames_are_of_packets : FramesAreOfPackets
frames_are_of_packets w [] = none_sent w
frames_are_of_packets w (step ∷ past) =
    let t = trace_heard w past in
    let x = step_heard w past step in
    sent_more w past step
    ∙ ap (λ fs. fs ++ frames_of_step w past step) (frames_are_of_packets w past)
    ∙ ap (λ fs. flat_map frames_of (sent_packets w t) ++ fs) (step_frames w past step)
    ∙ sym (flat_map-append frames_of (sent_packets w t) (packets_by w t x))
    ∙ ap (flat_map frames_of) (sym (sent_with w x t))
