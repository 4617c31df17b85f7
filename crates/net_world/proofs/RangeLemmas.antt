-- What is sent in a trace is within the ranges of packets.
use Rattle.std.proofs.Common.{refl, inl, inr, ℕ, ◌≤◌, arith, Bool, true, false, ◌==◌, List, [], ◌∷◌, ◌++◌}
use Rattle.std.specs.Prelude.{if◌then◌else◌}
use Rattle.std.specs.List.{AllByRecursion}
use Rattle.std.proofs.lemmas.List.Elements.{Contains-append_cases, Contains-append_left}
use Rattle.fc_base.specs.declared.limits.TheConstants.{MAX_SERVERS}
use Rattle.messages.specs.declared.packet.PacketParts.{PacketParts}
use Rattle.messages.specs.declared.frame.Frame.TheVariants.{Whole, Piece}
use Rattle.messages.specs.Laws.{IsPacket}
use Rattle.messages.specs.PieceLaws.{ArePackets}
use Rattle.disk_model.specs.declared.save_outcome.SaveOutcome.{SaveOutcome}
use Rattle.fc_base.proofs.ListLemmas.{none_in, each_of}
use Rattle.server_core.specs.Inputs.{PacketInput as ServerInput}
use Rattle.server_core.specs.declared.input.Input.TheVariants as server_inputs
use Rattle.server_core.specs.History as history
use Rattle.server_core.specs.Ranges as ranges
use Rattle.server_core.specs.Laws as servers
use Rattle.client_core.specs.Inputs.{PacketInput as ClientInput}
use Rattle.client_core.specs.Inputs as client_inputs
use Rattle.client_core.specs.History as entry
use Rattle.client_core.specs.Note.{IsNoted, blank}
use Rattle.client_core.specs.Ranges.{packet_in, packets_come}
use Rattle.client_core.specs.Laws as clients
use Rattle.mirror_core.specs.History as mirror
use Rattle.mirror_core.specs.Note as mirror_note
use Rattle.mirror_core.specs.Laws as mirrors
use Rattle.net_world.specs.Setup.{Setup}
use Rattle.net_world.specs.Trace.{Step, AtServer, AtClient, AtMirror, IsTrace, WasSentTo, taken_by, node_of, sent_packets, packets_of}
use Rattle.net_world.specs.Trace.{of_server, of_client, of_mirror, opening_of, client_opening, mirror_opening, first_entry}
use Rattle.net_world.specs.InRange.{ReportFits, EntryFits, StepFits, SentAreInRange}

AllSent : List PacketParts → Step → Type 0
AllSent ps step = AllByRecursion (WasSentTo ps (node_of step)) (taken_by step)

both : (xs ys : List PacketParts) → ArePackets xs → ArePackets ys → ArePackets (xs ++ ys)
both xs ys a b p i = elim (Contains-append_cases xs ys p i) [ inl j ↦ a p j | inr j ↦ b p j ]

event_in : (ps : List PacketParts) (s : ℕ) (e : ServerInput) (left : SaveOutcome) → ArePackets ps → AllSent ps (AtServer s (history.Met e left)) → ReportFits e
    → ranges.IsInRange e
unfolding AllSent
event_in ps s (server_inputs.Deliver p) left are w r = are p w.0.0
event_in ps s (server_inputs.Issue j) left are w r = tt
event_in ps s (server_inputs.WriteDone ticket end) left are w r = tt
event_in ps s (server_inputs.CheckDone boot a j report) left are w r = r

more_in : (ps : List PacketParts) (s : ℕ) (e : history.Entry) (past : List history.Entry) → ArePackets ps → AllSent ps (AtServer s e) → EntryFits e
    → ranges.CameInRange past → ranges.CameInRange (e ∷ past)
more_in ps s (history.Met e left) past are w r h = (event_in ps s e left are w r, h)
more_in ps s history.Cut past are w r h = h
more_in ps s (history.Restart left) past are w r h = h

if_its : (b : Bool) (xs ys : List history.Entry) → ranges.CameInRange xs → ranges.CameInRange ys → ranges.CameInRange (if b then xs else ys)
if_its true xs ys h k = h
if_its false xs ys h k = k

-- All that was sent before a step is sent after it.
before : (w : Setup) (step : Step) (past : List Step) → ArePackets (sent_packets w (step ∷ past)) → ArePackets (sent_packets w past)
unfolding sent_packets
before w step past are p i = are p (Contains-append_left (sent_packets w past) (packets_of w past step) p i)

came_to : (w : Setup) (s : ℕ) (t : List Step) → IsTrace w t → AllByRecursion StepFits t → ArePackets (sent_packets w t) → ranges.CameInRange (of_server s t)
unfolding AllSent
came_to w s [] h f are = tt
came_to w s (AtServer r e ∷ past) h f are =
    let a = before w (AtServer r e) past are in
    let k = came_to w s past h.0 f.1 a in
    if_its (r == s) (e ∷ of_server s past) (of_server s past) (more_in (sent_packets w past) r e (of_server s past) a h.1 f.0.1 k) k
came_to w s (AtClient e ∷ past) h f are = came_to w s past h.0 f.1 (before w (AtClient e) past are)
came_to w s (AtMirror e ∷ past) h f are = came_to w s past h.0 f.1 (before w (AtMirror e) past are)

call_in : (ps : List PacketParts) (c : ClientInput) (left : SaveOutcome) (older : List PacketParts) → ArePackets ps → AllSent ps (AtClient (entry.Met c left))
    → AllByRecursion IsPacket older → AllByRecursion IsPacket (packet_in (entry.Met c left) ++ older)
unfolding AllSent
call_in ps (client_inputs.Deliver p) left older are w h = (are p w.0.0, h)
call_in ps (client_inputs.Begin text) left older are w h = h
call_in ps (client_inputs.Trigger run act) left older are w h = h
call_in ps (client_inputs.Stop run) left older are w h = h
call_in ps (client_inputs.Verify run text) left older are w h = h
call_in ps client_inputs.Tick left older are w h = h

more_heard : (ps : List PacketParts) (e : entry.Entry) (past : List entry.Entry) → ArePackets ps → AllSent ps (AtClient e)
    → AllByRecursion IsPacket (packets_come past) → AllByRecursion IsPacket (packets_come (e ∷ past))
more_heard ps (entry.Met c left) past are w h = call_in ps c left (packets_come past) are w h
more_heard ps entry.Cut past are w h = h
more_heard ps (entry.Restart mirror) past are w h = h
more_heard ps (entry.Renew g left) past are w h = h
more_heard ps entry.Lose past are w h = h

first_brings_none : (b : Bool) → AllByRecursion IsPacket (packets_come (first_entry b ∷ []))
first_brings_none true = tt
first_brings_none false = tt

came_back : (w : Setup) (t : List Step) → IsTrace w t → ArePackets (sent_packets w t) → AllByRecursion IsPacket (packets_come (of_client w t))
unfolding AllSent
came_back w [] h are = first_brings_none w.mirror
came_back w (AtServer r e ∷ past) h are = came_back w past h.0 (before w (AtServer r e) past are)
came_back w (AtClient e ∷ past) h are =
    let a = before w (AtClient e) past are in
    more_heard (sent_packets w past) e (of_client w past) a h.1 (came_back w past h.0 a)
came_back w (AtMirror e ∷ past) h are = came_back w past h.0 (before w (AtMirror e) past are)

more_copied : (ps : List PacketParts) (e : mirror.Entry) (past : List mirror.Entry) → ArePackets ps → AllSent ps (AtMirror e) → mirrors.CameInRange past
    → mirrors.CameInRange (e ∷ past)
unfolding AllSent
more_copied ps (mirror.Met (Whole p) left) past are w h = (are p w.0.0, h)
more_copied ps (mirror.Met (Piece q) left) past are w h = h
more_copied ps mirror.Cut past are w h = h
more_copied ps mirror.Restart past are w h = h

came_over : (w : Setup) (t : List Step) → IsTrace w t → ArePackets (sent_packets w t) → mirrors.CameInRange (of_mirror t)
unfolding AllSent
came_over w [] h are = tt
came_over w (AtServer r e ∷ past) h are = came_over w past h.0 (before w (AtServer r e) past are)
came_over w (AtClient e ∷ past) h are = came_over w past h.0 (before w (AtClient e) past are)
came_over w (AtMirror e ∷ past) h are =
    let a = before w (AtMirror e) past are in
    more_copied (sent_packets w past) e (of_mirror past) a h.1 (came_over w past h.0 a)

mirror_blank : mirror_note.IsNoted mirror_note.blank
mirror_blank = record { generation = omega arith; count = omega arith; states = tt; keys = refl }

blank_noted : IsNoted blank
blank_noted = record { generation = omega arith; runs = omega arith; attempts = omega arith; count = omega arith; states = tt; keys = refl }

each : (ps : List PacketParts) → AllByRecursion IsPacket ps → ArePackets ps
each ps h p i = each_of IsPacket ps p h i

step_in : servers.PacketsAreInRange → clients.PacketsAreInRange → mirrors.PacketsAreInRange → (w : Setup) (step : Step) (past : List Step)
    → w.servers ≤ MAX_SERVERS → IsTrace w (step ∷ past) → AllByRecursion StepFits (step ∷ past) → ArePackets (sent_packets w past)
    → ArePackets (packets_of w past step)
unfolding AllSent
step_in by_server by_client by_mirror w (AtServer s e) past l h f are =
    each _ (by_server (opening_of s) (of_server s past) e (record { me = f.0.0; last = omega arith })
    (more_in (sent_packets w past) s e (of_server s past) are h.1 f.0.1 (came_to w s past h.0 f.1 are)))
step_in by_server by_client by_mirror w (AtClient e) past l h f are =
    each _ (by_client (client_opening w) (of_client w past) e (record { servers = l; note = blank_noted })
    (more_heard (sent_packets w past) e (of_client w past) are h.1 (came_back w past h.0 are)))
step_in by_server by_client by_mirror w (AtMirror e) past l h f are =
    each _ (by_mirror mirror_opening (of_mirror past) e mirror_blank (more_copied (sent_packets w past) e (of_mirror past) are h.1 (came_over w past h.0 are)))

none_sent : (w : Setup) → ArePackets (sent_packets w [])
unfolding sent_packets
none_sent w p i = absurd (none_in p i)

one_step : (w : Setup) (step : Step) (past : List Step) → ArePackets (sent_packets w past) → ArePackets (packets_of w past step)
    → ArePackets (sent_packets w (step ∷ past))
unfolding sent_packets
one_step w step past a b = both (sent_packets w past) (packets_of w past step) a b

pub sent_are_in_range : servers.PacketsAreInRange → clients.PacketsAreInRange → mirrors.PacketsAreInRange → SentAreInRange
sent_are_in_range by_server by_client by_mirror w [] h f = none_sent w
sent_are_in_range by_server by_client by_mirror w (step ∷ past) h f =
    let are = sent_are_in_range by_server by_client by_mirror w past h.0 (record { few = f.few; steps = f.steps.1 }) in
    one_step w step past are (step_in by_server by_client by_mirror w step past f.few h f.steps are)
