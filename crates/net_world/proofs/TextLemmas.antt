-- What the client has sent is in its own list, so a run has one text, and so has an attempt.
use Rattle.std.proofs.Common.{◌≡◌, refl, sym, subst, inl, inr, Bool, true, false, List, [], ◌∷◌}
use Rattle.std.specs.Prelude.{Contains, IsTrue}
use Rattle.std.proofs.lemmas.List.Elements.{Contains-append_left, Contains-append_right}
use Rattle.messages.specs.declared.packet.PacketParts.{PacketParts}
use Rattle.messages.specs.declared.body.Body.{Body}
use Rattle.messages.specs.declared.body.Body.TheVariants as bodies
use Rattle.messages.specs.Bodies.{kind_of}
use Rattle.messages.specs.Kinds.{is_of_server, is_of_mirror}
use Rattle.server_core.specs.Sent.{PacketsGoToClient}
use Rattle.client_core.specs.Packets as clients
use Rattle.client_core.specs.Numbering.{OneTextOfARun, OneTextOfAnAttempt}
use Rattle.mirror_core.specs.Laws.{PacketsGoToTheClient}
use Rattle.net_world.specs.Setup.{Setup}
use Rattle.net_world.specs.Trace.{Step, AtServer, AtClient, AtMirror, opening_of, client_opening}
use Rattle.net_world.specs.Trace.{mirror_opening, of_server, of_client, of_mirror, packets_of, sent_packets}
use Rattle.net_world.specs.Claims.{OfEachTrace}
use Rattle.net_world.specs.Headline.{OneTextOfEachRun, OneTextOfEachAttempt}
use Rattle.net_world.proofs.MirrorLemmas.{sent_by_mirror}
use Rattle.net_world.proofs.TraceLemmas.{keeps_apart, sent_cases, sent_none}

BySelf : Setup → List Step → PacketParts → Type 0
BySelf w t p = Contains (clients.sent_packets (client_opening w) (of_client w t)) p

before : (w : Setup) (step : Step) (past : List Step) (p : PacketParts) → BySelf w past p → BySelf w (step ∷ past) p
unfolding BySelf
before w (AtServer r e) past p h = h
before w (AtMirror e) past p h = h
before w (AtClient e) past p h =
    Contains-append_left (clients.sent_packets (client_opening w) (of_client w past)) (clients.packets (client_opening w) (of_client w past) e) p h

-- No server sends this, nor does the mirror.
IsOfClient : Body → Type 0
IsOfClient b = (is_of_server (kind_of b) ≡ false) × (is_of_mirror (kind_of b) ≡ false)

not_both : (b : Bool) → IsTrue b → b ≡ false → ⊥
not_both true h k = absurd cc
not_both false h k = absurd cc

now : PacketsGoToClient → PacketsGoToTheClient → (w : Setup) (step : Step) (past : List Step) (p : PacketParts) → IsOfClient p.body
    → Contains (packets_of w past step) p → BySelf w (step ∷ past) p
unfolding BySelf IsOfClient
now goes over w (AtServer r e) past p own h = absurd (not_both (is_of_server (kind_of p.body)) (goes (opening_of r) (of_server r past) e p h).kind own.0)
now goes over w (AtClient e) past p own h =
    Contains-append_right (clients.sent_packets (client_opening w) (of_client w past)) (clients.packets (client_opening w) (of_client w past) e) p h
now goes over w (AtMirror e) past p own h =
    absurd (not_both (is_of_mirror (kind_of p.body)) (sent_by_mirror over mirror_opening (of_mirror past) e p h).2 own.1)

-- A packet of a kind that no server and no mirror sends was sent by the client.
client_sent : PacketsGoToClient → PacketsGoToTheClient → (w : Setup) (t : List Step) (p : PacketParts) → IsOfClient p.body → Contains (sent_packets w t) p
    → BySelf w t p
client_sent goes over w [] p own h = absurd (sent_none w p h)
client_sent goes over w (step ∷ past) p own h = elim (sent_cases w step past p h) [
  | inl i ↦ before w step past p (client_sent goes over w past p own i)
  | inr k ↦ now goes over w step past p own k
]

of_kind : (b c : Body) → b ≡ c → IsOfClient c → IsOfClient b
unfolding IsOfClient
of_kind b c is h = subst (λ x. (is_of_server (kind_of x) ≡ false) × (is_of_mirror (kind_of x) ≡ false)) (sym is) h

pub one_text_of_each_run : PacketsGoToClient → PacketsGoToTheClient → OneTextOfARun → OfEachTrace OneTextOfEachRun
unfolding BySelf IsOfClient
one_text_of_each_run goes over law w t trace p q run text other hp ip hq iq =
    law (client_opening w) (of_client w t) p q run text other (keeps_apart w t trace)
    (client_sent goes over w t p (of_kind p.body (bodies.Jobs run text) ip (refl, refl)) hp) ip
    (client_sent goes over w t q (of_kind q.body (bodies.Jobs run other) iq (refl, refl)) hq) iq

pub one_text_of_each_attempt : PacketsGoToClient → PacketsGoToTheClient → OneTextOfAnAttempt → OfEachTrace OneTextOfEachAttempt
unfolding BySelf IsOfClient
one_text_of_each_attempt goes over law w t trace p q attempt run run_there text other hp ip hq iq =
    law (client_opening w) (of_client w t) p q attempt run run_there text other (keeps_apart w t trace)
    (client_sent goes over w t p (of_kind p.body (bodies.Verify run attempt text) ip (refl, refl)) hp) ip
    (client_sent goes over w t q (of_kind q.body (bodies.Verify run_there attempt other) iq (refl, refl)) hq) iq
