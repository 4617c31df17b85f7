-- Traces: what was sent stays sent, what came was sent, and what was taken stays taken.
use Rattle.std.proofs.Common.{◌≡◌, refl, ◌∙◌, ap, subst, ◌⊎◌, inl, inr, ℕ, Bool, true, false, ◌==◌, List, [], ◌∷◌, Option, Some, None}
use Rattle.std.specs.Prelude.{if◌then◌else◌, nat_lt, not, ◌&&◌, ◌++◌, Contains}
use Rattle.std.specs.List.{AllByRecursion}
use Rattle.std.proofs.lemmas.List.Elements.{Contains-append_cases, Contains-append_left}
use Rattle.std.proofs.lemmas.Bool.{eq-eqb}
use Rattle.fc_base.specs.declared.numbers.Key.{Key}
use Rattle.fc_base.specs.Counted.{has}
use Rattle.verify_state.specs.State.{State}
use Rattle.messages.specs.declared.packet.PacketParts.{PacketParts}
use Rattle.messages.specs.declared.body.Body.{Body}
use Rattle.messages.specs.declared.node.Node.{Node}
use Rattle.messages.specs.declared.node.Node.TheVariants.{Server}
use Rattle.messages.specs.Ranges.{is_generation}
use Rattle.server_core.specs.Inputs.{PacketInput}
use Rattle.server_core.specs.declared.input.Input.TheVariants as inputs
use Rattle.server_core.specs.History as server
use Rattle.server_core.specs.History.{Opening}
use Rattle.server_core.specs.Request.{request_of}
use Rattle.server_core.specs.Words.{work}
use Rattle.server_core.specs.Taken.{takes, and_those, takings}
use Rattle.server_core.specs.Heard.{heard_with, heard_packets}
use Rattle.client_core.specs.History as client
use Rattle.client_core.specs.Laws.{loses_nothing}
use Rattle.client_core.specs.Numbering.{generations, is_mirrored, KeepsNumbersApart}
use Rattle.client_core.specs.Ranges.{packet_in, packets_come}
use Rattle.client_core.specs.Words.{words_noted}
use Rattle.mirror_core.specs.Laws as mirror_laws
use Rattle.net_world.specs.Setup.{Setup}
use Rattle.net_world.specs.Trace.{Step, AtServer, AtClient, AtMirror, opening_of, client_opening, first_entry, of_server, of_client}
use Rattle.net_world.specs.Trace.{of_mirror, packets_of, sent_packets, taken_by, node_of, WasSentTo, is_alone, is_with_mirror, IsTrace}
use Rattle.net_world.specs.Holders.{taken_of}
use Rattle.fc_base.proofs.ListLemmas.{none_in, behind_one, each_of}

-- The list of a server behind a step of its own.
pub own_step : (r s : ℕ) (e : server.Entry) (past : List Step) → r ≡ s → of_server s (AtServer r e ∷ past) ≡ e ∷ of_server s past
own_step r s e past h = let t : (r == s) ≡ true = subst (λ x. (r == x) ≡ true) h (eq-eqb r r refl) in rw t refl

-- ---- a client without a mirror, and one with it

when_alone : (b x y : Bool) → b ≡ false → (if b then x else y) ≡ true → y ≡ true
when_alone true x y h k = absurd cc
when_alone false x y h k = k

pub when_with : (b x y : Bool) → b ≡ true → (if b then x else y) ≡ true → x ≡ true
when_with true x y h k = k
when_with false x y h k = absurd cc

both : (a b : Bool) → a ≡ true → b ≡ true → (a && b) ≡ true
both true b h k = k
both false b h k = absurd cc

loses_no_more : (e : client.Entry) (past : List client.Entry) → is_alone e ≡ true → loses_nothing past ≡ true → loses_nothing (e ∷ past) ≡ true
loses_no_more (client.Met c left) past h k = k
loses_no_more client.Cut past h k = k
loses_no_more (client.Restart mirror) past h k = k
loses_no_more (client.Renew g left) past h k = k
loses_no_more client.Lose past h k = cc

-- Without one the note isn't lost.
loses_none : (w : Setup) (t : List Step) → w.mirror ≡ false → IsTrace w t → loses_nothing (of_client w t) ≡ true
loses_none w [] alone trace = rw alone refl
loses_none w (AtServer s e ∷ past) alone trace = loses_none w past alone trace.0
loses_none w (AtClient e ∷ past) alone trace =
    loses_no_more e (of_client w past) (when_alone w.mirror (is_with_mirror (client_opening w) (of_client w past) e) (is_alone e) alone trace.2)
    (loses_none w past alone trace.0)
loses_none w (AtMirror e ∷ past) alone trace = loses_none w past alone trace.0

mirrored_more : (o : client.Opening) (e : client.Entry) (past : List client.Entry) → is_with_mirror o past e ≡ true → is_mirrored o past ≡ true
    → is_mirrored o (e ∷ past) ≡ true
mirrored_more o (client.Met c left) past h k = k
mirrored_more o client.Cut past h k = k
mirrored_more o (client.Restart mirror) past h k = both (mirror && nat_lt 0 (words_noted o past).generation) (is_mirrored o past) h k
mirrored_more o (client.Renew g left) past h k = both (is_generation g && not (has (generations past) g)) (is_mirrored o past) h k
mirrored_more o client.Lose past h k = k

-- With one the client is one with a mirror.
mirrored : (w : Setup) (t : List Step) → w.mirror ≡ true → IsTrace w t → is_mirrored (client_opening w) (of_client w t) ≡ true
mirrored w [] has trace = rw has refl
mirrored w (AtServer s e ∷ past) has trace = mirrored w past has trace.0
mirrored w (AtClient e ∷ past) has trace =
    mirrored_more (client_opening w) e (of_client w past) (when_with w.mirror (is_with_mirror (client_opening w) (of_client w past) e) (is_alone e) has trace.2)
    (mirrored w past has trace.0)
mirrored w (AtMirror e ∷ past) has trace = mirrored w past has trace.0

-- Its numbers stay apart either way.
pub keeps_apart : (w : Setup) (t : List Step) → IsTrace w t → KeepsNumbersApart (client_opening w) (of_client w t)
keeps_apart w t trace = by w.mirror refl
  where
    by : (b : Bool) → w.mirror ≡ b → KeepsNumbersApart (client_opening w) (of_client w t)
    by true e = inr (mirrored w t e trace)
    by false e = inl (loses_none w t e trace)

-- ---- a packet is its parts

make_packet : Node → Node → Body → PacketParts
make_packet from to body = record { from = from; to = to; body = body }

pub same_packet : (p q : PacketParts) → p.from ≡ q.from → p.to ≡ q.to → p.body ≡ q.body → p ≡ q
unfolding make_packet
same_packet p q a b c = ap (λ x. make_packet x p.to p.body) a ∙ ap (λ x. make_packet q.from x p.body) b ∙ ap (λ x. make_packet q.from q.to x) c

-- ---- what was taken stays taken

among : (x : Option State) (states : List State) (state : State) → Contains states state → Contains (and_those x states) state
among None states state h = h
among (Some y) states state h = behind_one y states state h

taking_stays : (o : Opening) (run j : ℕ) (e : server.Entry) (past : List server.Entry) (state : State) → Contains (takings o run j past) state
    → Contains (takings o run j (e ∷ past)) state
taking_stays o run j (server.Met e left) past state h = among (takes run j (request_of o.me e) (work o past)) (takings o run j past) state h
taking_stays o run j server.Cut past state h = h
taking_stays o run j (server.Restart left) past state h = h

stays_if : (key : Key) (t : Bool) (e : server.Entry) (past : List Step) (state : State) → Contains (taken_of key past) state
    → Contains (takings (opening_of key.server) key.run key.job (if t then e ∷ of_server key.server past else of_server key.server past)) state
stays_if key true e past state h = taking_stays (opening_of key.server) key.run key.job e (of_server key.server past) state h
stays_if key false e past state h = h

pub taken_stays : (key : Key) (step : Step) (past : List Step) (state : State) → Contains (taken_of key past) state
    → Contains (taken_of key (step ∷ past)) state
taken_stays key (AtServer r e) past state h = stays_if key (r == key.server) e past state h
taken_stays key (AtClient e) past state h = h
taken_stays key (AtMirror e) past state h = h

pub taken_stays_so : (key : Key) (later past : List Step) (state : State) → Contains (taken_of key past) state → Contains (taken_of key (later ++ past)) state
taken_stays_so key [] past state h = h
taken_stays_so key (step ∷ later) past state h = taken_stays key step (later ++ past) state (taken_stays_so key later past state h)

-- ---- each front of a trace is one

pub front_is_trace : (w : Setup) (later t : List Step) → IsTrace w (later ++ t) → IsTrace w t
front_is_trace w [] t h = h
front_is_trace w (step ∷ later) t h = front_is_trace w later t h.0

-- ---- what was sent stays sent

pub sent_cases : (w : Setup) (step : Step) (past : List Step) (p : PacketParts) → Contains (sent_packets w (step ∷ past)) p
    → Contains (sent_packets w past) p ⊎ Contains (packets_of w past step) p
unfolding sent_packets
sent_cases w step past p h = Contains-append_cases (sent_packets w past) (packets_of w past step) p h

pub sent_stays : (w : Setup) (step : Step) (past : List Step) (p : PacketParts) → Contains (sent_packets w past) p → Contains (sent_packets w (step ∷ past)) p
unfolding sent_packets
sent_stays w step past p h = Contains-append_left (sent_packets w past) (packets_of w past step) p h

pub sent_none : (w : Setup) (p : PacketParts) → Contains (sent_packets w []) p → ⊥
unfolding sent_packets
sent_none w p h = none_in p h

-- ---- what came was sent

-- What a step of a trace takes was sent before.
pub taken_was_sent : (w : Setup) (step : Step) (past : List Step) (p : PacketParts)
    → AllByRecursion (WasSentTo (sent_packets w past) (node_of step)) (taken_by step) → Contains (taken_by step) p → Contains (sent_packets w past) p
taken_was_sent w step past p h c = (each_of (WasSentTo (sent_packets w past) (node_of step)) (taken_by step) p h c).0

none_came : (b : Bool) (p : PacketParts) → Contains (packets_come (first_entry b ∷ [])) p → ⊥
none_came true p h = none_in p h
none_came false p h = none_in p h

-- All that came to the client.
pub came_was_sent : (w : Setup) (t : List Step) (p : PacketParts) → IsTrace w t → Contains (packets_come (of_client w t)) p → Contains (sent_packets w t) p
came_was_sent w [] p h c = absurd (none_came w.mirror p c)
came_was_sent w (AtServer r e ∷ past) p h c = sent_stays w (AtServer r e) past p (came_was_sent w past p h.0 c)
came_was_sent w (AtClient e ∷ past) p h c =
    sent_stays w (AtClient e) past p (elim (Contains-append_cases (packet_in e) (packets_come (of_client w past)) p c) [
      | inl now ↦ taken_was_sent w (AtClient e) past p h.1 now
      | inr before ↦ came_was_sent w past p h.0 before
    ])
came_was_sent w (AtMirror e ∷ past) p h c = sent_stays w (AtMirror e) past p (came_was_sent w past p h.0 c)

-- All that came to the mirror.
pub copied_was_sent : (w : Setup) (t : List Step) (p : PacketParts) → IsTrace w t → Contains (mirror_laws.packets_come (of_mirror t)) p
    → Contains (sent_packets w t) p
copied_was_sent w [] p h c = absurd (none_in p c)
copied_was_sent w (AtServer r e ∷ past) p h c = sent_stays w (AtServer r e) past p (copied_was_sent w past p h.0 c)
copied_was_sent w (AtClient e ∷ past) p h c = sent_stays w (AtClient e) past p (copied_was_sent w past p h.0 c)
copied_was_sent w (AtMirror e ∷ past) p h c =
    sent_stays w (AtMirror e) past p (elim (Contains-append_cases (mirror_laws.packet_in e) (mirror_laws.packets_come (of_mirror past)) p c) [
      | inl now ↦ taken_was_sent w (AtMirror e) past p h.1 now
      | inr before ↦ copied_was_sent w past p h.0 before
    ])

-- An entry of a server brings a packet, or it came before.
heard_by : (e : PacketInput) (older : List PacketParts) (p : PacketParts) → Contains (heard_with e older) p → Contains (heard_with e []) p ⊎ Contains older p
heard_by (inputs.Deliver q) older p h = Contains-append_cases (q ∷ []) older p h
heard_by (inputs.Issue j) older p h = inr h
heard_by (inputs.WriteDone ticket end) older p h = inr h
heard_by (inputs.CheckDone boot a j report) older p h = inr h

heard_now : (e : server.Entry) (past : List server.Entry) (p : PacketParts) → Contains (heard_packets (e ∷ past)) p
    → Contains (heard_packets (e ∷ [])) p ⊎ Contains (heard_packets past) p
heard_now (server.Met e left) past p h = heard_by e (heard_packets past) p h
heard_now server.Cut past p h = absurd (none_in p h)
heard_now (server.Restart left) past p h = absurd (none_in p h)

heard_if : (w : Setup) (r s : ℕ) (t : Bool) (e : server.Entry) (past : List Step) (p : PacketParts)
    → AllByRecursion (WasSentTo (sent_packets w past) (Server r)) (heard_packets (e ∷ []))
    → (Contains (heard_packets (of_server s past)) p → Contains (sent_packets w past) p)
    → Contains (heard_packets (if t then e ∷ of_server s past else of_server s past)) p → Contains (sent_packets w past) p
heard_if w r s false e past p was before h = before h
heard_if w r s true e past p was before h =
    elim (heard_now e (of_server s past) p h) [ inl now ↦ taken_was_sent w (AtServer r e) past p was now | inr i ↦ before i ]

-- All that came to a server in this life.
pub heard_was_sent : (w : Setup) (s : ℕ) (t : List Step) (p : PacketParts) → IsTrace w t → Contains (heard_packets (of_server s t)) p
    → Contains (sent_packets w t) p
heard_was_sent w s [] p trace h = absurd (none_in p h)
heard_was_sent w s (AtServer r e ∷ past) p trace h =
    sent_stays w (AtServer r e) past p (heard_if w r s (r == s) e past p trace.1 (heard_was_sent w s past p trace.0) h)
heard_was_sent w s (AtClient e ∷ past) p trace h = sent_stays w (AtClient e) past p (heard_was_sent w s past p trace.0 h)
heard_was_sent w s (AtMirror e ∷ past) p trace h = sent_stays w (AtMirror e) past p (heard_was_sent w s past p trace.0 h)
