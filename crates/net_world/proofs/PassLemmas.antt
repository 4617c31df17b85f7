-- The passes of a verify state: it is sent as it was taken; what is kept, copied and sent back was sent so;
-- and it is checked with as it was sent back.
use Rattle.std.proofs.Common.{◌≡◌, ◌⊎◌, refl, sym, ◌∙◌, ap, subst, inl, inr, ℕ, Bool, true, false, List, [], ◌∷◌, Some}
use Rattle.std.specs.Prelude.{Contains, IsTrue}
use Rattle.fc_base.specs.declared.numbers.Key.{Key}
use Rattle.verify_state.specs.State.{State}
use Rattle.verify_state.specs.TableLaws.{FoundHasItsKey}
use Rattle.messages.specs.declared.packet.PacketParts.{PacketParts}
use Rattle.messages.specs.declared.body.Body.{Body}
use Rattle.messages.specs.declared.body.Body.TheVariants as bodies
use Rattle.messages.specs.declared.node.Node.TheVariants.{Server, Client}
use Rattle.messages.specs.Bodies.{kind_of}
use Rattle.messages.specs.Kinds.{is_of_server, is_of_mirror}
use Rattle.server_core.specs.History as server
use Rattle.server_core.specs.History.{Opening}
use Rattle.server_core.specs.Words.{last_run}
use Rattle.server_core.specs.Taken.{takings}
use Rattle.server_core.specs.Answers as servers
use Rattle.server_core.specs.Laws as served
use Rattle.server_core.specs.Sent.{PacketsGoToClient}
use Rattle.client_core.specs.History as client
use Rattle.client_core.specs.Note.{blank}
use Rattle.client_core.specs.Words.{kept_state, words_noted}
use Rattle.client_core.specs.Packets as clients
use Rattle.client_core.specs.Laws as asked
use Rattle.client_core.specs.Laws.{from_server, from_mirror, is_for_mirror, is_for_server}
use Rattle.client_core.specs.Ranges.{packets_come}
use Rattle.mirror_core.specs.declared.note.MirrorNote.{MirrorNote}
use Rattle.mirror_core.specs.History as mirror
use Rattle.mirror_core.specs.Packets as mirrors
use Rattle.mirror_core.specs.Laws as mirror_laws
use Rattle.net_world.specs.Setup.{Setup}
use Rattle.net_world.specs.Trace.{Step, AtServer, AtClient, AtMirror, IsTrace, opening_of, client_opening}
use Rattle.net_world.specs.Trace.{mirror_opening, of_server, of_client, of_mirror, packets_of, sent_packets}
use Rattle.net_world.specs.Holders.{taken_of, carried_state}
use Rattle.net_world.specs.Passes.{SentStatesWereTaken, WasSent, CarriedStatesWereSent, KeptStatesWereSent}
use Rattle.net_world.specs.Passes.{CopiedStatesWereSent, SavedStatesWereKept, WasKept, CheckedStatesWereSent}
use Rattle.net_world.specs.Claims.{OfEachList, OfEachTrace}
use Rattle.net_world.proofs.ListLemmas.{found_in}
use Rattle.net_world.proofs.MirrorLemmas.{sent_by_mirror, mirror_copies}
use Rattle.net_world.proofs.TraceLemmas.{own_step, taken_stays, sent_cases, sent_none, sent_stays, taken_was_sent}
use Rattle.net_world.proofs.TraceLemmas.{came_was_sent, copied_was_sent, heard_was_sent, same_packet}
use Rattle.fc_base.proofs.ListLemmas.{none_in, first_of}

-- ---- what is sent in a State was taken

taken_at_key : (o : Opening) (r j : ℕ) (past : List server.Entry) (state : State) → state.key ≡ record { run = r; server = o.me; job = j }
    → takings o r j past ≡ state ∷ []
    → (state.key.server ≡ o.me) × Contains (takings o state.key.run state.key.job past) state
taken_at_key o r j past state key one =
    let run : state.key.run ≡ r = ap (λ (k : Key). k.run) key in
    let job : state.key.job ≡ j = ap (λ (k : Key). k.job) key in
    let here : takings o state.key.run state.key.job past ≡ state ∷ [] =
    ap (λ n. takings o n state.key.job past) run ∙ ap (λ n. takings o r n past) job ∙ one in
    (ap (λ (k : Key). k.server) key, subst (λ l. Contains l state) (sym here) (first_of state []))

sends_taken : served.SendsTheTaken → (o : Opening) (past : List server.Entry) (e : server.Entry) (p : PacketParts) (jobs : ℕ) (state : State)
    → Contains (servers.packets o past e) p → p.body ≡ bodies.State jobs state
    → (state.key.server ≡ o.me) × Contains (takings o state.key.run state.key.job (e ∷ past)) state
sends_taken s o past e p jobs state h is =
    let k = s o past e p jobs state h is in
    taken_at_key o (last_run o (e ∷ past)) k.0 (e ∷ past) state (k.1).key (k.1).one

-- The client sends no State.
pub no_state : asked.PacketsGoToPeers → (o : client.Opening) (past : List client.Entry) (e : client.Entry) (p : PacketParts) (jobs : ℕ) (state : State)
    → Contains (clients.packets o past e) p → p.body ≡ bodies.State jobs state → ⊥
no_state goes o past e p jobs state h is = elim (goes o past e p h) [
  | inl k ↦ (let kind : IsTrue (is_for_server (kind_of (bodies.State jobs state))) = subst (λ (b : Body). IsTrue (is_for_server (kind_of b))) is k.3 in
      absurd cc)
  | inr k ↦ (let kind : IsTrue (is_for_mirror (kind_of (bodies.State jobs state))) = subst (λ (b : Body). IsTrue (is_for_mirror (kind_of b))) is k.2 in
      absurd cc)
]

-- Nor does the mirror, or a Saved.
pub not_of_mirror : mirror_laws.PacketsGoToTheClient → (o : MirrorNote) (past : List mirror.Entry) (e : mirror.Entry) (p : PacketParts) (b : Body)
    → Contains (mirrors.packets o past e) p → p.body ≡ b → is_of_mirror (kind_of b) ≡ false → ⊥
not_of_mirror goes o past e p b h is none =
    clash (is_of_mirror (kind_of b)) (subst (λ (x : Body). is_of_mirror (kind_of x) ≡ true) is (sent_by_mirror goes o past e p h).2) none
  where
    clash : (t : Bool) → t ≡ true → t ≡ false → ⊥
    clash true h g = absurd cc
    clash false h g = absurd cc

sent_now : served.SendsTheTaken → asked.PacketsGoToPeers → mirror_laws.PacketsGoToTheClient
    → (w : Setup) (step : Step) (past : List Step) (p : PacketParts) (jobs : ℕ) (state : State) → Contains (packets_of w past step) p
    → p.body ≡ bodies.State jobs state → Contains (taken_of state.key (step ∷ past)) state
sent_now s goes over w (AtServer r e) past p jobs state h is =
    let k = sends_taken s (opening_of r) (of_server r past) e p jobs state h is in
    let here : r ≡ state.key.server = sym k.0 in
    rw (own_step r state.key.server e past here)
    (subst (λ m. Contains (takings (opening_of m) state.key.run state.key.job (e ∷ of_server m past)) state) here k.1)
sent_now s goes over w (AtClient e) past p jobs state h is = absurd (no_state goes (client_opening w) (of_client w past) e p jobs state h is)
sent_now s goes over w (AtMirror e) past p jobs state h is = absurd (not_of_mirror over mirror_opening (of_mirror past) e p (bodies.State jobs state) h is refl)

pub sent_states_were_taken : served.SendsTheTaken → asked.PacketsGoToPeers → mirror_laws.PacketsGoToTheClient → OfEachList SentStatesWereTaken
sent_states_were_taken s goes over w [] p jobs state h is = absurd (sent_none w p h)
sent_states_were_taken s goes over w (step ∷ past) p jobs state h is =
    elim (sent_cases w step past p h) [
      | inl before ↦ taken_stays state.key step past state (sent_states_were_taken s goes over w past p jobs state before is)
      | inr now ↦ sent_now s goes over w step past p jobs state now is
    ]

-- ---- a State that was sent went to the client, from the server that its key names

-- The laws of the nodes on which this rests.
pub record Going : Type 0 where
  pub sends : served.SendsTheTaken
  pub to_client : PacketsGoToClient
  pub to_peers : asked.PacketsGoToPeers
  pub over : mirror_laws.PacketsGoToTheClient

ends_now : Going → (w : Setup) (step : Step) (past : List Step) (p : PacketParts) (jobs : ℕ) (a : State) → Contains (packets_of w past step) p
    → p.body ≡ bodies.State jobs a → (p.from ≡ Server a.key.server) × (p.to ≡ Client)
ends_now laws w (AtServer r e) past p jobs a h is =
    let k = laws.to_client (opening_of r) (of_server r past) e p h in
    let t = laws.sends (opening_of r) (of_server r past) e p jobs a h is in
    let server : a.key.server ≡ r = ap (λ (i : Key). i.server) (t.1).key in
    (ap (λ (q : PacketParts). q.from) k.ends ∙ ap Server (sym server), ap (λ (q : PacketParts). q.to) k.ends)
ends_now laws w (AtClient e) past p jobs a h is = absurd (no_state laws.to_peers (client_opening w) (of_client w past) e p jobs a h is)
ends_now laws w (AtMirror e) past p jobs a h is = absurd (not_of_mirror laws.over mirror_opening (of_mirror past) e p (bodies.State jobs a) h is refl)

pub ends_of : Going → (w : Setup) (t : List Step) (p : PacketParts) (jobs : ℕ) (a : State) → Contains (sent_packets w t) p → p.body ≡ bodies.State jobs a
    → (p.from ≡ Server a.key.server) × (p.to ≡ Client)
ends_of laws w [] p jobs a h is = absurd (sent_none w p h)
ends_of laws w (step ∷ past) p jobs a h is = elim (sent_cases w step past p h) [
  | inl before ↦ ends_of laws w past p jobs a before is
  | inr now ↦ ends_now laws w step past p jobs a now is
]

state_was_sent : Going → (w : Setup) (t : List Step) (p : PacketParts) (jobs : ℕ) (a : State) → Contains (sent_packets w t) p → p.body ≡ bodies.State jobs a
    → WasSent w t a
state_was_sent laws w t p jobs a h is =
    let ends = ends_of laws w t p jobs a h is in
    (jobs, subst (Contains (sent_packets w t)) (same_packet p (from_server (bodies.State jobs a) a.key.server) ends.0 ends.1 is) h)

-- ---- what is noted or carried was sent in a State

-- The laws of the nodes on which this rests.
pub record Carrying : Type 0 where
  pub going : Going
  pub notes : asked.NotedWasSent
  pub saved : asked.SavedIsKept
  pub copies : asked.CopiesAreOfStates
  pub mirror_notes : mirror_laws.NotedWasSent
  pub mirror_copies : mirror_laws.CopiesAreNoted

-- So it is with what the client has noted, where it is so with what packets carry.
kept_from : Carrying → (w : Setup) (t : List Step) → IsTrace w t → CarriedStatesWereSent w t → KeptStatesWereSent w t
kept_from laws w t trace carry state h = by (laws.notes (client_opening w) (of_client w t) state h)
  where
    by : Contains blank.kept state ⊎ (((jobs : ℕ) × Contains (packets_come (of_client w t)) (from_server (bodies.State jobs state) state.key.server))
        ⊎ Contains (packets_come (of_client w t)) (from_mirror (bodies.Copy state))) → WasSent w t state
    by (inl opening) = absurd (none_in state opening)
    by (inr (inl in_state)) = (in_state.0, came_was_sent w t _ trace in_state.1)
    by (inr (inr copy)) = carry (from_mirror (bodies.Copy state)) state (came_was_sent w t _ trace copy) refl

-- And with what the mirror has.
copied_from : Carrying → (w : Setup) (t : List Step) → IsTrace w t → CarriedStatesWereSent w t → CopiedStatesWereSent w t
copied_from laws w t trace carry state h = by (laws.mirror_notes mirror_opening (of_mirror t) state h)
  where
    by : Contains mirror_opening.kept state ⊎ Contains (mirror_laws.packets_come (of_mirror t)) (mirror_laws.from_client state) → WasSent w t state
    by (inl opening) = absurd (none_in state opening)
    by (inr copy) = carry (mirror_laws.from_client state) state (copied_was_sent w t _ trace copy) refl

was_sent_stays : (w : Setup) (step : Step) (past : List Step) (state : State) → WasSent w past state → WasSent w (step ∷ past) state
was_sent_stays w step past state h = (h.0, sent_stays w step past (from_server (bodies.State h.0 state) state.key.server) h.1)

-- A server sends no Saved, and no Copy.
not_of_server : PacketsGoToClient → (o : Opening) (past : List server.Entry) (e : server.Entry) (p : PacketParts) (b : Body)
    → Contains (servers.packets o past e) p → p.body ≡ b → is_of_server (kind_of b) ≡ false → ⊥
not_of_server goes o past e p b h is none =
    clash (is_of_server (kind_of b)) (subst (λ (x : Body). IsTrue (is_of_server (kind_of x))) is (goes o past e p h).kind) none
  where
    clash : (t : Bool) → IsTrue t → t ≡ false → ⊥
    clash true h g = absurd cc
    clash false h g = absurd cc

saved_now : Carrying → (w : Setup) (step : Step) (past : List Step) (p : PacketParts) (attempt : ℕ) (state : State) → IsTrace w past
    → CarriedStatesWereSent w past → Contains (packets_of w past step) p → p.body ≡ bodies.Saved attempt state → WasSent w past state
saved_now laws w (AtServer r e) past p attempt state trace carry h is =
    absurd (not_of_server laws.going.to_client (opening_of r) (of_server r past) e p (bodies.Saved attempt state) h is refl)
saved_now laws w (AtClient e) past p attempt state trace carry h is =
    kept_from laws w past trace carry state (found_in state.key (words_noted (client_opening w) (of_client w past)).kept state
    (laws.saved (client_opening w) (of_client w past) e p attempt state h is))
saved_now laws w (AtMirror e) past p attempt state trace carry h is =
    absurd (not_of_mirror laws.going.over mirror_opening (of_mirror past) e p (bodies.Saved attempt state) h is refl)

copy_now : Carrying → (w : Setup) (step : Step) (past : List Step) (p : PacketParts) (state : State) → IsTrace w (step ∷ past) → CarriedStatesWereSent w past
    → Contains (packets_of w past step) p → p.body ≡ bodies.Copy state → WasSent w past state
copy_now laws w (AtServer r e) past p state trace carry h is =
    absurd (not_of_server laws.going.to_client (opening_of r) (of_server r past) e p (bodies.Copy state) h is refl)
copy_now laws w (AtClient e) past p state trace carry h is = elim (laws.copies (client_opening w) (of_client w past) e p state h is) [
  | inl i ↦ kept_from laws w past trace.0 carry state i
  | inr k ↦ state_was_sent laws.going w past (from_server (bodies.State k.1 state) k.0) k.1 state
      (taken_was_sent w (AtClient e) past (from_server (bodies.State k.1 state) k.0) trace.1 k.2) refl
]
copy_now laws w (AtMirror e) past p state trace carry h is =
    copied_from laws w past trace.0 carry state (mirror_copies laws.going.over laws.mirror_copies mirror_opening (of_mirror past) e p state h is)

same_state : (x state : State) → Some x ≡ Some state → x ≡ state
same_state x state h = cc

-- What a packet carries that is sent now was sent in a State.
carried_now : Carrying → (w : Setup) (step : Step) (past : List Step) (p : PacketParts) (state : State) (b : Body) → p.body ≡ b → IsTrace w (step ∷ past)
    → CarriedStatesWereSent w past
    → Contains (sent_packets w (step ∷ past)) p → Contains (packets_of w past step) p → carried_state b ≡ Some state → WasSent w (step ∷ past) state
carried_now laws w step past p state (bodies.State jobs x) is trace carry all h c =
    state_was_sent laws.going w (step ∷ past) p jobs state all (is ∙ ap (bodies.State jobs) (same_state x state c))
carried_now laws w step past p state (bodies.Saved attempt x) is trace carry all h c =
    was_sent_stays w step past state (saved_now laws w step past p attempt state trace.0 carry h (is ∙ ap (bodies.Saved attempt) (same_state x state c)))
carried_now laws w step past p state (bodies.Copy x) is trace carry all h c =
    was_sent_stays w step past state (copy_now laws w step past p state trace carry h (is ∙ ap bodies.Copy (same_state x state c)))
carried_now laws w step past p state _ is trace carry all h c = absurd cc

pub carried_states_were_sent : Carrying → OfEachTrace CarriedStatesWereSent
carried_states_were_sent laws w [] trace p state h c = absurd (sent_none w p h)
carried_states_were_sent laws w (step ∷ past) trace p state h c =
    let carry = carried_states_were_sent laws w past trace.0 in
    elim (sent_cases w step past p h) [
      | inl before ↦ was_sent_stays w step past state (carry p state before c)
      | inr now ↦ carried_now laws w step past p state p.body refl trace carry h now c
    ]

pub kept_states_were_sent : Carrying → OfEachTrace KeptStatesWereSent
kept_states_were_sent laws w t trace = kept_from laws w t trace (carried_states_were_sent laws w t trace)

pub copied_states_were_sent : Carrying → OfEachTrace CopiedStatesWereSent
copied_states_were_sent laws w t trace = copied_from laws w t trace (carried_states_were_sent laws w t trace)

-- ---- so it was taken

-- What was sent in a State was taken.
pub was_taken : OfEachList SentStatesWereTaken → (w : Setup) (t : List Step) (key : Key) (state : State) → state.key ≡ key → WasSent w t state
    → Contains (taken_of key t) state
was_taken taken w t key state is h =
    subst (λ i. Contains (taken_of i t) state) is (taken w t (from_server (bodies.State h.0 state) state.key.server) h.0 state h.1 refl)

-- What is kept was taken.
pub kept_was_taken : OfEachList SentStatesWereTaken → FoundHasItsKey → OfEachTrace KeptStatesWereSent → (w : Setup) (t : List Step) (key : Key) (state : State)
    → IsTrace w t → kept_state (client_opening w) (of_client w t) key ≡ Some state → Contains (taken_of key t) state
kept_was_taken taken has kept_sent w t key state trace h =
    let states = (words_noted (client_opening w) (of_client w t)).kept in
    was_taken taken w t key state (has key states state h) (kept_sent w t trace state (found_in key states state h))

-- ---- what is sent in a Saved was kept by then

saved_kept_now : PacketsGoToClient → mirror_laws.PacketsGoToTheClient → asked.SavedIsKept
    → (w : Setup) (step : Step) (past : List Step) (p : PacketParts) (attempt : ℕ) (state : State) → Contains (packets_of w past step) p
    → p.body ≡ bodies.Saved attempt state → kept_state (client_opening w) (of_client w past) state.key ≡ Some state
saved_kept_now goes over k w (AtServer r e) past p attempt state h is =
    absurd (not_of_server goes (opening_of r) (of_server r past) e p (bodies.Saved attempt state) h is refl)
saved_kept_now goes over k w (AtClient e) past p attempt state h is = k (client_opening w) (of_client w past) e p attempt state h is
saved_kept_now goes over k w (AtMirror e) past p attempt state h is =
    absurd (not_of_mirror over mirror_opening (of_mirror past) e p (bodies.Saved attempt state) h is refl)

pub kept_before : (w : Setup) (step : Step) (past : List Step) (key : Key) (state : State) → WasKept w past key state → WasKept w (step ∷ past) key state
kept_before w step past key state k =
    record { later = step ∷ k.later; earlier = k.earlier; split = ap (λ (l : List Step). step ∷ l) k.split; kept_there = k.kept_there }

pub saved_states_were_kept : PacketsGoToClient → mirror_laws.PacketsGoToTheClient → asked.SavedIsKept → OfEachList SavedStatesWereKept
saved_states_were_kept goes over k w [] p attempt state h is = absurd (sent_none w p h)
saved_states_were_kept goes over k w (step ∷ past) p attempt state h is =
    elim (sent_cases w step past p h) [
      | inl before ↦ kept_before w step past state.key state (saved_states_were_kept goes over k w past p attempt state before is)
      | inr now ↦ record { later = step ∷ []; earlier = past; split = refl; kept_there = saved_kept_now goes over k w step past p attempt state now is }
    ]

-- ---- what a job is checked with was sent in a Saved

pub checked_states_were_sent : served.WithWasHeard → OfEachTrace CheckedStatesWereSent
checked_states_were_sent with w t trace s j state h =
    let k = with (opening_of s) (of_server s t) j state h in
    (k.attempt, heard_was_sent w s t _ trace k.sent)
