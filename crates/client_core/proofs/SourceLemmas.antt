-- Where each state in the note came from.
use Rattle.std.proofs.Common.{◌≡◌, refl, ap, ◌⊎◌, inl, inr, ℕ, Bool, true, false, List, [], ◌∷◌, Option, None, Some}
use Rattle.std.specs.Prelude.{Contains, ◌&&◌, if◌then◌else◌}
use Rattle.std.proofs.lemmas.List.Elements.{Contains-push_cases}
use Rattle.fc_base.specs.declared.fault.Fault.{Fault}
use Rattle.verify_state.specs.State.{State}
use Rattle.messages.specs.declared.packet.PacketParts.{PacketParts}
use Rattle.messages.specs.declared.body.Body.{Body}
use Rattle.messages.specs.declared.body.Body.TheVariants as bodies
use Rattle.messages.specs.declared.node.Node.{Node}
use Rattle.disk_model.specs.declared.save_outcome.SaveOutcome.{SaveOutcome}
use Rattle.disk_model.specs.SaveOutcome.{has_new}
use Rattle.client_core.specs.Inputs.{PacketInput, Begin, Trigger, Stop, Verify, Deliver, Tick}
use Rattle.verify_state.specs.StateTable.{kept_of}
use Rattle.client_core.specs.declared.note.ClientNote.{ClientNote}
use Rattle.client_core.specs.declared.peers.Peers.{Peers}
use Rattle.client_core.specs.History.{Opening, Entry, Met, Cut, Restart, Renew, Lose}
use Rattle.client_core.specs.Refusals.{is_for_client, refusal_by}
use Rattle.client_core.specs.Saves.{NextRun, NextAttempt, unless_kept, addition_by, unless_refused, due_by, noted_after}
use Rattle.client_core.specs.Words.{is_on, words_noted, peers, may_renew}
use Rattle.client_core.specs.Note.{new_note}
use Rattle.client_core.specs.Ranges.{packet_in, packets_come}
use Rattle.client_core.specs.Laws.{NotedWasSent}
use Rattle.fc_base.proofs.ListLemmas.{none_in}
use Rattle.client_core.proofs.HeardLemmas.{taken_in}
use Rattle.client_core.proofs.KeptLemmas.{Brought, state_brought, copy_brought, brought_later, brought_now}

-- A state was in the note, or the packets brought it.
abbrev IsFrom : ClientNote → List PacketParts → State → Type 0
IsFrom n packets s = Contains n.kept s ⊎ Brought packets s.key s

run_keeps : (new : Bool) (r : Option Fault) (n : ClientNote) (s : State) → Contains (noted_after new (unless_refused r (Some NextRun)) n).kept s → Contains n.kept s
run_keeps new (Some f) n s h = h
run_keeps true None n s h = h
run_keeps false None n s h = h

attempt_keeps : (new : Bool) (r : Option Fault) (n : ClientNote) (s : State) → Contains (noted_after new (unless_refused r (Some NextAttempt)) n).kept s
    → Contains n.kept s
attempt_keeps new (Some f) n s h = h
attempt_keeps true None n s h = h
attempt_keeps false None n s h = h

none_keeps : (new : Bool) (r : Option Fault) (n : ClientNote) (s : State) → Contains (noted_after new (unless_refused r None) n).kept s → Contains n.kept s
none_keeps new (Some f) n s h = h
none_keeps new None n s h = h

-- A state is in the note after a state was to be kept: it was there, or is that state.
was_or_is : (n : ClientNote) (new : Bool) (state s : State) (before : Option State) → Contains (noted_after new (unless_kept before state) n).kept s
    → Contains n.kept s ⊎ (state ≡ s)
was_or_is n new state s (Some before) h = inl h
was_or_is n true state s None h = Contains-push_cases n.kept state s h
was_or_is n false state s None h = inl h

by_state : (peers : Peers) (n : ClientNote) (from to : Node) (jobs : ℕ) (state s : State)
    → is_for_client peers (record { from = from; to = to; body = bodies.State jobs state }) ≡ true
    → Contains n.kept s ⊎ (state ≡ s) → IsFrom n (record { from = from; to = to; body = bodies.State jobs state } ∷ []) s
by_state peers n from to jobs state s ours (inl h) = inl h
by_state peers n from to jobs state s ours (inr e) = inr (state_brought peers from to jobs state s s.key ours e (ap (λ (x : State). x.key) e))

by_copy : (peers : Peers) (n : ClientNote) (from to : Node) (state s : State)
    → is_for_client peers (record { from = from; to = to; body = bodies.Copy state }) ≡ true
    → Contains n.kept s ⊎ (state ≡ s) → IsFrom n (record { from = from; to = to; body = bodies.Copy state } ∷ []) s
by_copy peers n from to state s ours (inl h) = inl h
by_copy peers n from to state s ours (inr e) = inr (copy_brought peers from to state s s.key ours e)

by_packet : (peers : Peers) (n : ClientNote) (from to : Node) (body : Body) (s : State) (new : Bool) (r : Option Fault)
    → (r ≡ None → is_for_client peers (record { from = from; to = to; body = body }) ≡ true)
    → Contains (noted_after new (unless_refused r (addition_by n body)) n).kept s → IsFrom n (record { from = from; to = to; body = body } ∷ []) s
by_packet peers n from to body s new (Some f) ours h = inl h
by_packet peers n from to (bodies.State jobs state) s new None ours h =
    by_state peers n from to jobs state s (ours refl) (was_or_is n new state s (kept_of state.key n.kept) h)
by_packet peers n from to (bodies.Copy state) s new None ours h =
    by_copy peers n from to state s (ours refl) (was_or_is n new state s (kept_of state.key n.kept) h)
by_packet peers n from to _ s new None ours h = inl h

by_call : (peers : Peers) (on : Bool) (n : ClientNote) (c : PacketInput) (left : SaveOutcome) (s : State) → Contains (noted_after (has_new left) (due_by on peers n c) n).kept s
    → IsFrom n (packet_in (Met c left)) s
by_call peers on n (Begin text) left s h = inl (run_keeps (has_new left) (refusal_by on peers n (Begin text)) n s h)
by_call peers on n (Trigger run act) left s h = inl (none_keeps (has_new left) (refusal_by on peers n (Trigger run act)) n s h)
by_call peers on n (Stop run) left s h = inl (none_keeps (has_new left) (refusal_by on peers n (Stop run)) n s h)
by_call peers on n (Verify run text) left s h = inl (attempt_keeps (has_new left) (refusal_by on peers n (Verify run text)) n s h)
by_call peers on n (Deliver p) left s h =
    by_packet peers n p.from p.to p.body s (has_new left) (refusal_by on peers n (Deliver p)) (λ e. (taken_in on peers n p e).1) h
by_call peers on n Tick left s h = inl (none_keeps (has_new left) (refusal_by on peers n Tick) n s h)

renewal_keeps : (b : Bool) (g : ℕ) (n : ClientNote) (s : State) → Contains (if b then new_note g else n).kept s → Contains n.kept s
renewal_keeps true g n s h = absurd (none_in s h)
renewal_keeps false g n s h = h

-- It was there at the opening, or came.
abbrev HasSource : Opening → List Entry → State → Type 0
HasSource o past s = Contains o.noted.kept s ⊎ Brought (packets_come past) s.key s

earlier : (o : Opening) (e : Entry) (past : List Entry) (s : State) → HasSource o past s → HasSource o (e ∷ past) s
earlier o e past s (inl h) = inl h
earlier o e past s (inr h) = inr (brought_later (packet_in e) (packets_come past) s.key s h)

now_or_earlier : (o : Opening) (e : Entry) (past : List Entry) (s : State) → IsFrom (words_noted o past) (packet_in e) s
    → (Contains (words_noted o past).kept s → HasSource o past s) → HasSource o (e ∷ past) s
now_or_earlier o e past s (inl h) f = earlier o e past s (f h)
now_or_earlier o e past s (inr h) f = inr (brought_now (packet_in e) (packets_come past) s.key s h)

pub noted_was_sent : NotedWasSent
noted_was_sent o [] s h = inl h
noted_was_sent o (Met c left ∷ past) s h =
    now_or_earlier o (Met c left) past s (by_call (peers o past) (is_on past) (words_noted o past) c left s h) (λ e. noted_was_sent o past s e)
noted_was_sent o (Cut ∷ past) s h = earlier o Cut past s (noted_was_sent o past s h)
noted_was_sent o (Restart mirror ∷ past) s h = earlier o (Restart mirror) past s (noted_was_sent o past s h)
noted_was_sent o (Renew g left ∷ past) s h =
    earlier o (Renew g left) past s (noted_was_sent o past s (renewal_keeps (has_new left && may_renew g (words_noted o past)) g (words_noted o past) s h))
noted_was_sent o (Lose ∷ past) s h = absurd (none_in s h)
