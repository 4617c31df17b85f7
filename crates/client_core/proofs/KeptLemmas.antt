-- The first state of a key that is kept stays, and came from its server.
use Rattle.std.proofs.Common.{◌≡◌, refl, sym, ◌∙◌, ap, ◌⊎◌, inl, inr, ℕ, Bool, true, false, arith, List, [], ◌∷◌, ◌++◌, Option, None, Some}
use Rattle.std.specs.Prelude.{Contains, ◌&&◌, ◌==◌, if◌then◌else◌, length}
use Rattle.std.proofs.lemmas.Bool.{and_parts, eqb-true}
use Rattle.std.proofs.lemmas.List.Elements.{Contains-append_left, Contains-append_right}
use Rattle.fc_base.specs.declared.numbers.Key.{Key}
use Rattle.fc_base.specs.declared.fault.Fault.{Fault}
use Rattle.verify_state.specs.State.{State}
use Rattle.messages.specs.declared.packet.PacketParts.{PacketParts}
use Rattle.messages.specs.declared.body.Body.{Body}
use Rattle.messages.specs.declared.body.Body.TheVariants as bodies
use Rattle.messages.specs.declared.node.Node.{Node}
use Rattle.messages.specs.Nodes.{node_number}
use Rattle.messages.specs.Ranges.{is_generation}
use Rattle.disk_model.specs.declared.save_outcome.SaveOutcome.{SaveOutcome}
use Rattle.disk_model.specs.SaveOutcome.{has_new}
use Rattle.client_core.specs.Inputs.{PacketInput, Begin, Trigger, Stop, Verify, Deliver, Tick}
use Rattle.verify_state.specs.StateTable.{kept_of}
use Rattle.verify_state.specs.TableLaws.{FoundStays, FoundOrLast}
use Rattle.client_core.specs.declared.note.ClientNote.{ClientNote}
use Rattle.client_core.specs.declared.peers.Peers.{Peers}
use Rattle.client_core.specs.History.{Opening, Entry, Met, Cut, Restart, Renew, Lose}
use Rattle.client_core.specs.Refusals.{is_for_client, refusal_by}
use Rattle.client_core.specs.Saves.{Addition, NextRun, NextAttempt, Keep, with_addition, unless_kept, addition_by, unless_refused, due_by, noted_after}
use Rattle.client_core.specs.Words.{is_on, words_noted, kept_state, peers, may_renew}
use Rattle.client_core.specs.Note.{is_blank, new_note}
use Rattle.client_core.specs.Packets.{packets}
use Rattle.client_core.specs.Ranges.{packet_in, packets_come}
use Rattle.client_core.specs.Laws.{from_server, from_mirror, FirstKeptStays, KeptWasSent}
use Rattle.fc_base.proofs.ListLemmas.{one}
use Rattle.client_core.proofs.HeardLemmas.{from_own, from_its_mirror, own_state, taken_in}

added_stays : FoundStays → (key : Key) (a : Addition) (n : ClientNote) (s : State) → kept_of key n.kept ≡ Some s → kept_of key (with_addition a n).kept ≡ Some s
added_stays stays key NextRun n s h = h
added_stays stays key NextAttempt n s h = h
added_stays stays key (Keep state) n s h = stays key n.kept (state ∷ []) s h

noted_stays : FoundStays → (key : Key) (new : Bool) (d : Option Addition) (n : ClientNote) (s : State) → kept_of key n.kept ≡ Some s
    → kept_of key (noted_after new d n).kept ≡ Some s
noted_stays stays key new None n s h = h
noted_stays stays key true (Some a) n s h = added_stays stays key a n s h
noted_stays stays key false (Some a) n s h = h

-- a client is renewed over a blank note only
pub blank_then : (new : Bool) (g : ℕ) (n : ClientNote) → (new && may_renew g n) ≡ true → is_blank n ≡ true
blank_then new g n h = (and_parts (is_generation g) (is_blank n) ((and_parts new (may_renew g n) h).1)).1

-- a blank note keeps no state
blank_keeps_none : (key : Key) (n : ClientNote) (s : State) → is_blank n ≡ true → kept_of key n.kept ≡ Some s → ⊥
blank_keeps_none key n s h k =
    let a = and_parts (n.generation == 0) _ h in
    let b = and_parts (n.runs == 0) _ a.1 in
    let c = and_parts (n.attempts == 0) _ b.1 in
    none n.kept c.1 k
  where
    none : (states : List State) → (length states == 0) ≡ true → kept_of key states ≡ Some s → ⊥
    none [] e k = cc
    none (x ∷ rest) e k = let z : length (x ∷ rest) ≡ 0 = eqb-true (length (x ∷ rest)) 0 e in omega arith

renewed_stays : (key : Key) (b : Bool) (g : ℕ) (n : ClientNote) (s : State) → (b ≡ true → is_blank n ≡ true) → kept_of key n.kept ≡ Some s
    → kept_of key (if b then new_note g else n).kept ≡ Some s
renewed_stays key true g n s f h = absurd (blank_keeps_none key n s (f refl) h)
renewed_stays key false g n s f h = h

renewed_had : (key : Key) (b : Bool) (g : ℕ) (n : ClientNote) (s : State) → kept_of key (if b then new_note g else n).kept ≡ Some s → kept_of key n.kept ≡ Some s
renewed_had key true g n s h = cc
renewed_had key false g n s h = h

-- a kept state stays for one more call
stays_after : FoundStays → (o : Opening) (c : PacketInput) (left : SaveOutcome) (past : List Entry) (key : Key) (s : State) → kept_state o past key ≡ Some s
    → kept_state o (Met c left ∷ past) key ≡ Some s
stays_after stays o c left past key s h =
    noted_stays stays key (has_new left) (due_by (is_on past) (peers o past) (words_noted o past) c) (words_noted o past) s h

pub first_kept_stays : FoundStays → FirstKeptStays
first_kept_stays stays o [] past key s q h = h
first_kept_stays stays o (Met c left ∷ more) past key s q h = stays_after stays o c left (more ++ past) key s (first_kept_stays stays o more past key s q h)
first_kept_stays stays o (Cut ∷ more) past key s q h = first_kept_stays stays o more past key s q h
first_kept_stays stays o (Restart mirror ∷ more) past key s q h = first_kept_stays stays o more past key s q h
first_kept_stays stays o (Renew g left ∷ more) past key s q h =
    let n = words_noted o (more ++ past) in
    renewed_stays key (has_new left && may_renew g n) g n s (λ e. blank_then (has_new left) g n e) (first_kept_stays stays o more past key s q h)
first_kept_stays stays o (Lose ∷ more) past key s q h = cc

-- the packets brought the state: its server sent it, or the mirror copied it
abbrev pub Brought : List PacketParts → Key → State → Type 0
Brought packets key s = ((jobs : ℕ) × Contains packets (from_server (bodies.State jobs s) key.server)) ⊎ Contains packets (from_mirror (bodies.Copy s))

-- where a state in the table came from
abbrev CameFrom : ClientNote → List PacketParts → Key → State → Type 0
CameFrom n packets key s = (kept_of key n.kept ≡ Some s) ⊎ Brought packets key s

number_only : (new : Bool) (r : Option Fault) (n : ClientNote) (packets : List PacketParts) (key : Key) (s : State)
    → kept_of key (noted_after new (unless_refused r (Some NextRun)) n).kept ≡ Some s → CameFrom n packets key s
number_only new (Some f) n packets key s h = inl h
number_only true None n packets key s h = inl h
number_only false None n packets key s h = inl h

attempt_only : (new : Bool) (r : Option Fault) (n : ClientNote) (packets : List PacketParts) (key : Key) (s : State)
    → kept_of key (noted_after new (unless_refused r (Some NextAttempt)) n).kept ≡ Some s → CameFrom n packets key s
attempt_only new (Some f) n packets key s h = inl h
attempt_only true None n packets key s h = inl h
attempt_only false None n packets key s h = inl h

nothing : (new : Bool) (r : Option Fault) (n : ClientNote) (packets : List PacketParts) (key : Key) (s : State)
    → kept_of key (noted_after new (unless_refused r None) n).kept ≡ Some s → CameFrom n packets key s
nothing new (Some f) n packets key s h = inl h
nothing new None n packets key s h = inl h

pub state_brought : (peers : Peers) (from to : Node) (jobs : ℕ) (state s : State) (key : Key)
    → is_for_client peers (record { from = from; to = to; body = bodies.State jobs state }) ≡ true
    → state ≡ s → state.key ≡ key → Brought (record { from = from; to = to; body = bodies.State jobs state } ∷ []) key s
state_brought peers from to jobs state s key ours e has =
    let p : record { from = from; to = to; body = bodies.State jobs state } ≡ from_server (bodies.State jobs state) (node_number from) =
    from_own peers from to (bodies.State jobs state) refl ours in
    let own : node_number from ≡ key.server = sym (own_state peers from to jobs state ours) ∙ ap (λ (x : Key). x.server) has in
    let q : from_server (bodies.State jobs state) (node_number from) ≡ from_server (bodies.State jobs s) key.server =
    λ i. from_server (bodies.State jobs (e i)) (own i) in
    inl (jobs, one (record { from = from; to = to; body = bodies.State jobs state }) (from_server (bodies.State jobs s) key.server) (p ∙ q))

pushed : (peers : Peers) (n : ClientNote) (from to : Node) (jobs : ℕ) (state s : State) (key : Key)
    → is_for_client peers (record { from = from; to = to; body = bodies.State jobs state }) ≡ true
    → (kept_of key n.kept ≡ Some s) ⊎ ((state ≡ s) × (state.key ≡ key))
    → CameFrom n (record { from = from; to = to; body = bodies.State jobs state } ∷ []) key s
pushed peers n from to jobs state s key ours (inl e) = inl e
pushed peers n from to jobs state s key ours (inr e) = inr (state_brought peers from to jobs state s key ours e.0 e.1)

state_came : FoundOrLast → (peers : Peers) (n : ClientNote) (from to : Node) (jobs : ℕ) (state s : State) (key : Key) (new : Bool) (before : Option State)
    → is_for_client peers (record { from = from; to = to; body = bodies.State jobs state }) ≡ true
    → kept_of key (noted_after new (unless_kept before state) n).kept ≡ Some s
    → CameFrom n (record { from = from; to = to; body = bodies.State jobs state } ∷ []) key s
state_came only peers n from to jobs state s key new (Some before) ours h = inl h
state_came only peers n from to jobs state s key true None ours h = pushed peers n from to jobs state s key ours (only key n.kept state s h)
state_came only peers n from to jobs state s key false None ours h = inl h

pub copy_brought : (peers : Peers) (from to : Node) (state s : State) (key : Key)
    → is_for_client peers (record { from = from; to = to; body = bodies.Copy state }) ≡ true
    → state ≡ s → Brought (record { from = from; to = to; body = bodies.Copy state } ∷ []) key s
copy_brought peers from to state s key ours e =
    let p : record { from = from; to = to; body = bodies.Copy state } ≡ from_mirror (bodies.Copy state) = from_its_mirror peers from to state ours in
    let q : from_mirror (bodies.Copy state) ≡ from_mirror (bodies.Copy s) = λ i. from_mirror (bodies.Copy (e i)) in
    inr (one (record { from = from; to = to; body = bodies.Copy state }) (from_mirror (bodies.Copy s)) (p ∙ q))

copied : (peers : Peers) (n : ClientNote) (from to : Node) (state s : State) (key : Key)
    → is_for_client peers (record { from = from; to = to; body = bodies.Copy state }) ≡ true
    → (kept_of key n.kept ≡ Some s) ⊎ ((state ≡ s) × (state.key ≡ key)) → CameFrom n (record { from = from; to = to; body = bodies.Copy state } ∷ []) key s
copied peers n from to state s key ours (inl e) = inl e
copied peers n from to state s key ours (inr e) = inr (copy_brought peers from to state s key ours e.0)

copy_came : FoundOrLast → (peers : Peers) (n : ClientNote) (from to : Node) (state s : State) (key : Key) (new : Bool) (before : Option State)
    → is_for_client peers (record { from = from; to = to; body = bodies.Copy state }) ≡ true
    → kept_of key (noted_after new (unless_kept before state) n).kept ≡ Some s
    → CameFrom n (record { from = from; to = to; body = bodies.Copy state } ∷ []) key s
copy_came only peers n from to state s key new (Some before) ours h = inl h
copy_came only peers n from to state s key true None ours h = copied peers n from to state s key ours (only key n.kept state s h)
copy_came only peers n from to state s key false None ours h = inl h

delivered : FoundOrLast → (peers : Peers) (n : ClientNote) (from to : Node) (body : Body) (s : State) (key : Key) (new : Bool) (r : Option Fault)
    → (r ≡ None → is_for_client peers (record { from = from; to = to; body = body }) ≡ true)
    → kept_of key (noted_after new (unless_refused r (addition_by n body)) n).kept ≡ Some s
    → CameFrom n (record { from = from; to = to; body = body } ∷ []) key s
delivered only peers n from to body s key new (Some f) ours h = inl h
delivered only peers n from to (bodies.State jobs state) s key new None ours h =
    state_came only peers n from to jobs state s key new (kept_of state.key n.kept) (ours refl) h
delivered only peers n from to (bodies.Copy state) s key new None ours h =
    copy_came only peers n from to state s key new (kept_of state.key n.kept) (ours refl) h
delivered only peers n from to _ s key new None ours h = inl h

called : FoundOrLast → (peers : Peers) (on : Bool) (n : ClientNote) (c : PacketInput) (left : SaveOutcome) (key : Key) (s : State)
    → kept_of key (noted_after (has_new left) (due_by on peers n c) n).kept ≡ Some s → CameFrom n (packet_in (Met c left)) key s
called only peers on n (Begin text) left key s h = number_only (has_new left) (refusal_by on peers n (Begin text)) n [] key s h
called only peers on n (Trigger run act) left key s h = nothing (has_new left) (refusal_by on peers n (Trigger run act)) n [] key s h
called only peers on n (Stop run) left key s h = nothing (has_new left) (refusal_by on peers n (Stop run)) n [] key s h
called only peers on n (Verify run text) left key s h = attempt_only (has_new left) (refusal_by on peers n (Verify run text)) n [] key s h
called only peers on n (Deliver p) left key s h =
    delivered only peers n p.from p.to p.body s key (has_new left) (refusal_by on peers n (Deliver p)) (λ e. (taken_in on peers n p e).1) h
called only peers on n Tick left key s h = nothing (has_new left) (refusal_by on peers n Tick) n [] key s h

-- where a kept state came from
abbrev Source : Opening → List Entry → Key → State → Type 0
Source o past key s = (kept_state o [] key ≡ Some s) ⊎ Brought (packets_come past) key s

pub brought_later : (more packets : List PacketParts) (key : Key) (s : State) → Brought packets key s → Brought (more ++ packets) key s
brought_later more packets key s (inl h) = inl (h.0, Contains-append_right more packets (from_server (bodies.State h.0 s) key.server) h.1)
brought_later more packets key s (inr h) = inr (Contains-append_right more packets (from_mirror (bodies.Copy s)) h)

pub brought_now : (packets past : List PacketParts) (key : Key) (s : State) → Brought packets key s → Brought (packets ++ past) key s
brought_now packets past key s (inl h) = inl (h.0, Contains-append_left packets past (from_server (bodies.State h.0 s) key.server) h.1)
brought_now packets past key s (inr h) = inr (Contains-append_left packets past (from_mirror (bodies.Copy s)) h)

earlier : (o : Opening) (e : Entry) (past : List Entry) (key : Key) (s : State) → Source o past key s → Source o (e ∷ past) key s
earlier o e past key s (inl h) = inl h
earlier o e past key s (inr h) = inr (brought_later (packet_in e) (packets_come past) key s h)

now_or_earlier : (o : Opening) (e : Entry) (past : List Entry) (key : Key) (s : State) → CameFrom (words_noted o past) (packet_in e) key s
    → (kept_state o past key ≡ Some s → Source o past key s) → Source o (e ∷ past) key s
now_or_earlier o e past key s (inl h) f = earlier o e past key s (f h)
now_or_earlier o e past key s (inr h) f = inr (brought_now (packet_in e) (packets_come past) key s h)

pub kept_was_sent : FoundOrLast → KeptWasSent
kept_was_sent only o [] key s h = inl h
kept_was_sent only o (Met c left ∷ past) key s h =
    now_or_earlier o (Met c left) past key s (called only (peers o past) (is_on past) (words_noted o past) c left key s h)
    (λ e. kept_was_sent only o past key s e)
kept_was_sent only o (Cut ∷ past) key s h = earlier o Cut past key s (kept_was_sent only o past key s h)
kept_was_sent only o (Restart mirror ∷ past) key s h = earlier o (Restart mirror) past key s (kept_was_sent only o past key s h)
kept_was_sent only o (Renew g left ∷ past) key s h =
    earlier o (Renew g left) past key s (kept_was_sent only o past key s
    (renewed_had key (has_new left && may_renew g (words_noted o past)) g (words_noted o past) s h))
kept_was_sent only o (Lose ∷ past) key s h = cc
