-- The packets that a client sends are within their ranges.
use Rattle.std.proofs.Common.{◌≡◌, refl, sym, subst, inl, inr, ℕ, ◌+◌, ◌<◌, ◌≤◌, arith, Bool, true, false, ◌&&◌, List, [], ◌∷◌, ◌++◌, None, Some}
use Rattle.std.specs.Prelude.{if◌then◌else◌, not, nat_lt, nat_le, ◌^◌, slice_get}
use Rattle.std.specs.List.{AllByRecursion}
use Rattle.std.proofs.lemmas.Bool.{and_parts}
use Rattle.std.proofs.lemmas.Bool.Decides.{nat_tests}
use Rattle.fc_base.specs.declared.numbers.Key.{Key}
use Rattle.fc_base.specs.declared.fault.Fault.TheVariants.{Down, NoSuchRun}
use Rattle.fc_base.specs.Faults.{when}
use Rattle.fc_base.specs.Keys.{is_same_key}
use Rattle.verify_state.specs.State.{State, IsState}
use Rattle.messages.specs.declared.packet.PacketParts.{PacketParts}
use Rattle.messages.specs.declared.body.Body.{Body}
use Rattle.messages.specs.declared.body.Body.TheVariants as bodies
use Rattle.messages.specs.declared.refusal.Act.{Act}
use Rattle.messages.specs.Ranges.{is_generation, is_run, is_attempt, is_jobs, is_job, is_job_of, is_text, is_body, KeepsState}
use Rattle.messages.specs.Laws.{IsPacket}
use Rattle.disk_model.specs.declared.save_outcome.SaveOutcome.{SaveOutcome}
use Rattle.client_core.specs.Inputs.{PacketInput, Begin, Trigger, Stop, Verify, Deliver, Tick}
use Rattle.fc_base.specs.declared.limits.TheConstants.{MAX_GENERATION, MAX_JOBS, MAX_SERVERS}
use Rattle.verify_state.specs.StateTable.{kept_of}
use Rattle.client_core.specs.declared.note.ClientNote.{ClientNote}
use Rattle.client_core.specs.declared.peers.Peers.{Peers}
use Rattle.client_core.specs.Note.{IsNoted}
use Rattle.client_core.specs.History.{Opening, Entry, Met, Cut, Restart, Renew, Lose}
use Rattle.client_core.specs.Refusals.{is_begun, has_next, refusal_by}
use Rattle.client_core.specs.Saves.{is_answer}
use Rattle.client_core.specs.Words.{is_on, words_noted, refusal, due, is_answered, peers}
use Rattle.client_core.specs.Life.{Deed, Begins, Triggers, Stops, Verifies, Hears, deeds_of, life, deeds_done, text_of}
use Rattle.client_core.specs.Packets.{to_mirror, to_server, packets}
use Rattle.client_core.specs.Ranges.{packet_in, CameInRange}
use Rattle.client_core.specs.Laws.{from_server, NotesKeepRanges, PacketsAreInRange}
use Rattle.client_core.proofs.AskedLemmas.{begun_was}
use Rattle.client_core.proofs.HeardLemmas.{none_or}
use Rattle.fc_base.proofs.ListLemmas.{all_append, all_weaker, each_of}
use Rattle.client_core.proofs.NotedLemmas.{begin_faults, in_entry, next_left, verify_faults}
use Rattle.client_core.proofs.ReasonLemmas.{IsSaid, IsSent, Why, WhyMirror, all_sent}
use Rattle.client_core.proofs.TextLemmas.{life_was_done, why_carries}

run_within : (r last : ℕ) → 1 ≤ r → r ≤ last → last < 2 ^ 64 → is_run r ≡ true
run_within r last a b c =
    let x : nat_le 1 r ≡ true = grind (arith, nat_tests) in
    let l : r < 2 ^ 64 = omega arith in
    let y : nat_lt r (2 ^ 64) ≡ true = grind (arith, nat_tests) in
    rw (x, y) refl

pub begun_in_range : (n : ClientNote) (run : ℕ) → is_begun n run ≡ true → n.runs < 2 ^ 64 → is_run run ≡ true
unfolding is_begun
begun_in_range n run h l =
    let p = and_parts (nat_le 1 run) (nat_le run n.runs) h in
    let a : nat_le 1 run ≡ true = p.0 in
    let b : nat_le run n.runs ≡ true = p.1 in
    let c : 1 ≤ run = grind (arith, nat_tests) in
    let d : run ≤ n.runs = grind (arith, nat_tests) in
    run_within run n.runs c d l

pub next_in_range : (peers : Peers) (g used : ℕ) → has_next peers g used ≡ true → is_run (used + 1) ≡ true
next_in_range peers g used h = run_within (used + 1) (used + 1) (omega arith) (omega arith) (next_left peers g used h)

run_faults : (a b : Bool) → slice_get (when (not a) Down ++ when (not b) NoSuchRun) 0 ≡ None → b ≡ true
run_faults true true h = refl
run_faults true false h = cc
run_faults false b h = cc

-- what was done is within the ranges
abbrev InRange : Deed → Type 0
InRange (Begins r text) = (is_run r ≡ true) × (is_text text ≡ true)
InRange (Triggers r act) = Unit {0}
InRange (Stops r) = Unit {0}
InRange (Verifies r a text) = (is_run r ≡ true) × (is_run a ≡ true) × (is_text text ≡ true)
InRange (Hears s body) = Unit {0}

deeds_in_range : (on : Bool) (servers : Peers) (n : ClientNote) (c : PacketInput) → refusal_by on servers n c ≡ None → IsNoted n → AllByRecursion InRange (deeds_of n c)
deeds_in_range on servers n (Begin text) h k =
    let p = begin_faults on (is_text text) (has_next servers n.generation n.runs) h in ((next_in_range servers n.generation n.runs p.1, p.0), tt)
deeds_in_range on servers n (Trigger run act) h k = (tt, tt)
deeds_in_range on servers n (Stop run) h k = (tt, tt)
deeds_in_range on servers n (Verify run text) h k =
    let p = verify_faults on (is_begun n run) (is_text text) (has_next servers n.generation n.attempts) h in
    ((begun_in_range n run p.0 k.runs, next_in_range servers n.generation n.attempts p.2, p.1), tt)
deeds_in_range on servers n (Deliver p) h k = (tt, tt)
deeds_in_range on servers n Tick h k = tt

more_done : (b : Bool) (deeds before : List Deed) → (b ≡ true → AllByRecursion InRange deeds) → AllByRecursion InRange before
    → AllByRecursion InRange (if b then deeds ++ before else before)
more_done true deeds before f k = all_append InRange deeds before (f refl) k
more_done false deeds before f k = k

done_in_range : NotesKeepRanges → (o : Opening) (past : List Entry) → IsNoted o.noted → CameInRange past → AllByRecursion InRange (deeds_done o past)
done_in_range ranges o [] k h = tt
done_in_range ranges o (Met c left ∷ past) k h =
    let p = in_entry (Met c left) past h in
    more_done (is_answered o past c left) (deeds_of (words_noted o past) c) (deeds_done o past)
    (λ a. deeds_in_range (is_on past) (peers o past) (words_noted o past) c (none_or (refusal o past c) (is_answer (due o past c) left) a)
    (ranges o past k p.1))
    (done_in_range ranges o past k p.1)
done_in_range ranges o (Cut ∷ past) k h = done_in_range ranges o past k h
done_in_range ranges o (Restart mirror ∷ past) k h = done_in_range ranges o past k h
done_in_range ranges o (Renew g left ∷ past) k h = done_in_range ranges o past k h
done_in_range ranges o (Lose ∷ past) k h = done_in_range ranges o past k h

-- what a body keeps
abbrev Fits : Body → Type 0
Fits body = (is_body body ≡ true) × KeepsState body

said_fits : (c : PacketInput) (left : SaveOutcome) (s : ℕ) (body : Body) → IsSaid c s body → AllByRecursion IsPacket (packet_in (Met c left)) → Fits body
said_fits c left s body e h =
    let k : IsPacket (from_server body s) = (subst (λ d. AllByRecursion IsPacket (packet_in (Met d left))) e h).0 in
    ((and_parts (nat_lt s MAX_SERVERS && true) (is_body body) k.in_range).1, k.state)

ack_fits : (s : State) → IsState s → is_body (bodies.StateAck s.key.run s.key.job) ≡ true
ack_fits s k =
    let p = and_parts (nat_le 1 s.key.run && nat_lt s.key.server MAX_SERVERS) (nat_lt s.key.job MAX_JOBS) k.key in
    let q = and_parts (nat_le 1 s.key.run) (nat_lt s.key.server MAX_SERVERS) p.0 in
    let a : nat_le 1 s.key.run ≡ true = q.0 in
    let l : s.key.run < 2 ^ 64 = k.run in
    let w : nat_lt s.key.run (2 ^ 64) ≡ true = grind (arith, nat_tests) in
    let j : nat_lt s.key.job MAX_JOBS ≡ true = p.1 in
    rw (a, w, j) refl

no_state_fits : (run job jobs : ℕ) → is_body (bodies.NoState run job jobs) ≡ true → is_body (bodies.StateAck run job) ≡ true
no_state_fits run job jobs h =
    let p = and_parts (is_run run) (is_job_of job jobs) h in
    let q = and_parts (is_jobs jobs) (nat_lt job jobs) p.1 in
    let r = and_parts (nat_le 1 jobs) (nat_le jobs MAX_JOBS) q.0 in
    let a : is_run run ≡ true = p.0 in
    let b : nat_lt job jobs ≡ true = q.1 in
    let c : nat_le jobs MAX_JOBS ≡ true = r.1 in
    let d : nat_lt job MAX_JOBS ≡ true = grind (arith, nat_tests) in
    rw (a, d) refl

state_kept : (key : Key) (kept : List State) (s : State) → AllByRecursion IsState kept → kept_of key kept ≡ Some s → IsState s
state_kept key [] s a h = cc
state_kept key (k ∷ kept) s a h = here (is_same_key key k.key) h (λ e. state_kept key kept s a.1 e)
  where
    here : (b : Bool) → (if b then Some k else kept_of key kept) ≡ Some s → (kept_of key kept ≡ Some s → IsState s) → IsState s
    here true e f = let x : k ≡ s = cc in subst IsState x a.0
    here false e f = f e

-- what is known when a call is answered
record Known (o : Opening) (past : List Entry) (c : PacketInput) (left : SaveOutcome) : Type 0 where
  note : IsNoted (words_noted o past)
  entry : AllByRecursion IsPacket (packet_in (Met c left))
  before : AllByRecursion InRange (deeds_done o past)
  after : AllByRecursion InRange (deeds_done o (Met c left ∷ past))
  answers : is_answered o past c left ≡ true
  taken : refusal o past c ≡ None

run_of_call : (o : Opening) (past : List Entry) (c x : PacketInput) (run : ℕ) → IsNoted (words_noted o past) → refusal o past c ≡ None → c ≡ x
    → (refusal o past x ≡ None → is_begun (words_noted o past) run ≡ true) → is_run run ≡ true
run_of_call o past c x run k taken e f = begun_in_range (words_noted o past) run (f (subst (λ d. refusal o past d ≡ None) e taken)) k.runs

acked_fits : (o : Opening) (past : List Entry) (c : PacketInput) (left : SaveOutcome) (s run job : ℕ) → Known o past c left
    → Why (words_noted o past) (life o past) c s (bodies.StateAck run job) → is_body (bodies.StateAck run job) ≡ true
acked_fits o past c left s run job k (inl w) =
    let f = said_fits c left s (bodies.State w.0 w.1) w.2 k.entry in
    subst (λ r. is_body (bodies.StateAck r job) ≡ true) (sym w.3) (subst (λ j. is_body (bodies.StateAck w.1.key.run j) ≡ true) (sym w.4) (ack_fits w.1 f.1))
acked_fits o past c left s run job k (inr w) = no_state_fits run job w.0 ((said_fits c left s (bodies.NoState run job w.0) w.1 k.entry).0)

triggered_fits : (o : Opening) (past : List Entry) (c : PacketInput) (left : SaveOutcome) (s run : ℕ) (act : Act) → Known o past c left
    → Why (words_noted o past) (life o past) c s (bodies.Trigger run act) → is_run run ≡ true
triggered_fits o past c left s run act k (inl e) =
    run_of_call o past c (Trigger run act) run k.note k.taken e (λ h. run_faults (is_on past) (is_begun (words_noted o past) run) h)
triggered_fits o past c left s run act k (inr u) = run_within run (words_noted o past).runs u.0 u.1 k.note.runs

stopped_fits : (o : Opening) (past : List Entry) (c : PacketInput) (left : SaveOutcome) (s run : ℕ) → Known o past c left
    → Why (words_noted o past) (life o past) c s (bodies.Stop run) → is_run run ≡ true
stopped_fits o past c left s run k (inl e) =
    run_of_call o past c (Stop run) run k.note k.taken e (λ h. run_faults (is_on past) (is_begun (words_noted o past) run) h)
stopped_fits o past c left s run k (inr u) = run_within run (words_noted o past).runs u.0 u.1 k.note.runs

fits : (o : Opening) (past : List Entry) (c : PacketInput) (left : SaveOutcome) (s : ℕ) (body : Body) → Known o past c left → Why (words_noted o past) (life o past) c s body
    → Fits body
fits o past c left s (bodies.Jobs run text) k w =
    let d : InRange (Begins run text) =
    each_of InRange (deeds_done o (Met c left ∷ past)) (Begins run text) k.after (why_carries o past c left s (bodies.Jobs run text) k.answers w) in
    let a : is_run run ≡ true = d.0 in
    let b : is_text text ≡ true = d.1 in
    (rw (a, b) refl, tt)
fits o past c left s (bodies.Start run) k w =
    let d = each_of InRange (deeds_done o past) (Begins run (text_of run (life o past))) k.before
    (life_was_done o past (Begins run (text_of run (life o past))) (begun_was run s (life o past) w)) in
    (d.0, tt)
fits o past c left s (bodies.Trigger run act) k w = (triggered_fits o past c left s run act k w, tt)
fits o past c left s (bodies.StateAck run job) k w = (acked_fits o past c left s run job k w, tt)
fits o past c left s (bodies.Stop run) k w = (stopped_fits o past c left s run k w, tt)
fits o past c left s (bodies.Verify run attempt text) k w =
    let d : InRange (Verifies run attempt text) = each_of InRange (deeds_done o (Met c left ∷ past)) (Verifies run attempt text) k.after
    (why_carries o past c left s (bodies.Verify run attempt text) k.answers w) in
    let a : is_run run ≡ true = d.0 in
    let b : is_run attempt ≡ true = d.1 in
    let t : is_text text ≡ true = d.2 in
    (rw (a, b, t) refl, tt)
fits o past c left s (bodies.Saved attempt state) k w =
    let f = said_fits c left s (bodies.WantState w.0 attempt w.1) w.2 k.entry in
    let p = and_parts (is_run w.0 && is_attempt attempt) (is_job w.1) f.0 in (
      (and_parts (is_run w.0) (is_attempt attempt) p.0).1,
      state_kept (record { run = w.0; server = s; job = w.1 }) (words_noted o past).kept state k.note.states w.3,
    )
fits o past c left s (bodies.NoSaved run attempt job) k w = ((said_fits c left s (bodies.WantState run attempt job) w.0 k.entry).0, tt)
fits o past c left s _ k w = absurd w

to_one : (p : PacketParts) (s : ℕ) → s < MAX_SERVERS → p ≡ to_server p.body s → Fits p.body → IsPacket p
to_one p s l e f =
    let t : nat_lt s MAX_SERVERS ≡ true = grind (arith, nat_tests) in
    let b : is_body p.body ≡ true = f.0 in
    let k : IsPacket (to_server p.body s) = record { in_range = rw (t, b) refl; state = f.1 } in
    subst IsPacket (sym e) k

below_eight : (s servers : ℕ) → s < servers → servers ≤ MAX_SERVERS → s < MAX_SERVERS
below_eight s servers l few = omega arith

mirror_fits : (o : Opening) (past : List Entry) (c : PacketInput) (left : SaveOutcome) (body : Body) → Known o past c left → WhyMirror (words_noted o past) c body → Fits body
mirror_fits o past c left (bodies.Copy state) k (inl h) = (refl, each_of IsState (words_noted o past).kept state k.note.states h)
mirror_fits o past c left (bodies.Copy state) k (inr h) = (refl, (said_fits c left h.0 (bodies.State h.1 state) h.2 k.entry).1)
mirror_fits o past c left (bodies.Fetch generation) k w =
    (subst (λ g. is_generation g ≡ true) (sym w.0) (ranged (words_noted o past).generation (subst (λ g. 0 < g) w.0 w.1) k.note.generation), tt)
  where
    ranged : (g : ℕ) → 0 < g → g ≤ MAX_GENERATION → is_generation g ≡ true
    ranged g a b =
        let x : nat_le 1 g ≡ true = grind (arith, nat_tests) in
        let y : nat_le g MAX_GENERATION ≡ true = grind (arith, nat_tests) in
        rw (x, y) refl
mirror_fits o past c left _ k w = absurd w

to_its_mirror : (p : PacketParts) → p ≡ to_mirror p.body → Fits p.body → IsPacket p
to_its_mirror p e f =
    let b : is_body p.body ≡ true = f.0 in
    let k : IsPacket (to_mirror p.body) = record { in_range = rw b refl; state = f.1 } in
    subst IsPacket (sym e) k

pub packets_are_in_range : NotesKeepRanges → PacketsAreInRange
packets_are_in_range ranges o past (Met c left) opens h =
    let came = in_entry (Met c left) past h in
    all_weaker (IsSent o past c left) IsPacket (packets o past (Met c left))
    (λ p x.
    let k : Known o past c left = record {
      note = ranges o past opens.note came.1;
      entry = came.0;
      before = done_in_range ranges o past opens.note came.1;
      after = done_in_range ranges o (Met c left ∷ past) opens.note h;
      answers = x.answers;
      taken = x.taken;
    } in
    elim (x.why) [
      | inl w ↦ to_one p w.0 (below_eight w.0 o.servers w.1 opens.servers) w.2 (fits o past c left w.0 p.body k w.3)
      | inr w ↦ to_its_mirror p w.1 (mirror_fits o past c left p.body k w.2)
    ])
    (all_sent o past c left)
packets_are_in_range ranges o past Cut opens h = tt
packets_are_in_range ranges o past (Restart mirror) opens h = tt
packets_are_in_range ranges o past (Renew g left) opens h = tt
packets_are_in_range ranges o past Lose opens h = tt
