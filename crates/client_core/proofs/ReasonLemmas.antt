-- Why a client sends each of its packets.
use Rattle.std.proofs.Common.{◌≡◌, refl, sym, ap, subst, ◌⊎◌, inl, inr, ℕ, ◌+◌, ◌<◌, ◌≤◌, arith, Bool, true, false, List, [], ◌∷◌, Option, None, Some}
use Rattle.std.specs.Prelude.{Contains, not, ◌&&◌, nat_lt, if◌then◌else◌}
use Rattle.std.proofs.lemmas.Bool.{cases_Bool, ltb-true}
use Rattle.std.specs.List.{AllByRecursion, flat_map}
use Rattle.fc_base.specs.Counted.{numbers_below}
use Rattle.verify_state.specs.State.{State}
use Rattle.messages.specs.declared.packet.PacketParts.{PacketParts}
use Rattle.messages.specs.declared.body.Body.{Body}
use Rattle.messages.specs.declared.body.Body.TheVariants as bodies
use Rattle.messages.specs.Nodes.{node_number}
use Rattle.messages.specs.Bodies.{kind_of}
use Rattle.messages.specs.Kinds.{is_of_mirror}
use Rattle.disk_model.specs.declared.save_outcome.SaveOutcome.{SaveOutcome}
use Rattle.client_core.specs.Inputs.{PacketInput, Begin, Trigger, Stop, Verify, Deliver, Tick}
use Rattle.verify_state.specs.StateTable.{kept_of}
use Rattle.client_core.specs.declared.note.ClientNote.{ClientNote}
use Rattle.client_core.specs.declared.peers.Peers.{Peers}
use Rattle.client_core.specs.History.{Opening, Entry, Met}
use Rattle.client_core.specs.Refusals.{is_for_client, refusal_by}
use Rattle.client_core.specs.Saves.{is_answer}
use Rattle.client_core.specs.Words.{is_on, words_noted, peers, refusal, due, is_answered}
use Rattle.client_core.specs.Life.{Deed, life, text_of, act_of, run_of, check_of}
use Rattle.client_core.specs.declared.beginning.Beginning.{Beginning}
use Rattle.client_core.specs.Begins.{begin_at}
use Rattle.client_core.specs.declared.beginning.Beginning.TheVariants as begins
use Rattle.client_core.specs.Requests.{Request, trigger_at, stop_at, verify_at}
use Rattle.client_core.specs.Requests as requests
use Rattle.client_core.specs.Packets.{to_server, to_mirror, copy_for, requests_again, fetch_again, is_copied, copy_again}
use Rattle.client_core.specs.Packets.{copies_again, to_all, start_for, jobs_once_more, lacks_jobs, state_for, replies}
use Rattle.client_core.specs.Packets.{begin_again, packets_again, run_again, attempt_again, packets_for, packets}
use Rattle.client_core.specs.Laws.{from_server}
use Rattle.client_core.specs.Asked.{rising, runs_of, attempts_of}
use Rattle.client_core.proofs.DeliverLemmas.{no_reply}
use Rattle.client_core.proofs.HeardLemmas.{from_own, none_or, sender_below, taken_in}
use Rattle.client_core.proofs.RisingLemmas.{order_all}
use Rattle.client_core.proofs.WithinLemmas.{runs_were_begun}
use Rattle.fc_base.proofs.ListLemmas.{all_append, all_below, all_flat, all_weaker, all_where, each_is_there, each_of, flat_of, map_of}

-- Jobs or Start is open
abbrev pub IsBegun : Beginning → Type 0
IsBegun begins.Staging = Unit {0}
IsBegun begins.Starting = Unit {0}
IsBegun _ = ⊥

-- the request is open
abbrev pub IsAsked : Request → Type 0
IsAsked (requests.Open ts) = Unit {0}
IsAsked _ = ⊥

-- the server says this
abbrev pub IsSaid : PacketInput → ℕ → Body → Type 0
IsSaid c s body = c ≡ Deliver (from_server body s)

-- why this goes to the server
abbrev pub Why : ClientNote → List Deed → PacketInput → ℕ → Body → Type 0
Why n deeds c s (bodies.Jobs run text) = ((c ≡ Begin text) × (run ≡ n.runs + 1)) ⊎ ((text ≡ text_of run deeds) × IsBegun (begin_at run s deeds))
Why n deeds c s (bodies.Start run) = IsBegun (begin_at run s deeds)
Why n deeds c s (bodies.Trigger run act) = (c ≡ Trigger run act) ⊎ ((1 ≤ run) × (run ≤ n.runs))
Why n deeds c s (bodies.StateAck run job) =
    ((jobs : ℕ) × (state : State) × IsSaid c s (bodies.State jobs state) × (run ≡ state.key.run) × (job ≡ state.key.job))
    ⊎ ((jobs : ℕ) × IsSaid c s (bodies.NoState run job jobs))
Why n deeds c s (bodies.Stop run) = (c ≡ Stop run) ⊎ ((1 ≤ run) × (run ≤ n.runs))
Why n deeds c s (bodies.Verify run attempt text) =
    ((c ≡ Verify run text) × (attempt ≡ n.attempts + 1))
    ⊎ ((run ≡ run_of attempt deeds) × (text ≡ check_of attempt deeds) × IsAsked (verify_at attempt s deeds))
Why n deeds c s (bodies.Saved attempt state) =
    (run : ℕ) × (job : ℕ) × IsSaid c s (bodies.WantState run attempt job) × (kept_of (record { run = run; server = s; job = job }) n.kept ≡ Some state)
Why n deeds c s (bodies.NoSaved run attempt job) =
    IsSaid c s (bodies.WantState run attempt job) × (kept_of (record { run = run; server = s; job = job }) n.kept ≡ None)
Why n deeds c s _ = ⊥

-- a packet that is sent to a server
abbrev pub SendsTo : ℕ → ClientNote → List Deed → PacketInput → PacketParts → Type 0
SendsTo servers n deeds c p = (s : ℕ) × (s < servers) × (p ≡ to_server p.body s) × Why n deeds c s p.body

-- why this goes to the mirror
abbrev pub WhyMirror : ClientNote → PacketInput → Body → Type 0
WhyMirror n c (bodies.Copy state) = Contains n.kept state ⊎ ((s : ℕ) × (jobs : ℕ) × IsSaid c s (bodies.State jobs state))
WhyMirror n c (bodies.Fetch generation) = (generation ≡ n.generation) × (0 < generation)
WhyMirror n c _ = ⊥

-- a packet that is sent to the mirror
abbrev pub Mirrors : Bool → ClientNote → PacketInput → PacketParts → Type 0
Mirrors mirror n c p = (mirror ≡ true) × (p ≡ to_mirror p.body) × WhyMirror n c p.body

-- a packet that is sent
abbrev pub Sends : Peers → ClientNote → List Deed → PacketInput → PacketParts → Type 0
Sends peers n deeds c p = SendsTo peers.servers n deeds c p ⊎ Mirrors peers.mirror n c p

to_each : (servers : ℕ) (n : ClientNote) (deeds : List Deed) (c : PacketInput) (body : Body) → ((s : ℕ) → Why n deeds c s body)
    → AllByRecursion (SendsTo servers n deeds c) (to_all servers body)
to_each servers n deeds c body w = map_of (λ s. s < servers) (SendsTo servers n deeds c) (to_server body) (numbers_below servers)
    (all_below servers servers (omega arith)) (λ s l. (s, l, refl, w s))

starting : (servers : ℕ) (n : ClientNote) (deeds : List Deed) (c : PacketInput) (run s : ℕ) (b : Beginning) → s < servers → begin_at run s deeds ≡ b
    → AllByRecursion (SendsTo servers n deeds c) (start_for run s b)
starting servers n deeds c run s begins.Staging l e = ((s, l, refl, subst IsBegun (sym e) tt), tt)
starting servers n deeds c run s _ l e = tt

jobs_again : (servers : ℕ) (n : ClientNote) (deeds : List Deed) (c : PacketInput) (run s : ℕ) (b : Beginning) → s < servers → begin_at run s deeds ≡ b
    → AllByRecursion (SendsTo servers n deeds c) (jobs_once_more run (text_of run deeds) s b)
jobs_again servers n deeds c run s begins.Starting l e = ((s, l, refl, inr (refl, subst IsBegun (sym e) tt)), tt)
jobs_again servers n deeds c run s _ l e = tt

wanted : (servers : ℕ) (n : ClientNote) (deeds : List Deed) (c : PacketInput) (run attempt job s : ℕ) (x : Option State) → s < servers
    → IsSaid c s (bodies.WantState run attempt job) → kept_of (record { run = run; server = s; job = job }) n.kept ≡ x
    → SendsTo servers n deeds c (state_for run attempt job s x)
wanted servers n deeds c run attempt job s (Some state) l h e = (s, l, refl, (run, job, h, e))
wanted servers n deeds c run attempt job s None l h e = (s, l, refl, (h, e))

-- what goes to servers may go out
server_too : (peers : Peers) (n : ClientNote) (deeds : List Deed) (c : PacketInput) (ps : List PacketParts) → AllByRecursion (SendsTo peers.servers n deeds c) ps
    → AllByRecursion (Sends peers n deeds c) ps
server_too peers n deeds c ps h = all_weaker (SendsTo peers.servers n deeds c) (Sends peers n deeds c) ps (λ p w. inl w) h

copied : (peers : Peers) (n : ClientNote) (deeds : List Deed) (c : PacketInput) (s jobs : ℕ) (state : State) (m : Bool) (x : Option State) → peers.mirror ≡ m
    → IsSaid c s (bodies.State jobs state) → AllByRecursion (Sends peers n deeds c) (copy_for m state x)
copied peers n deeds c s jobs state true None m h = (inr (m, refl, inr (s, jobs, h)), tt)
copied peers n deeds c s jobs state true (Some k) m h = tt
copied peers n deeds c s jobs state false x m h = tt

replied : (peers : Peers) (n : ClientNote) (deeds : List Deed) (c : PacketInput) (s : ℕ) (body : Body) → s < peers.servers → IsSaid c s body
    → AllByRecursion (Sends peers n deeds c) (replies peers.mirror n deeds s body)
replied peers n deeds c s (bodies.JobsOk run jobs) l h =
    server_too peers n deeds c (start_for run s (begin_at run s deeds)) (starting peers.servers n deeds c run s (begin_at run s deeds) l refl)
replied peers n deeds c s (bodies.State jobs state) l h =
    (inl (s, l, refl, inl (jobs, state, h, refl, refl)), copied peers n deeds c s jobs state peers.mirror (kept_of state.key n.kept) refl h)
replied peers n deeds c s (bodies.NoState run job jobs) l h = (inl (s, l, refl, inr (jobs, h)), tt)
replied peers n deeds c s (bodies.WantState run attempt job) l h =
    (inl (wanted peers.servers n deeds c run attempt job s (kept_of (record { run = run; server = s; job = job }) n.kept) l h refl), tt)
replied peers n deeds c s (bodies.Refused r) l h =
    server_too peers n deeds c (if lacks_jobs r.asked r.reason then jobs_once_more r.run (text_of r.run deeds) s (begin_at r.run s deeds) else [])
    (all_where (SendsTo peers.servers n deeds c) (lacks_jobs r.asked r.reason) (jobs_once_more r.run (text_of r.run deeds) s (begin_at r.run s deeds))
    (λ b. jobs_again peers.servers n deeds c r.run s (begin_at r.run s deeds) l refl))
replied peers n deeds c s _ l h = tt

begun_again : (servers : ℕ) (n : ClientNote) (deeds : List Deed) (c : PacketInput) (run s : ℕ) (b : Beginning) → s < servers → begin_at run s deeds ≡ b
    → AllByRecursion (SendsTo servers n deeds c) (begin_again run (text_of run deeds) s b)
begun_again servers n deeds c run s begins.Staging l e = ((s, l, refl, inr (refl, subst IsBegun (sym e) tt)), tt)
begun_again servers n deeds c run s begins.Starting l e = ((s, l, refl, subst IsBegun (sym e) tt), tt)
begun_again servers n deeds c run s _ l e = tt

asked_again : (servers : ℕ) (n : ClientNote) (deeds : List Deed) (c : PacketInput) (body : Body) (s : ℕ) (q : Request) → s < servers → (IsAsked q → Why n deeds c s body)
    → AllByRecursion (SendsTo servers n deeds c) (packets_again body s q)
asked_again servers n deeds c body s (requests.Open ts) l w = ((s, l, refl, w tt), tt)
asked_again servers n deeds c body s _ l w = tt

of_run : (servers : ℕ) (n : ClientNote) (deeds : List Deed) (c : PacketInput) (run : ℕ) → (1 ≤ run) × (run ≤ n.runs)
    → AllByRecursion (SendsTo servers n deeds c) (run_again servers deeds run)
of_run servers n deeds c run used =
    let low : 1 ≤ run = used.0 in
    let high : run ≤ n.runs = used.1 in
    let each = all_below servers servers (omega arith) in
    all_append (SendsTo servers n deeds c) (flat_map (λ s. begin_again run (text_of run deeds) s (begin_at run s deeds)) (numbers_below servers)) _
    (flat_of (λ s. s < servers) (SendsTo servers n deeds c) (λ s. begin_again run (text_of run deeds) s (begin_at run s deeds)) (numbers_below servers) each
    (λ s l. begun_again servers n deeds c run s (begin_at run s deeds) l refl))
    (all_append (SendsTo servers n deeds c) (flat_map (λ s. packets_again (bodies.Trigger run (act_of run deeds)) s (trigger_at run s deeds))
    (numbers_below servers)) _
    (flat_of (λ s. s < servers) (SendsTo servers n deeds c) (λ s. packets_again (bodies.Trigger run (act_of run deeds)) s (trigger_at run s deeds))
    (numbers_below servers) each (λ s l. asked_again servers n deeds c (bodies.Trigger run (act_of run deeds)) s (trigger_at run s deeds) l
    (λ a. inr (low, high))))
    (flat_of (λ s. s < servers) (SendsTo servers n deeds c) (λ s. packets_again (bodies.Stop run) s (stop_at run s deeds)) (numbers_below servers) each
    (λ s l. asked_again servers n deeds c (bodies.Stop run) s (stop_at run s deeds) l (λ a. inr (low, high)))))

of_attempt : (servers : ℕ) (n : ClientNote) (deeds : List Deed) (c : PacketInput) (attempt : ℕ)
    → AllByRecursion (SendsTo servers n deeds c) (attempt_again servers deeds attempt)
of_attempt servers n deeds c attempt =
    flat_of (λ s. s < servers) (SendsTo servers n deeds c)
    (λ s. packets_again (bodies.Verify (run_of attempt deeds) attempt (check_of attempt deeds)) s (verify_at attempt s deeds)) (numbers_below servers)
    (all_below servers servers (omega arith))
    (λ s l. asked_again servers n deeds c (bodies.Verify (run_of attempt deeds) attempt (check_of attempt deeds)) s (verify_at attempt s deeds) l
    (λ a. inr (refl, refl, a)))

heard : (peers : Peers) (n : ClientNote) (deeds : List Deed) (p : PacketParts) → is_for_client peers p ≡ true
    → AllByRecursion (Sends peers n deeds (Deliver p)) (replies peers.mirror n deeds (node_number p.from) p.body)
heard peers n deeds p ours = elim (cases_Bool (is_of_mirror (kind_of p.body))) [
  | inl t ↦ subst (AllByRecursion (Sends peers n deeds (Deliver p))) (sym (no_reply peers.mirror n deeds (node_number p.from) p.body t)) tt
  | inr f ↦ replied peers n deeds (Deliver p) (node_number p.from) p.body (sender_below peers p.from p.to p.body f ours)
      (ap (λ (x : PacketParts). Deliver x) (from_own peers p.from p.to p.body f ours))
]

-- what a tick sends to the mirror
fetched : (peers : Peers) (n : ClientNote) (deeds : List Deed) (c : PacketInput) (m g r : Bool) → peers.mirror ≡ m → nat_lt 0 n.generation ≡ g
    → AllByRecursion (Sends peers n deeds c) (if m && (g && r) then to_mirror (bodies.Fetch n.generation) ∷ [] else [])
fetched peers n deeds c true true true m g = (inr (m, refl, (refl, ltb-true 0 n.generation g)), tt)
fetched peers n deeds c true true false m g = tt
fetched peers n deeds c true false r m g = tt
fetched peers n deeds c false g r m e = tt

copied_again : (peers : Peers) (n : ClientNote) (deeds : List Deed) (c : PacketInput) (state : State) (known : Bool) → peers.mirror ≡ true → Contains n.kept state
    → AllByRecursion (Sends peers n deeds c) (if known then [] else to_mirror (bodies.Copy state) ∷ [])
copied_again peers n deeds c state true m h = tt
copied_again peers n deeds c state false m h = (inr (m, refl, inl h), tt)

all_copied : (peers : Peers) (n : ClientNote) (deeds : List Deed) (c : PacketInput) (m : Bool) → peers.mirror ≡ m
    → AllByRecursion (Sends peers n deeds c) (copies_again m n.kept deeds)
all_copied peers n deeds c true m =
    flat_of (λ s. Contains n.kept s) (Sends peers n deeds c) (copy_again deeds) n.kept (each_is_there n.kept)
    (λ s h. copied_again peers n deeds c s (is_copied s.key deeds) m h)
all_copied peers n deeds c false m = tt

called : (on : Bool) (peers : Peers) (n : ClientNote) (deeds : List Deed) (c : PacketInput) → AllByRecursion (λ r. (1 ≤ r) × (r ≤ n.runs)) (runs_of deeds)
    → refusal_by on peers n c ≡ None → AllByRecursion (Sends peers n deeds c) (packets_for peers n deeds c)
called on peers n deeds (Begin text) begun e = server_too peers n deeds (Begin text) (to_all peers.servers (bodies.Jobs (n.runs + 1) text))
    (to_each peers.servers n deeds (Begin text) (bodies.Jobs (n.runs + 1) text) (λ s. inl (refl, refl)))
called on peers n deeds (Trigger run act) begun e = server_too peers n deeds (Trigger run act) (to_all peers.servers (bodies.Trigger run act))
    (to_each peers.servers n deeds (Trigger run act) (bodies.Trigger run act) (λ s. inl refl))
called on peers n deeds (Stop run) begun e =
    server_too peers n deeds (Stop run) (to_all peers.servers (bodies.Stop run)) (to_each peers.servers n deeds (Stop run) (bodies.Stop run) (λ s. inl refl))
called on peers n deeds (Verify run text) begun e = server_too peers n deeds (Verify run text) (to_all peers.servers (bodies.Verify run (n.attempts + 1) text))
    (to_each peers.servers n deeds (Verify run text) (bodies.Verify run (n.attempts + 1) text) (λ s. inl (refl, refl)))
called on peers n deeds (Deliver p) begun e = heard peers n deeds p ((taken_in on peers n p e).1)
called on peers n deeds Tick begun e =
    all_append (Sends peers n deeds Tick) (fetch_again peers n.generation) _
    (fetched peers n deeds Tick peers.mirror (nat_lt 0 n.generation) (not peers.granted) refl refl)
    (all_append (Sends peers n deeds Tick) (requests_again peers.servers deeds) _
    (server_too peers n deeds Tick (requests_again peers.servers deeds)
    (all_append (SendsTo peers.servers n deeds Tick) (flat_map (run_again peers.servers deeds) (rising (runs_of deeds))) _
    (flat_of (λ r. (1 ≤ r) × (r ≤ n.runs)) (SendsTo peers.servers n deeds Tick) (run_again peers.servers deeds) (rising (runs_of deeds))
    (order_all (λ r. (1 ≤ r) × (r ≤ n.runs)) (runs_of deeds) begun) (λ r u. of_run peers.servers n deeds Tick r u))
    (all_flat (SendsTo peers.servers n deeds Tick) (attempt_again peers.servers deeds) (rising (attempts_of deeds)) (of_attempt peers.servers n deeds Tick))))
    (all_copied peers n deeds Tick peers.mirror refl))

-- an answered call, and why it sends a packet
pub record IsSent (o : Opening) (past : List Entry) (c : PacketInput) (left : SaveOutcome) (p : PacketParts) : Type 0 where
  pub answers : is_answered o past c left ≡ true
  pub taken : refusal o past c ≡ None
  pub why : Sends (peers o past) (words_noted o past) (life o past) c p

pub all_sent : (o : Opening) (past : List Entry) (c : PacketInput) (left : SaveOutcome) → AllByRecursion (IsSent o past c left) (packets o past (Met c left))
all_sent o past c left =
    all_where (IsSent o past c left) (is_answered o past c left) (packets_for (peers o past) (words_noted o past) (life o past) c)
    (λ a.
    let e = none_or (refusal o past c) (is_answer (due o past c) left) a in
    all_weaker (Sends (peers o past) (words_noted o past) (life o past) c) (IsSent o past c left)
    (packets_for (peers o past) (words_noted o past) (life o past) c) (λ p w. record { answers = a; taken = e; why = w })
    (called (is_on past) (peers o past) (words_noted o past) (life o past) c (runs_were_begun o past) e))

pub sent_why : (o : Opening) (past : List Entry) (c : PacketInput) (left : SaveOutcome) (p : PacketParts) → Contains (packets o past (Met c left)) p → IsSent o past c left p
sent_why o past c left p h = each_of (IsSent o past c left) (packets o past (Met c left)) p (all_sent o past c left) h
