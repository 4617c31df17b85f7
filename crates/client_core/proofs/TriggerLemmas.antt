-- When a trigger has ended well, each of its jobs has an answer.
use Rattle.std.proofs.Common.{◌≡◌, refl, sym, ◌∙◌, ap, subst, ◌⊎◌, inl, inr, ℕ, zero, suc, ◌+◌, ◌<◌, arith}
use Rattle.std.proofs.Common.{Bool, true, false, ◌&&◌, ◌||◌, ◌==◌, List, [], ◌∷◌, ◌++◌, Option, None, Some}
use Rattle.std.specs.Prelude.{if◌then◌else◌, is_none, Contains}
use Rattle.std.specs.List.{AllByRecursion, list_all}
use Rattle.std.proofs.lemmas.Bool.{and_parts, eqb-true}
use Rattle.std.proofs.lemmas.List.Elements.{Contains-append_left, Contains-append_right}
use Rattle.fc_base.specs.declared.numbers.Key.{Key}
use Rattle.fc_base.specs.declared.fault.Fault.{Fault}
use Rattle.fc_base.specs.Counted.{numbers_below}
use Rattle.verify_state.specs.State.{State}
use Rattle.messages.specs.declared.packet.PacketParts.{PacketParts}
use Rattle.messages.specs.declared.body.Body.{Body}
use Rattle.messages.specs.declared.body.Body.TheVariants as bodies
use Rattle.messages.specs.declared.node.Node.{Node}
use Rattle.messages.specs.declared.refusal.RefusedRequest.{RefusedRequest}
use Rattle.messages.specs.declared.refusal.RefusedRequest.TheVariants as asks
use Rattle.messages.specs.declared.refusal.Reason.{Reason}
use Rattle.messages.specs.declared.refusal.Reason.TheVariants as reasons
use Rattle.messages.specs.Nodes.{node_number}
use Rattle.disk_model.specs.declared.save_outcome.SaveOutcome.{SaveOutcome}
use Rattle.disk_model.specs.SaveOutcome.{has_new}
use Rattle.client_core.specs.Inputs.{PacketInput, Begin, Trigger, Stop, Verify, Deliver, Tick}
use Rattle.verify_state.specs.StateTable.{kept_of}
use Rattle.verify_state.specs.TableLaws.{LastIsFound}
use Rattle.client_core.specs.declared.note.ClientNote.{ClientNote}
use Rattle.client_core.specs.declared.peers.Peers.{Peers}
use Rattle.client_core.specs.History.{Opening, Entry, Met, Cut, Restart, Renew, Lose}
use Rattle.client_core.specs.Refusals.{is_for_client, refusal_by}
use Rattle.client_core.specs.Saves.{Addition, unless_kept, addition_by, addition_of, unless_refused, noted_after, is_answer}
use Rattle.client_core.specs.Words.{is_on, words_noted, peers}
use Rattle.client_core.specs.Life.{Deed, Begins, Triggers, Stops, Verifies, Hears, deeds_of, life}
use Rattle.client_core.specs.Requests.{Telling, Request, jobs_told, tells_of, tells_all, has_misfit}
use Rattle.client_core.specs.Requests.{when_one_tells, when_refused, trigger_refused, trigger_heard, trigger_at}
use Rattle.client_core.specs.Requests as requests
use Rattle.client_core.specs.Packets.{packets}
use Rattle.client_core.specs.Ranges.{packet_in, packets_come}
use Rattle.client_core.specs.Laws.{from_server, FirstKeptStays, HasAnswer, TellsJobs, EndsWell, TriggersEndWell}
use Rattle.client_core.proofs.HeardLemmas.{from_own, has_one, own_state, taken_in}
use Rattle.fc_base.proofs.ListLemmas.{all_weaker, one}

-- what is known of what was told
abbrev Told : ClientNote → List PacketParts → ℕ → ℕ → Telling → Type 0
Told n packets run server t = HasAnswer n packets run server t.job × TellsJobs packets run server t.jobs

abbrev Known : ClientNote → List PacketParts → ℕ → ℕ → Request → Type 0
Known n packets run server requests.Unasked = Unit {0}
Known n packets run server (requests.Open ts) = AllByRecursion (Told n packets run server) ts
Known n packets run server requests.Served = EndsWell n packets run server
Known n packets run server (requests.Denied reason) = Unit {0}

-- more is kept and more has come
record Grows (n m : ClientNote) (packets more : List PacketParts) : Type 0 where
  kept : (key : Key) (s : State) → kept_of key n.kept ≡ Some s → kept_of key m.kept ≡ Some s
  came : (p : PacketParts) → Contains packets p → Contains more p

answer_grows : (n m : ClientNote) (packets more : List PacketParts) (run server job : ℕ) → Grows n m packets more → HasAnswer n packets run server job
    → HasAnswer m more run server job
answer_grows n m packets more run server job g (inl a) = inl (a.0, g.kept (record { run = run; server = server; job = job }) a.0 a.1)
answer_grows n m packets more run server job g (inr a) = inr (a.0, g.came (from_server (bodies.NoState run job a.0) server) a.1)

jobs_grow : (n m : ClientNote) (packets more : List PacketParts) (run server jobs : ℕ) → Grows n m packets more → TellsJobs packets run server jobs
    → TellsJobs more run server jobs
jobs_grow n m packets more run server jobs g (inl a) = inl (a.0, a.1, g.came (from_server (bodies.State jobs a.0) server) a.2)
jobs_grow n m packets more run server jobs g (inr a) = inr (a.0, g.came (from_server (bodies.NoState run a.0 jobs) server) a.1)

known_grows : (n m : ClientNote) (packets more : List PacketParts) (run server : ℕ) (q : Request) → Grows n m packets more → Known n packets run server q
    → Known m more run server q
known_grows n m packets more run server requests.Unasked g k = tt
known_grows n m packets more run server (requests.Open ts) g k =
    all_weaker (Told n packets run server) (Told m more run server) ts
    (λ t a. (answer_grows n m packets more run server t.job g a.0, jobs_grow n m packets more run server t.jobs g a.1)) k
known_grows n m packets more run server requests.Served g k = record {
  jobs = k.jobs;
  told = jobs_grow n m packets more run server k.jobs g k.told;
  each = λ job l. answer_grows n m packets more run server job g (k.each job l);
}
known_grows n m packets more run server (requests.Denied reason) g k = tt

-- the first telling told the number of jobs
first_told : (n : ClientNote) (packets : List PacketParts) (run server : ℕ) (t : Telling) (ts : List Telling) → AllByRecursion (Told n packets run server) (t ∷ ts)
    → TellsJobs packets run server (jobs_told (t ∷ ts))
first_told n packets run server t [] a = a.0.1
first_told n packets run server t (u ∷ ts) a = first_told n packets run server u ts a.1

and_last : (f : ℕ → Bool) (xs : List ℕ) (x : ℕ) → list_all f (xs ++ x ∷ []) ≡ true → (list_all f xs ≡ true) × (f x ≡ true)
and_last f [] x h = (refl, (and_parts (f x) true h).0)
and_last f (y ∷ xs) x h =
    let p = and_parts (f y) (list_all f (xs ++ x ∷ [])) h in
    let q = and_last f xs x p.1 in
    let a : f y ≡ true = p.0 in
    let b : list_all f xs ≡ true = q.0 in
    (rw (a, b) refl, q.1)

below_or_last : (j n : ℕ) → j < suc n → (j < n) ⊎ (j ≡ n)
below_or_last j n h = grind arith

each_below : (f : ℕ → Bool) (n j : ℕ) → list_all f (numbers_below n) ≡ true → j < n → f j ≡ true
each_below f zero j h l = absurd (omega arith)
each_below f (suc n) j h l =
    let p = and_last f (numbers_below n) n h in
    go (below_or_last j n l) (λ m. each_below f n j p.0 m) p.1
  where
    go : (j < n) ⊎ (j ≡ n) → (j < n → f j ≡ true) → f n ≡ true → f j ≡ true
    go (inl m) g last = g m
    go (inr e) g last = rw e last

found_told : (n : ClientNote) (packets : List PacketParts) (run server : ℕ) (ts : List Telling) (job : ℕ) → AllByRecursion (Told n packets run server) ts
    → tells_of ts job ≡ true → HasAnswer n packets run server job
found_told n packets run server [] job a h = cc
found_told n packets run server (t ∷ ts) job a h = here (t.job == job) refl h (λ g. found_told n packets run server ts job a.1 g)
  where
    here : (b : Bool) → (t.job == job) ≡ b → (b || tells_of ts job) ≡ true → (tells_of ts job ≡ true → HasAnswer n packets run server job)
        → HasAnswer n packets run server job
    here true e h f = subst (λ j. HasAnswer n packets run server j) (eqb-true t.job job e) a.0.0
    here false e h f = f h

-- an open request that is told of one more job
ends : (n : ClientNote) (packets : List PacketParts) (run server : ℕ) (t : Telling) (ts : List Telling) (all misfit : Bool) → tells_all (t ∷ ts) ≡ all
    → AllByRecursion (Told n packets run server) (t ∷ ts)
    → Known n packets run server (if all then (if misfit then requests.Denied reasons.Misfit else requests.Served) else requests.Open (t ∷ ts))
ends n packets run server t ts true true e a = tt
ends n packets run server t ts true false e a = record {
  jobs = jobs_told (t ∷ ts);
  told = first_told n packets run server t ts a;
  each = λ job l. found_told n packets run server (t ∷ ts) job a (each_below (tells_of (t ∷ ts)) (jobs_told (t ∷ ts)) job e l);
}
ends n packets run server t ts false misfit e a = a

told_one : (n : ClientNote) (packets : List PacketParts) (run server : ℕ) (t : Telling) (q : Request) → Told n packets run server t → Known n packets run server q
    → Known n packets run server (when_one_tells t q)
told_one n packets run server t (requests.Open ts) h k = ends n packets run server t ts (tells_all (t ∷ ts)) (has_misfit (t ∷ ts)) refl (h, k)
told_one n packets run server t requests.Unasked h k = tt
told_one n packets run server t requests.Served h k = k
told_one n packets run server t (requests.Denied reason) h k = tt

refused_one : (n : ClientNote) (packets : List PacketParts) (run server : ℕ) (reason : Reason) (q : Request) → Known n packets run server q
    → Known n packets run server (when_refused reason q)
refused_one n packets run server reasons.Busy q k = k
refused_one n packets run server reasons.Misfit q k = k
refused_one n packets run server reason (requests.Open ts) k = tt
refused_one n packets run server reason requests.Unasked k = k
refused_one n packets run server reason requests.Served k = k
refused_one n packets run server reason (requests.Denied r) k = k

denied : (n : ClientNote) (packets : List PacketParts) (run server : ℕ) (asked : RefusedRequest) (reason : Reason) (q : Request) → Known n packets run server q
    → Known n packets run server (trigger_refused asked reason q)
denied n packets run server asks.Trigger reason q k = refused_one n packets run server reason q k
denied n packets run server _ reason q k = k

either : (n : ClientNote) (packets : List PacketParts) (run server : ℕ) (b : Bool) (q r : Request) → (b ≡ true → Known n packets run server q)
    → Known n packets run server r → Known n packets run server (if b then q else r)
either n packets run server true q r f k = f refl
either n packets run server false q r f k = k

heard : LastIsFound → (servers : Peers) (n : ClientNote) (run server : ℕ) (from to : Node) (body : Body) (left : SaveOutcome) (before : List PacketParts) (q : Request)
    → is_for_client servers (record { from = from; to = to; body = body }) ≡ true → is_answer (addition_by n body) left ≡ true → node_number from ≡ server
    → Known (noted_after (has_new left) (addition_by n body) n) (record { from = from; to = to; body = body } ∷ before) run server q
    → Known (noted_after (has_new left) (addition_by n body) n) (record { from = from; to = to; body = body } ∷ before) run server (trigger_heard run body q)
heard last servers n run server from to (bodies.State jobs state) left before q ours a here k =
    let m = noted_after (has_new left) (unless_kept (kept_of state.key n.kept) state) n in
    let p : PacketParts = record { from = from; to = to; body = bodies.State jobs state } in
    let f = has_one last n left (kept_of state.key n.kept) state refl a in
    let t : Telling = record { job = state.key.job; jobs = jobs; misfit = false } in
    either m (p ∷ before) run server (state.key.run == run) (when_one_tells t q) q
    (λ e.
    let r : state.key.run ≡ run = eqb-true state.key.run run e in
    let s : state.key.server ≡ server = own_state servers from to jobs state ours ∙ here in
    let key : state.key ≡ record { run = run; server = server; job = state.key.job } = λ i. record { run = r i; server = s i; job = state.key.job } in
    let whole : p ≡ from_server (bodies.State jobs state) server =
    from_own servers from to (bodies.State jobs state) refl ours ∙ ap (from_server (bodies.State jobs state)) here in
    told_one m (p ∷ before) run server t q (
      inl (f.0, subst (λ (x : Key). kept_of x m.kept ≡ Some f.0) key f.1),
      inl (
        state,
        r,
        Contains-append_left (p ∷ []) before (from_server (bodies.State jobs state) server) (one p
            (from_server (bodies.State jobs state) server) whole),
      ),
    ) k)
    k
heard last servers n run server from to (bodies.NoState r job jobs) left before q ours a here k =
    let p : PacketParts = record { from = from; to = to; body = bodies.NoState r job jobs } in
    let t : Telling = record { job = job; jobs = jobs; misfit = false } in
    either n (p ∷ before) run server (r == run) (when_one_tells t q) q
    (λ e.
    let r' : r ≡ run = eqb-true r run e in
    let whole : p ≡ from_server (bodies.NoState run job jobs) server =
    from_own servers from to (bodies.NoState r job jobs) refl ours ∙ (λ i. from_server (bodies.NoState (r' i) job jobs) (here i)) in
    let there : Contains (p ∷ before) (from_server (bodies.NoState run job jobs) server) =
    Contains-append_left (p ∷ []) before (from_server (bodies.NoState run job jobs) server)
    (one p (from_server (bodies.NoState run job jobs) server) whole) in
    told_one n (p ∷ before) run server t q (inr (jobs, there), inr (job, there)) k)
    k
heard last servers n run server from to (bodies.Refused r) left before q ours a here k =
    let more = record { from = from; to = to; body = bodies.Refused r } ∷ before in
    either n more run server (r.run == run) (trigger_refused r.asked r.reason q) q (λ e. denied n more run server r.asked r.reason q k) k
heard last servers n run server from to _ left before q ours a here k = k

called : LastIsFound → (on : Bool) (servers : Peers) (n : ClientNote) (c : PacketInput) (left : SaveOutcome) (before : List PacketParts) (run server : ℕ) (deeds : List Deed)
    (r : Option Fault) → r ≡ refusal_by on servers n c
    → Known (noted_after (has_new left) (unless_refused r (addition_of n c)) n) (packet_in (Met c left) ++ before) run server (trigger_at run server deeds)
    → Known (noted_after (has_new left) (unless_refused r (addition_of n c)) n) (packet_in (Met c left) ++ before) run server
    (trigger_at run server (if is_none r && is_answer (unless_refused r (addition_of n c)) left then deeds_of n c ++ deeds else deeds))
called last on servers n c left before run server deeds (Some f) e k = k
called last on servers n (Begin text) left before run server deeds None e k = same (is_answer (addition_of n (Begin text)) left)
  where
    same : (b : Bool) → Known (noted_after (has_new left) (addition_of n (Begin text)) n) before run server
        (trigger_at run server (if b then Begins (n.runs + 1) text ∷ deeds else deeds))
    same true = k
    same false = k
called last on servers n (Trigger r act) left before run server deeds None e k = same (is_answer {D = Addition} None left)
  where
    same : (b : Bool) → Known n before run server (trigger_at run server (if b then Triggers r act ∷ deeds else deeds))
    same true = either n before run server (r == run) (requests.Open []) (trigger_at run server deeds) (λ e. tt) k
    same false = k
called last on servers n (Stop r) left before run server deeds None e k = same (is_answer {D = Addition} None left)
  where
    same : (b : Bool) → Known n before run server (trigger_at run server (if b then Stops r ∷ deeds else deeds))
    same true = k
    same false = k
called last on servers n (Verify r text) left before run server deeds None e k = same (is_answer (addition_of n (Verify r text)) left)
  where
    same : (b : Bool) → Known (noted_after (has_new left) (addition_of n (Verify r text)) n) before run server
        (trigger_at run server (if b then Verifies r (n.attempts + 1) text ∷ deeds else deeds))
    same true = k
    same false = k
called last on servers n (Deliver p) left before run server deeds None e k = same (is_answer (addition_by n p.body) left) refl
  where
    same : (b : Bool) → is_answer (addition_by n p.body) left ≡ b
        → Known (noted_after (has_new left) (addition_by n p.body) n) (p ∷ before) run server
        (trigger_at run server (if b then Hears (node_number p.from) p.body ∷ deeds else deeds))
    same true a =
        either (noted_after (has_new left) (addition_by n p.body) n) (p ∷ before) run server (node_number p.from == server)
        (trigger_heard run p.body (trigger_at run server deeds)) (trigger_at run server deeds)
        (λ here. heard last servers n run server p.from p.to p.body left before (trigger_at run server deeds) ((taken_in on servers n p (sym e)).1) a
        (eqb-true (node_number p.from) server here) k) k
    same false a = k
called last on servers n Tick left before run server deeds None e k = same (is_answer {D = Addition} None left)
  where
    same : (b : Bool) → Known n before run server (trigger_at run server (if b then deeds else deeds))
    same true = k
    same false = k

known : LastIsFound → FirstKeptStays → (o : Opening) (past : List Entry) (run server : ℕ)
    → Known (words_noted o past) (packets_come past) run server (trigger_at run server (life o past))
known last stays o [] run server = tt
known last stays o (Met c left ∷ past) run server =
    called last (is_on past) (peers o past) (words_noted o past) c left (packets_come past) run server (life o past)
    (refusal_by (is_on past) (peers o past) (words_noted o past) c) refl
    (known_grows (words_noted o past) (words_noted o (Met c left ∷ past)) (packets_come past) (packets_come (Met c left ∷ past)) run server
    (trigger_at run server (life o past))
    (record {
      kept = λ key s h. stays o (Met c left ∷ []) past key s refl h;
      came = λ p h. Contains-append_right (packet_in (Met c left)) (packets_come past) p h;
    }) (known last stays o past run server))
known last stays o (Cut ∷ past) run server = tt
known last stays o (Restart mirror ∷ past) run server = tt
known last stays o (Renew g left ∷ past) run server = tt
known last stays o (Lose ∷ past) run server = tt

pub triggers_end_well : LastIsFound → FirstKeptStays → TriggersEndWell
triggers_end_well last stays o past run server h =
    subst (λ q. Known (words_noted o past) (packets_come past) run server q) h (known last stays o past run server)
