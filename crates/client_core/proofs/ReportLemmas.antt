-- The reports of this life came from their servers, each once.
use Rattle.std.proofs.Common.{◌≡◌, refl, ℕ, arith, Bool, true, false, ◌&&◌, ◌==◌, List, [], ◌∷◌, ◌++◌, None}
use Rattle.std.specs.Prelude.{if◌then◌else◌, not, Contains}
use Rattle.std.specs.List.{AllByRecursion}
use Rattle.std.proofs.lemmas.Bool.{and_parts, or_parts}
use Rattle.std.proofs.lemmas.Bool.Decides.{nat_tests}
use Rattle.std.proofs.lemmas.List.Elements.{All-contains, All-from_recursion, Contains-append_left, Contains-append_right}
use Rattle.messages.specs.declared.packet.PacketParts.{PacketParts}
use Rattle.messages.specs.declared.body.Body.{Body}
use Rattle.messages.specs.declared.body.Body.TheVariants as bodies
use Rattle.messages.specs.declared.node.Node.{Node}
use Rattle.messages.specs.Nodes.{node_number}
use Rattle.disk_model.specs.declared.save_outcome.SaveOutcome.{SaveOutcome}
use Rattle.client_core.specs.Inputs.{PacketInput, Begin, Trigger, Stop, Verify, Deliver, Tick}
use Rattle.client_core.specs.declared.received.Received.{Received}
use Rattle.client_core.specs.declared.peers.Peers.{Peers}
use Rattle.client_core.specs.History.{Opening, Entry, Met, Cut, Restart, Renew, Lose}
use Rattle.client_core.specs.Refusals.{is_for_client, refusal_by}
use Rattle.client_core.specs.Saves.{addition_of, unless_refused, is_answer}
use Rattle.client_core.specs.Words.{is_on, words_noted, is_answered, peers}
use Rattle.client_core.specs.Life.{Deed, Hears, deeds_of, life, run_of}
use Rattle.client_core.specs.Requests.{verify_at}
use Rattle.client_core.specs.Reports.{counts_for, has_report, with_report, reports_heard, reports}
use Rattle.client_core.specs.Packets.{packets}
use Rattle.client_core.specs.Ranges.{packet_in, packets_come}
use Rattle.client_core.specs.Laws.{from_server, ReportsCame, has_distinct_reports, OneReportEach}
use Rattle.client_core.proofs.HeardLemmas.{from_own, none_or, taken_in}
use Rattle.fc_base.proofs.ListLemmas.{all_append, all_weaker, one}

-- a report came in one of these packets
abbrev Came : List PacketParts → Received → Type 0
Came packets r = (jobs : ℕ) × Contains packets (from_server (bodies.Report r.run r.attempt r.job jobs r.report) r.server)

later : (packets more : List PacketParts) (r : Received) → Came more r → Came (packets ++ more) r
later packets more r h = (h.0, Contains-append_right packets more (from_server (bodies.Report r.run r.attempt r.job h.0 r.report) r.server) h.1)

added : (P : Received → Type 0) (r : Received) (rs : List Received) (b : Bool) → P r → AllByRecursion P rs → AllByRecursion P (if b then rs else rs ++ r ∷ [])
added P r rs true h k = k
added P r rs false h k = all_append P rs (r ∷ []) k (h, tt)

chosen : (P : Received → Type 0) (b : Bool) (xs ys : List Received) → AllByRecursion P xs → AllByRecursion P ys → AllByRecursion P (if b then xs else ys)
chosen P true xs ys h k = h
chosen P false xs ys h k = k

heard : (servers : Peers) (from to : Node) (body : Body) (before : List PacketParts) (deeds : List Deed) (rs : List Received)
    → is_for_client servers (record { from = from; to = to; body = body }) ≡ true
    → AllByRecursion (Came (record { from = from; to = to; body = body } ∷ before)) rs
    → AllByRecursion (Came (record { from = from; to = to; body = body } ∷ before)) (reports_heard deeds (node_number from) body rs)
heard servers from to (bodies.Report run attempt job jobs report) before deeds rs ours k =
    let p : PacketParts = record { from = from; to = to; body = bodies.Report run attempt job jobs report } in
    let r : Received = record { run = run; attempt = attempt; server = node_number from; job = job; report = report } in
    let there : Contains (p ∷ before) (from_server (bodies.Report run attempt job jobs report) (node_number from)) =
    Contains-append_left (p ∷ []) before (from_server (bodies.Report run attempt job jobs report) (node_number from))
    (one p (from_server (bodies.Report run attempt job jobs report) (node_number from))
    (from_own servers from to (bodies.Report run attempt job jobs report) refl ours)) in
    chosen (Came (p ∷ before)) ((run == run_of attempt deeds) && counts_for (record { job = job; jobs = jobs; misfit = false })
    (verify_at attempt (node_number from) deeds)) (with_report r rs) rs
    (added (Came (p ∷ before)) r rs (has_report r.attempt r.server r.job rs) (jobs, there) k) k
heard servers from to _ before deeds rs ours k = k

step : (on : Bool) (servers : Peers) (o : Opening) (past : List Entry) (c : PacketInput) (left : SaveOutcome) (b : Bool)
    → (b ≡ true → refusal_by on servers (words_noted o past) c ≡ None)
    → AllByRecursion (Came (packet_in (Met c left) ++ packets_come past)) (reports (life o past))
    → AllByRecursion (Came (packet_in (Met c left) ++ packets_come past)) (reports (if b then deeds_of (words_noted o past) c ++ life o past else life o past))
step on servers o past c left false f k = k
step on servers o past (Begin text) left true f k = k
step on servers o past (Trigger run act) left true f k = k
step on servers o past (Stop run) left true f k = k
step on servers o past (Verify run text) left true f k = k
step on servers o past (Deliver p) left true f k =
    heard servers p.from p.to p.body (packets_come past) (life o past) (reports (life o past)) ((taken_in on servers (words_noted o past) p (f refl)).1) k
step on servers o past Tick left true f k = k

all_came : (o : Opening) (past : List Entry) → AllByRecursion (Came (packets_come past)) (reports (life o past))
all_came o [] = tt
all_came o (Met c left ∷ past) =
    step (is_on past) (peers o past) o past c left (is_answered o past c left)
    (λ a. none_or (refusal_by (is_on past) (peers o past) (words_noted o past) c)
    (is_answer (unless_refused (refusal_by (is_on past) (peers o past) (words_noted o past) c) (addition_of (words_noted o past) c)) left) a)
    (all_weaker (Came (packets_come past)) (Came (packet_in (Met c left) ++ packets_come past)) (reports (life o past))
    (λ r h. later (packet_in (Met c left)) (packets_come past) r h) (all_came o past))
all_came o (Cut ∷ past) = tt
all_came o (Restart mirror ∷ past) = tt
all_came o (Renew g left ∷ past) = tt
all_came o (Lose ∷ past) = tt

pub reports_came : ReportsCame
reports_came o past r h = All-contains (Came (packets_come past)) (reports (life o past)) r
    (All-from_recursion (Came (packets_come past)) (reports (life o past)) (all_came o past)) h

apart : (r x : Received) → ((x.attempt == r.attempt) && ((x.server == r.server) && (x.job == r.job))) ≡ false
    → ((r.attempt == x.attempt) && ((r.server == x.server) && (r.job == x.job))) ≡ false
apart r x h =
    let a : (x.attempt == r.attempt) ≡ (r.attempt == x.attempt) = grind (arith, nat_tests) in
    let s : (x.server == r.server) ≡ (r.server == x.server) = grind (arith, nat_tests) in
    let j : (x.job == r.job) ≡ (r.job == x.job) = grind (arith, nat_tests) in
    rw (a, s, j) at h

not_in_push : (a s j : ℕ) (rs : List Received) (r : Received) → has_report a s j rs ≡ false → ((r.attempt == a) && ((r.server == s) && (r.job == j))) ≡ false
    → has_report a s j (rs ++ r ∷ []) ≡ false
not_in_push a s j [] r h e = rw e refl
not_in_push a s j (x ∷ rs) r h e =
    let p = or_parts ((x.attempt == a) && ((x.server == s) && (x.job == j))) (has_report a s j rs) h in
    let q : ((x.attempt == a) && ((x.server == s) && (x.job == j))) ≡ false = p.0 in
    rw q (not_in_push a s j rs r p.1 e)

not_true : (b : Bool) → not b ≡ true → b ≡ false
not_true true h = cc
not_true false h = refl

distinct_push : (rs : List Received) (r : Received) → has_report r.attempt r.server r.job rs ≡ false → has_distinct_reports rs ≡ true
    → has_distinct_reports (rs ++ r ∷ []) ≡ true
distinct_push [] r h k = refl
distinct_push (x ∷ rs) r h k =
    let p = or_parts ((x.attempt == r.attempt) && ((x.server == r.server) && (x.job == r.job))) (has_report r.attempt r.server r.job rs) h in
    let q = and_parts (not (has_report x.attempt x.server x.job rs)) (has_distinct_reports rs) k in
    let none : has_report x.attempt x.server x.job (rs ++ r ∷ []) ≡ false =
    not_in_push x.attempt x.server x.job rs r (not_true (has_report x.attempt x.server x.job rs) q.0) (apart r x p.0) in
    rw none (distinct_push rs r p.1 q.1)

with_one : (rs : List Received) (r : Received) (b : Bool) → has_report r.attempt r.server r.job rs ≡ b → has_distinct_reports rs ≡ true
    → has_distinct_reports (if b then rs else rs ++ r ∷ []) ≡ true
with_one rs r true e k = k
with_one rs r false e k = distinct_push rs r e k

kept_once : (b : Bool) (xs ys : List Received) → has_distinct_reports xs ≡ true → has_distinct_reports ys ≡ true
    → has_distinct_reports (if b then xs else ys) ≡ true
kept_once true xs ys h k = h
kept_once false xs ys h k = k

heard_once : (deeds : List Deed) (server : ℕ) (body : Body) (rs : List Received) → has_distinct_reports rs ≡ true
    → has_distinct_reports (reports_heard deeds server body rs) ≡ true
heard_once deeds server (bodies.Report run attempt job jobs report) rs k =
    let r : Received = record { run = run; attempt = attempt; server = server; job = job; report = report } in
    kept_once ((run == run_of attempt deeds) && counts_for (record { job = job; jobs = jobs; misfit = false }) (verify_at attempt server deeds))
    (with_report r rs) rs
    (with_one rs r (has_report attempt server job rs) refl k) k
heard_once deeds server _ rs k = k

once : (deeds : List Deed) → has_distinct_reports (reports deeds) ≡ true
once [] = refl
once (Hears server body ∷ deeds) = heard_once deeds server body (reports deeds) (once deeds)
once (_ ∷ deeds) = once deeds

pub one_report_each : OneReportEach
one_report_each o past = once (life o past)
