-- Each report that was sent, and so each that the client holds, is of a check that its server was done with.
use Rattle.std.proofs.Common.{◌≡◌, refl, sym, ◌∙◌, ap, subst, inl, inr, ℕ, Bool, true, false, ◌&&◌, ◌==◌, List, [], ◌∷◌, ◌++◌, Option, None, Some}
use Rattle.std.specs.Prelude.{if◌then◌else◌, Contains, IsTrue}
use Rattle.std.proofs.lemmas.Bool.{eqb-true, and_parts}
use Rattle.fc_base.specs.declared.fault.Fault.{Fault}
use Rattle.fc_base.specs.declared.fault.Fault.TheVariants.{Down}
use Rattle.fc_base.specs.declared.report.ReportParts.{ReportParts}
use Rattle.verify_state.specs.State.{State}
use Rattle.messages.specs.declared.body.Body.{Body}
use Rattle.messages.specs.declared.body.Body.TheVariants as bodies
use Rattle.messages.specs.declared.node.Node.{Node}
use Rattle.messages.specs.declared.node.Node.TheVariants.{Server}
use Rattle.messages.specs.declared.packet.PacketParts.{PacketParts}
use Rattle.messages.specs.Bodies.{kind_of}
use Rattle.disk_model.specs.declared.save_outcome.SaveOutcome.{SaveOutcome}
use Rattle.disk_model.specs.declared.save_outcome.SaveOutcome.TheVariants.{Saved}
use Rattle.server_core.specs.Inputs.{PacketInput}
use Rattle.server_core.specs.declared.input.Input.TheVariants.{CheckDone}
use Rattle.server_core.specs.History.{Opening, Entry, Met, Restart}
use Rattle.server_core.specs.Words.{is_on, boot}
use Rattle.server_core.specs.Check.{Progress, Wanting, Full, With, Refused, Done, check, progress, progress_in}
use Rattle.server_core.specs.Answers.{refusal, refused_by, is_ready, is_open_attempt}
use Rattle.server_core.specs.Made.{WasMade, ReportsWereMade}
use Rattle.server_core.specs.Sent.{PacketsGoToClient}
use Rattle.server_core.proofs.MadeLemmas.{still_made}
use Rattle.client_core.specs.History as client
use Rattle.client_core.specs.Packets as clients
use Rattle.client_core.specs.Laws as asked
use Rattle.client_core.specs.Laws.{from_server, is_for_mirror, is_for_server}
use Rattle.mirror_core.specs.Laws as mirror_laws
use Rattle.net_world.specs.Setup.{Setup}
use Rattle.net_world.specs.Trace.{Step, AtServer, AtClient, AtMirror, IsTrace, opening_of, client_opening}
use Rattle.net_world.specs.Trace.{mirror_opening, of_server, of_client, of_mirror, packets_of, sent_packets}
use Rattle.net_world.specs.Exact.{IsMadeWith}
use Rattle.net_world.specs.Reported.{WasReported, SentReportsWereMade}
use Rattle.net_world.specs.Claims.{OfEachTrace}
use Rattle.net_world.specs.Headline.{QuietUntilTheCheck, HeldReportsWereMade}
use Rattle.net_world.proofs.ExactLemmas.{made_with, with_or_full}
use Rattle.net_world.proofs.PassLemmas.{not_of_mirror}
use Rattle.net_world.proofs.TraceLemmas.{own_step, front_is_trace, sent_cases, sent_none, came_was_sent}

-- The laws of the nodes on which this rests, and that of the traces.
pub record Reporting : Type 0 where
  pub quiet : OfEachTrace QuietUntilTheCheck
  pub made : ReportsWereMade
  pub to_client : PacketsGoToClient
  pub to_peers : asked.PacketsGoToPeers
  pub over : mirror_laws.PacketsGoToTheClient

-- ---- where a server's list splits at an input, the trace does

record IsSplit (s : ℕ) (t : List Step) (e : PacketInput) (left : SaveOutcome) (older : List Entry) : Type 0 where
  pub later : List Step
  pub earlier : List Step
  pub split : t ≡ later ++ AtServer s (Met e left) ∷ earlier
  pub older_is : of_server s earlier ≡ older

behind_step : (step : Step) (s : ℕ) (t : List Step) (e : PacketInput) (left : SaveOutcome) (older : List Entry) → IsSplit s t e left older
    → IsSplit s (step ∷ t) e left older
behind_step step s t e left older k =
    record { later = step ∷ k.later; earlier = k.earlier; split = ap (λ (l : List Step). step ∷ l) k.split; older_is = k.older_is }

not_first : (newer : List Entry) (e : PacketInput) (left : SaveOutcome) (older : List Entry) → Restart Saved ∷ [] ≡ newer ++ Met e left ∷ older → ⊥
not_first [] e left older h = cc
not_first (x ∷ []) e left older h = cc
not_first (x ∷ (y ∷ newer)) e left older h = cc

tail_of : (x y : Entry) (l m : List Entry) → ◌≡◌ {A = List Entry} (x ∷ l) (y ∷ m) → l ≡ m
tail_of x y l m h = cc

head_of : (x y : Entry) (l m : List Entry) → ◌≡◌ {A = List Entry} (x ∷ l) (y ∷ m) → x ≡ y
head_of x y l m h = cc

split_if : (b : Bool) (r : ℕ) (x : Entry) (s : ℕ) (past : List Step) (newer : List Entry) (e : PacketInput) (left : SaveOutcome) (older : List Entry) → (r == s) ≡ b
    → ((new : List Entry) → of_server s past ≡ new ++ Met e left ∷ older → IsSplit s past e left older)
    → (if b then x ∷ of_server s past else of_server s past) ≡ newer ++ Met e left ∷ older → IsSplit s (AtServer r x ∷ past) e left older
split_if false r x s past newer e left older is f h = behind_step (AtServer r x) s past e left older (f newer h)
split_if true r x s past [] e left older is f h = record {
  later = [];
  earlier = past;
  split = ap (λ n. AtServer n x ∷ past) (eqb-true r s is) ∙ ap (λ y. AtServer s y ∷ past) (head_of x (Met e left) (of_server s past) older h);
  older_is = tail_of x (Met e left) (of_server s past) older h;
}
split_if true r x s past (n ∷ newer) e left older is f h =
    behind_step (AtServer r x) s past e left older (f newer (tail_of x n (of_server s past) (newer ++ Met e left ∷ older) h))

split_of : (s : ℕ) (t : List Step) (newer : List Entry) (e : PacketInput) (left : SaveOutcome) (older : List Entry) → of_server s t ≡ newer ++ Met e left ∷ older
    → IsSplit s t e left older
split_of s [] newer e left older h = absurd (not_first newer e left older h)
split_of s (AtServer r x ∷ past) newer e left older h =
    split_if (r == s) r x s past newer e left older refl (λ new k. split_of s past new e left older k) h
split_of s (AtClient x ∷ past) newer e left older h = behind_step (AtClient x) s past e left older (split_of s past newer e left older h)
split_of s (AtMirror x ∷ past) newer e left older h = behind_step (AtMirror x) s past e left older (split_of s past newer e left older h)

-- ---- what a check that was done was made with

there_is : (on s t : Bool) (fault : Fault) → (if on then refused_by s t else Some fault) ≡ None → t ≡ true
there_is true true true fault h = refl
there_is true true false fault h = cc
there_is true false t fault h = cc
there_is false s t fault h = cc

-- The end of a check that is accepted is of a job that is ready.
ready_of : (o : Opening) (past : List Entry) (b a j : ℕ) (r : ReportParts) → refusal o past (CheckDone b a j r) ≡ None → is_ready (progress o past j) ≡ true
ready_of o past b a j r fine =
    (and_parts (is_open_attempt a (check o past)) (is_ready (progress o past j)) (there_is (is_on past) (b == boot o past)
    (is_open_attempt a (check o past) && is_ready (progress_in (check o past) j)) Down fine)).1

-- A job that is ready has a state, or is a full pass.
stands : (x : Option Progress) → is_ready x ≡ true → (state : Option State) × (x ≡ Some (with_or_full state))
stands None h = cc
stands (Some Wanting) h = cc
stands (Some Full) h = (None, refl)
stands (Some (With s)) h = (Some s, refl)
stands (Some (Refused value)) h = cc
stands (Some (Done report)) h = cc

reported : Reporting → (w : Setup) (t : List Step) (s run a j : ℕ) (r : ReportParts) → IsTrace w t → WasMade (opening_of s) (of_server s t) run a j r
    → WasReported t s run a j r
reported laws w t s run a j r trace m =
    let k = split_of s t m.newer (CheckDone m.boot a j r) m.left m.older m.split in
    let early : IsTrace w k.earlier =
    (front_is_trace w k.later (AtServer s (Met (CheckDone m.boot a j r) m.left) ∷ k.earlier) (subst (IsTrace w) k.split trace)).0 in
    let p = stands (progress (opening_of s) m.older j) (ready_of (opening_of s) m.older m.boot a j r m.accepted) in
    let here : progress (opening_of s) (of_server s k.earlier) j ≡ Some (with_or_full p.0) = ap (λ l. progress (opening_of s) l j) k.older_is ∙ p.1 in
    record { done = m; state = p.0; made = subst (λ l. IsMadeWith s j l p.0) k.older_is (made_with laws.quiet w k.earlier s j p.0 early here) }

-- ---- what was sent

made_if : (b : Bool) (s : ℕ) (e : Entry) (past : List Step) (run a j : ℕ) (r : ReportParts) → WasMade (opening_of s) (of_server s past) run a j r
    → WasMade (opening_of s) (if b then e ∷ of_server s past else of_server s past) run a j r
made_if true s e past run a j r m = still_made (opening_of s) e (of_server s past) run a j r m
made_if false s e past run a j r m = m

made_stays : (step : Step) (s : ℕ) (past : List Step) (run a j : ℕ) (r : ReportParts) → WasMade (opening_of s) (of_server s past) run a j r
    → WasMade (opening_of s) (of_server s (step ∷ past)) run a j r
made_stays (AtServer n e) s past run a j r m = made_if (n == s) s e past run a j r m
made_stays (AtClient e) s past run a j r m = m
made_stays (AtMirror e) s past run a j r m = m

-- The client sends no Report.
no_report : asked.PacketsGoToPeers → (o : client.Opening) (past : List client.Entry) (e : client.Entry) (p : PacketParts) (run a j jobs : ℕ) (r : ReportParts)
    → Contains (clients.packets o past e) p → p.body ≡ bodies.Report run a j jobs r → ⊥
no_report goes o past e p run a j jobs r h is = elim (goes o past e p h) [
  | inl k ↦ (let kind : IsTrue (is_for_server (kind_of (bodies.Report run a j jobs r))) = subst (λ (b : Body). IsTrue (is_for_server (kind_of b))) is k.3 in
      absurd cc)
  | inr k ↦ (let kind : IsTrue (is_for_mirror (kind_of (bodies.Report run a j jobs r))) = subst (λ (b : Body). IsTrue (is_for_mirror (kind_of b))) is k.2 in
      absurd cc)
]

-- A Report that was sent is of a check of the server that it came from.
abbrev IsOf : List Step → Node → ℕ → ℕ → ℕ → ReportParts → Type 0
IsOf t from run a j r = (s : ℕ) × (from ≡ Server s) × WasMade (opening_of s) (of_server s t) run a j r

now_sent : Reporting → (w : Setup) (step : Step) (past : List Step) (p : PacketParts) (run a j jobs : ℕ) (r : ReportParts)
    → Contains (packets_of w past step) p → p.body ≡ bodies.Report run a j jobs r → IsOf (step ∷ past) p.from run a j r
now_sent laws w (AtServer n e) past p run a j jobs r h is = (
  n,
  ap (λ (q : PacketParts). q.from) (laws.to_client (opening_of n) (of_server n past) e p h).ends,
  subst (λ l. WasMade (opening_of n) l run a j r) (sym (own_step n n e past refl))
      (laws.made (opening_of n) (of_server n past) e p run a j jobs r h is),
)
now_sent laws w (AtClient e) past p run a j jobs r h is =
    absurd (no_report laws.to_peers (client_opening w) (of_client w past) e p run a j jobs r h is)
now_sent laws w (AtMirror e) past p run a j jobs r h is =
    absurd (not_of_mirror laws.over mirror_opening (of_mirror past) e p (bodies.Report run a j jobs r) h is refl)

was_sent : Reporting → (w : Setup) (t : List Step) (p : PacketParts) (run a j jobs : ℕ) (r : ReportParts) → Contains (sent_packets w t) p
    → p.body ≡ bodies.Report run a j jobs r → IsOf t p.from run a j r
was_sent laws w [] p run a j jobs r h is = absurd (sent_none w p h)
was_sent laws w (step ∷ past) p run a j jobs r h is = elim (sent_cases w step past p h) [
  | inl before ↦ (let k = was_sent laws w past p run a j jobs r before is in (k.0, k.1, made_stays step k.0 past run a j r k.2))
  | inr now ↦ now_sent laws w step past p run a j jobs r now is
]

pub sent_reports_were_made : Reporting → OfEachTrace SentReportsWereMade
sent_reports_were_made laws w t trace p run a j jobs r h is =
    let k = was_sent laws w t p run a j jobs r h is in
    (k.0, k.1, reported laws w t k.0 run a j r trace k.2)

-- ---- what the client holds

same_server : (s n : ℕ) → Server s ≡ Server n → s ≡ n
same_server s n h = cc

pub held_reports_were_made : Reporting → asked.ReportsCame → OfEachTrace HeldReportsWereMade
held_reports_were_made laws came w t trace r h =
    let c = came (client_opening w) (of_client w t) r h in
    let p = from_server (bodies.Report r.run r.attempt r.job c.0 r.report) r.server in
    let k = sent_reports_were_made laws w t trace p r.run r.attempt r.job c.0 r.report (came_was_sent w t p trace c.1) refl in
    subst (λ n. WasReported t n r.run r.attempt r.job r.report) (sym (same_server r.server k.0 k.1)) k.2
