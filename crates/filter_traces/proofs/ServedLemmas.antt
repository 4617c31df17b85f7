-- A server that has served another fleet, and the client that it served.
use Rattle.std.proofs.Common.{◌≡◌, refl, sym, ◌∙◌, ap, subst, ℕ, zero, suc, ◌+◌, ◌<◌, ◌≤◌, ◌^◌, arith, Bool, true, false, List, [], ◌∷◌, ◌++◌, length, Option, Some, None, Ok}
use Rattle.std.specs.Prelude.{Contains, map, nat_le, nat_lt, ◌==◌, ◌&&◌, is_none, if◌then◌else◌}
use Rattle.std.specs.List.{flat_map}
use Rattle.std.proofs.lemmas.Bool.Decides.{nat_tests}
use Rattle.std.proofs.lemmas.Bool.{eqb-true}
use Rattle.std.proofs.lemmas.List.{map-append}
use Rattle.std.proofs.lemmas.List.Elements.{Contains-append_left, Contains-append_right}
use Rattle.std.proofs.lemmas.Grind.{flat_map-append}
use Rattle.fc_base.proofs.ListLemmas.{first_of}
use Rattle.fc_base.specs.declared.fault.Fault.{Fault}
use Rattle.fc_base.specs.Counted.{numbers_below}
use Rattle.disk_model.specs.declared.save_outcome.SaveOutcome.{SaveOutcome}
use Rattle.disk_model.specs.declared.save_outcome.SaveOutcome.TheVariants.{NoSave, Saved}
use Rattle.job_file.specs.declared.job.Job.{Job}
use Rattle.job_file.specs.declared.job.Phase.TheVariants.{Write}
use Rattle.messages.specs.declared.body.Body.TheVariants as bodies
use Rattle.messages.specs.declared.node.Node.TheVariants as nodes
use Rattle.messages.specs.declared.frame.Frame.{Frame}
use Rattle.messages.specs.declared.frame.Frame.TheVariants.{Whole}
use Rattle.messages.specs.declared.packet.PacketParts.{PacketParts}
use Rattle.messages.specs.Pieces.{frames_of, is_cut}
use Rattle.messages.specs.Ranges.{is_text}
use Rattle.server_core.specs.declared.input.Input.TheVariants.{Deliver}
use Rattle.server_core.specs.declared.note.ServerNote.{ServerNote}
use Rattle.server_core.specs.Texts.{jobs_for}
use Rattle.server_core.specs.Hearing.{FrameEntry as ServerEntry, Met as ServerMet, Restart as ServerRestart}
use Rattle.server_core.specs.FrameAnswers.{frames as server_frames}
use Rattle.client_core.specs.declared.beginning.Beginning.{Beginning}
use Rattle.client_core.specs.declared.beginning.Beginning.TheVariants.{Staging}
use Rattle.client_core.specs.Inputs.{PacketInput}
use Rattle.client_core.specs.Inputs as inputs
use Rattle.client_core.specs.declared.note.ClientNote.{ClientNote}
use Rattle.client_core.specs.declared.peers.Peers.{Peers}
use Rattle.client_core.specs.History.{Opening, Entry}
use Rattle.client_core.specs.Hearing.{FrameEntry as ClientEntry, Met as ClientMet, Restart as ClientRestart, packets_heard}
use Rattle.client_core.specs.FrameAnswers.{frames as client_frames}
use Rattle.client_core.specs.Begins.{begin_at, begin_heard}
use Rattle.client_core.specs.Life.{Begins, Hears, life}
use Rattle.client_core.specs.Packets.{to_server, to_all, start_for}
use Rattle.client_core.specs.Refusals.{refusal_by, is_for_client, is_from_server, is_from_mirror}
use Rattle.client_core.specs.Saves.{Addition, NextRun, due_by, is_answer, noted_after, unless_refused}
use Rattle.client_core.specs.Words.{is_on, has_mirror, peers, peers_at, words_noted, is_answered, refusal}
use Rattle.net_world.specs.Setup.{without_mirror}
use Rattle.net_world.specs.Trace.{opening_of, client_opening}
use Rattle.filters.specs.ServerAt.{noted as server_noted}
use Rattle.filter_traces.specs.Again.{drawn}
use Rattle.filter_traces.proofs.NumberLemmas.{more_is}
use Rattle.filter_traces.proofs.TellLemmas.{itself}

-- A text that gives these jobs, short enough for one frame.
pub record IsText (text : List ℕ) (jobs : List Job) : Type 0 where
  pub are : jobs_for Write text ≡ Ok jobs
  pub fits : is_text text ≡ true
  pub whole : is_cut (bodies.Jobs 0 text) ≡ false

-- The frames by which a server comes to a run: its jobs, that they are staged, and its start.
abbrev pub jobs_frame : List ℕ → ℕ → ℕ → Frame
jobs_frame text r s = Whole (to_server (bodies.Jobs r text) s)

abbrev pub ok_packet : List Job → ℕ → ℕ → PacketParts
ok_packet jobs r s = record { from = nodes.Server s; to = nodes.Client; body = bodies.JobsOk r (length jobs) }

abbrev pub start_frame : ℕ → ℕ → Frame
start_frame r s = Whole (to_server (bodies.Start r) s)

-- ---- the server

module _ (text : List ℕ) (jobs : List Job) (is : IsText text jobs) (k s : ℕ) where
  abbrev pub staged : List ServerEntry
  staged = ServerMet (Deliver (jobs_frame text (suc k) s)) NoSave ∷ (ServerRestart Saved ∷ [])

  abbrev pub started : List ServerEntry
  started = ServerMet (Deliver (start_frame (suc k) s)) Saved ∷ staged

  pub sends_ok : server_frames (opening_of s) (ServerRestart Saved ∷ []) (ServerMet (Deliver (jobs_frame text (suc k) s)) NoSave)
      ≡ Whole (ok_packet jobs (suc k) s) ∷ []
  sends_ok =
      let over : nat_le (suc k) 0 ≡ false = grind (arith, nat_tests) in
      let none : nat_lt (suc k) 0 ≡ false = grind (arith, nat_tests) in
      rw (itself s, is.are, over, none) refl

  pub started_noted : server_noted (opening_of s) started ≡ record { boot = 1; last_run = suc k }
  started_noted =
      let some : nat_lt 0 (suc k) ≡ true = grind (arith, nat_tests) in
      rw (itself s, is.are, some, some, itself (suc k)) refl

-- So many restarts.
abbrev pub restarts : ℕ → List ServerEntry → List ServerEntry
restarts zero past = past
restarts (suc b) past = ServerRestart Saved ∷ restarts b past

pub restarts_noted : (s b : ℕ) (past : List ServerEntry)
    → server_noted (opening_of s) (restarts b past)
    ≡ record { boot = (server_noted (opening_of s) past).boot + b; last_run = (server_noted (opening_of s) past).last_run }
restarts_noted s zero past = ap (λ x. record { boot = x; last_run = (server_noted (opening_of s) past).last_run }) same
  where
    same : (server_noted (opening_of s) past).boot ≡ (server_noted (opening_of s) past).boot + 0
    same = omega arith
restarts_noted s (suc b) past =
    ap (λ (m : ServerNote). record { boot = m.boot + 1; last_run = m.last_run }) (restarts_noted s b past)
    ∙ ap (λ x. record { boot = x; last_run = (server_noted (opening_of s) past).last_run }) more
  where
    more : ((server_noted (opening_of s) past).boot + b) + 1 ≡ (server_noted (opening_of s) past).boot + suc b
    more = omega arith

-- ---- the client

abbrev pub opening : ℕ → Opening
opening n = client_opening (without_mirror n)

-- It is on, without a mirror; its note says so many runs; and each run is still to be started at the servers
-- from this one on.
pub record HasBegun (n runs from : ℕ) (past : List Entry) : Type 0 where
  pub on : is_on past ≡ true
  pub alone : has_mirror past ≡ false
  pub says : words_noted (opening n) past ≡ drawn runs 0
  pub staging : (k s : ℕ) → suc k ≤ runs → from ≤ s → begin_at (suc k) s (life (opening n) past) ≡ Staging

answered : Bool → Peers → ClientNote → PacketInput → SaveOutcome → Bool
answered on peers m c left = is_none (refusal_by on peers m c) && is_answer (due_by on peers m c) left

is_answered_so : (n runs from : ℕ) (past : List Entry) (c : PacketInput) (left : SaveOutcome) → HasBegun n runs from past
    → answered true (peers_at n past 0) (drawn runs 0) c left ≡ true → is_answered (opening n) past c left ≡ true
unfolding answered
is_answered_so n runs from past c left has h =
    ap (λ (m : ClientNote). answered (is_on past) (peers_at n past m.generation) m c left) has.says
    ∙ (ap (λ b. answered b (peers_at n past 0) (drawn runs 0) c left) has.on ∙ h)

no_less : (runs k : ℕ) → suc k ≤ suc runs → (runs + 1 == suc k) ≡ false → suc k ≤ runs
no_less runs k l h = grind (arith, nat_tests, l, h)

below_it : (s m : ℕ) → s < suc m → (s == m) ≡ false → s < m
below_it s m l e = grind (arith, nat_tests, l, e)

none_due : (x : Option Fault) → unless_refused {D = Addition} x None ≡ None
none_due None = refl
none_due (Some fault) = refl

module _ (text : List ℕ) (jobs : List Job) (is : IsText text jobs) (n : ℕ) where
  begin_answered : (runs : ℕ) (past : List Entry) → has_mirror past ≡ false → runs + 1 < 2 ^ 64
      → answered true (peers_at n past 0) (drawn runs 0) (inputs.Begin text) Saved ≡ true
  unfolding answered
  begin_answered runs past alone fits = rw (is.fits, more_is n runs past alone fits) refl

  begin_due : (runs : ℕ) (past : List Entry) → has_mirror past ≡ false → runs + 1 < 2 ^ 64
      → due_by true (peers_at n past 0) (drawn runs 0) (inputs.Begin text) ≡ Some NextRun
  begin_due runs past alone fits = rw (is.fits, more_is n runs past alone fits) refl

  -- A run more begins.
  pub begins_more : (runs : ℕ) (past : List ClientEntry) → runs + 1 < 2 ^ 64
      → HasBegun n runs 0 (packets_heard (opening n) past)
      → HasBegun n (suc runs) 0 (packets_heard (opening n) (ClientMet (inputs.Begin text) Saved ∷ past))
  begins_more runs past fits has = record {
    on = rw has.on refl;
    alone = has.alone;
    says =
        ap (λ (m : ClientNote). noted_after true (due_by (is_on list) (peers_at n list m.generation) m (inputs.Begin text)) m) has.says
        ∙ (ap (λ b. noted_after true (due_by b (peers_at n list 0) (drawn runs 0) (inputs.Begin text)) (drawn runs 0)) has.on
        ∙ (ap (λ (x : Option Addition). noted_after true x (drawn runs 0)) (begin_due runs list has.alone fits)
        ∙ ap (λ r. drawn r 0) next));
    staging = λ k s l from.
        ap (λ b. begin_at (suc k) s (if b then Begins ((words_noted (opening n) list).runs + 1) text ∷ life (opening n) list else life (opening n) list)) sure
        ∙ (ap (λ (m : ClientNote). begin_at (suc k) s (Begins (m.runs + 1) text ∷ life (opening n) list)) has.says ∙ of_run k s l (runs + 1 == suc k) refl);
  }
    where
      list : List Entry
      list = packets_heard (opening n) past

      next : runs + 1 ≡ suc runs
      next = omega arith

      sure : is_answered (opening n) list (inputs.Begin text) Saved ≡ true
      sure = is_answered_so n runs 0 list (inputs.Begin text) Saved has (begin_answered runs list has.alone fits)

      of_run : (k s : ℕ) → suc k ≤ suc runs → (b : Bool) → (runs + 1 == suc k) ≡ b
          → begin_at (suc k) s (Begins (runs + 1) text ∷ life (opening n) list) ≡ Staging
      of_run k s l true e = rw e refl
      of_run k s l false e = rw e (has.staging k s (no_less runs k l e) (omega arith))

  whole : (r s : ℕ) → frames_of (to_server (bodies.Jobs r text) s) ≡ jobs_frame text r s ∷ []
  whole r s = rw is.whole refl

  -- Its jobs go to each server.
  to_each : (r m s : ℕ) → s < m → Contains (flat_map frames_of (to_all m (bodies.Jobs r text))) (jobs_frame text r s)
  to_each r zero s l = absurd (omega (arith, l))
  to_each r (suc m) s l =
      subst (λ fs. Contains fs (jobs_frame text r s)) (sym split) (by_test (s == m) refl (λ below. to_each r m s below))
    where
      older : List Frame
      older = flat_map frames_of (to_all m (bodies.Jobs r text))

      split : flat_map frames_of (to_all (suc m) (bodies.Jobs r text)) ≡ older ++ (jobs_frame text r m ∷ [])
      split =
          ap (flat_map frames_of) (map-append (to_server (bodies.Jobs r text)) (numbers_below m) (m ∷ []))
          ∙ (flat_map-append frames_of (map (to_server (bodies.Jobs r text)) (numbers_below m)) (to_server (bodies.Jobs r text) m ∷ [])
          ∙ ap (λ fs. older ++ (fs ++ [])) (whole r m))

      by_test : (b : Bool) → (s == m) ≡ b → (s < m → Contains older (jobs_frame text r s)) → Contains (older ++ (jobs_frame text r m ∷ [])) (jobs_frame text r s)
      by_test true e sent =
          Contains-append_right older (jobs_frame text r m ∷ []) (jobs_frame text r s)
          (subst (λ i. Contains (jobs_frame text r m ∷ []) (jobs_frame text r i)) (sym (eqb-true s m e)) (first_of (jobs_frame text r m) []))
      by_test false e sent = Contains-append_left older (jobs_frame text r m ∷ []) (jobs_frame text r s) (sent (below_it s m l e))

  pub jobs_sent : (runs : ℕ) (past : List ClientEntry) (s : ℕ) → s < n → runs + 1 < 2 ^ 64
      → HasBegun n runs 0 (packets_heard (opening n) past)
      → Contains (client_frames (opening n) past (ClientMet (inputs.Begin text) Saved)) (jobs_frame text (runs + 1) s)
  jobs_sent runs past s l fits has = subst (λ fs. Contains fs (jobs_frame text (runs + 1) s)) (sym are) (to_each (runs + 1) n s l)
    where
      list : List Entry
      list = packets_heard (opening n) past

      are : client_frames (opening n) past (ClientMet (inputs.Begin text) Saved) ≡ flat_map frames_of (to_all n (bodies.Jobs (runs + 1) text))
      are =
          ap (λ b. flat_map frames_of (if b then to_all n (bodies.Jobs ((words_noted (opening n) list).runs + 1) text) else []))
          (is_answered_so n runs 0 list (inputs.Begin text) Saved has (begin_answered runs list has.alone fits))
          ∙ ap (λ (m : ClientNote). flat_map frames_of (to_all n (bodies.Jobs (m.runs + 1) text))) has.says

  -- ---- it hears that the jobs are staged

  ok_answered : (runs : ℕ) (past : List Entry) (r i : ℕ) → i < n
      → answered true (peers_at n past 0) (drawn runs 0) (inputs.Deliver (ok_packet jobs r i)) NoSave ≡ true
  unfolding answered is_for_client is_from_server is_from_mirror
  ok_answered runs past r i l =
      let below : nat_lt i n ≡ true = grind (arith, nat_tests, l) in
      rw below refl

  pub starts : (runs i k : ℕ) (past : List ClientEntry) → i < n → suc k ≤ runs
      → HasBegun n runs i (packets_heard (opening n) past)
      → client_frames (opening n) past (ClientMet (inputs.Deliver (Whole (ok_packet jobs (suc k) i))) NoSave)
      ≡ start_frame (suc k) i ∷ []
  starts runs i k past l few has =
      ap (λ b. flat_map frames_of (if b then start_for (suc k) i (begin_at (suc k) i (life (opening n) list)) else []))
      (is_answered_so n runs i list (inputs.Deliver (ok_packet jobs (suc k) i)) NoSave has (ok_answered runs list (suc k) i l))
      ∙ ap (λ (x : Beginning). flat_map frames_of (start_for (suc k) i x)) (has.staging k i few (omega arith))
    where
      list : List Entry
      list = packets_heard (opening n) past

  pub goes_on : (runs i k : ℕ) (past : List ClientEntry) → i < n
      → HasBegun n runs i (packets_heard (opening n) past)
      → HasBegun n runs (suc i)
      (packets_heard (opening n) (ClientMet (inputs.Deliver (Whole (ok_packet jobs (suc k) i))) NoSave ∷ past))
  goes_on runs i k past l has = record {
    on = rw has.on refl;
    alone = has.alone;
    says =
        ap (λ (x : Option Addition). noted_after false x (words_noted (opening n) list)) (none_due (refusal (opening n) list (inputs.Deliver (ok_packet jobs (suc k) i))))
        ∙ has.says;
    staging = λ m s few from.
        ap (λ b. begin_at (suc m) s (if b then Hears i (bodies.JobsOk (suc k) (length jobs)) ∷ life (opening n) list else life (opening n) list)) sure
        ∙ ap (λ b. if b then begin_heard (suc m) (bodies.JobsOk (suc k) (length jobs)) (begin_at (suc m) s (life (opening n) list)) else begin_at (suc m) s (life (opening n) list))
        (other s from) ∙ has.staging m s few (omega (arith, from));
  }
    where
      list : List Entry
      list = packets_heard (opening n) past

      sure : is_answered (opening n) list (inputs.Deliver (ok_packet jobs (suc k) i)) NoSave ≡ true
      sure = is_answered_so n runs i list (inputs.Deliver (ok_packet jobs (suc k) i)) NoSave has (ok_answered runs list (suc k) i l)

      other : (s : ℕ) → suc i ≤ s → (i == s) ≡ false
      other s from = grind (arith, nat_tests, from)

abbrev pub fresh_client : List ClientEntry
fresh_client = ClientRestart false ∷ []

-- Where nothing has come to a client since it was restarted.
pub none_begun : (n : ℕ) → HasBegun n 0 0 (packets_heard (opening n) (fresh_client))
none_begun n = record { on = refl; alone = refl; says = refl; staging = λ k s l from. absurd (omega (arith, l)) }
