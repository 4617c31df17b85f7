-- What a server has said of the jobs of a run: how many there are, and of which no state was taken.
use Rattle.std.proofs.Common.{◌≡◌, ◌⊎◌, refl, sym, ◌∙◌, ap, subst, inl, inr, ℕ, ◌≤◌, arith, Bool, true, false, ◌==◌, List, [], ◌∷◌, ◌++◌, length, Option, Some}
use Rattle.std.specs.Prelude.{if◌then◌else◌, Contains}
use Rattle.fc_base.specs.declared.numbers.Key.{Key}
use Rattle.job_file.specs.declared.job.Job.{Job}
use Rattle.verify_state.specs.State.{State}
use Rattle.messages.specs.declared.packet.PacketParts.{PacketParts}
use Rattle.messages.specs.declared.body.Body.TheVariants as bodies
use Rattle.messages.specs.declared.node.Node.TheVariants.{Server, Client, Mirror}
use Rattle.server_core.specs.History.{Opening, Entry}
use Rattle.server_core.specs.Run.{Work, is_halted}
use Rattle.server_core.specs.Words.{last_run, work}
use Rattle.server_core.specs.Taken.{takings}
use Rattle.server_core.specs.Answers as servers
use Rattle.server_core.specs.Laws as served
use Rattle.server_core.specs.Sent.{PacketsGoToClient}
use Rattle.client_core.specs.Laws as asked
use Rattle.client_core.specs.Words.{has_mirror}
use Rattle.mirror_core.specs.Laws as mirrors
use Rattle.net_world.specs.Setup.{Setup}
use Rattle.net_world.specs.Trace.{Step, AtServer, AtClient, AtMirror, opening_of, client_opening}
use Rattle.net_world.specs.Trace.{mirror_opening, of_server, of_client, of_mirror, packets_of, sent_packets}
use Rattle.net_world.proofs.MirrorLemmas.{sent_by_mirror}
use Rattle.net_world.proofs.TraceLemmas.{own_step, sent_cases, sent_none}
use Rattle.net_world.proofs.BegunLemmas.{begun, work_begun, begun_stays}
use Rattle.net_world.proofs.ListLemmas.{same_some}

-- The laws of the nodes on which this rests.
pub record Sayings : Type 0 where
  pub grow : served.NumbersGrow
  pub present : served.PresentIsLast
  pub sends : served.SendsTheTaken
  pub jobs : served.StatesTellJobs
  pub none : served.NoStateIsUntaken
  pub stay : served.TakingsStay
  pub to_client : PacketsGoToClient
  pub to_peers : asked.PacketsGoToPeers
  pub over : mirrors.PacketsGoToTheClient

server_apart : (r s : ℕ) → Server r ≡ Server s → r ≡ s
server_apart r s h = cc

not_client : (s : ℕ) → Client ≡ Server s → ⊥
not_client s h = cc

not_mirror : (s : ℕ) → Mirror ≡ Server s → ⊥
not_mirror s h = cc

-- A packet of a server was sent by an entry of its list.
pub record SentBy (s : ℕ) (list : List Entry) (p : PacketParts) : Type 0 where
  pub newer : List Entry
  pub entry : Entry
  pub older : List Entry
  pub split : list ≡ newer ++ entry ∷ older
  pub sends : Contains (servers.packets (opening_of s) older entry) p

one_more : (s : ℕ) (list : List Entry) (e : Entry) (p : PacketParts) → SentBy s list p → SentBy s (e ∷ list) p
one_more s list e p h = record { newer = e ∷ h.newer; entry = h.entry; older = h.older; split = ap (λ l. e ∷ l) h.split; sends = h.sends }

more_if : (s : ℕ) (t : Bool) (list : List Entry) (e : Entry) (p : PacketParts) → SentBy s list p → SentBy s (if t then e ∷ list else list) p
more_if s true list e p h = one_more s list e p h
more_if s false list e p h = h

later : (s : ℕ) (step : Step) (past : List Step) (p : PacketParts) → SentBy s (of_server s past) p → SentBy s (of_server s (step ∷ past)) p
later s (AtServer r e) past p h = more_if s (r == s) (of_server s past) e p h
later s (AtClient e) past p h = h
later s (AtMirror e) past p h = h

sent_now : Sayings → (w : Setup) (s : ℕ) (step : Step) (past : List Step) (p : PacketParts) → p.from ≡ Server s → Contains (packets_of w past step) p
    → SentBy s (of_server s (step ∷ past)) p
sent_now laws w s (AtServer r e) past p from h =
    let k = laws.to_client (opening_of r) (of_server r past) e p h in
    let same : r ≡ s = server_apart r s (sym (ap (λ (q : PacketParts). q.from) k.ends) ∙ from) in
    rw (own_step r s e past same)
    (record {
      newer = [];
      entry = e;
      older = of_server s past;
      split = refl;
      sends = subst (λ m. Contains (servers.packets (opening_of m) (of_server m past) e) p) same h;
    })
sent_now laws w s (AtClient e) past p from h =
    absurd (not_client s (sym (from_client (laws.to_peers (client_opening w) (of_client w past) e p h)) ∙ from))
  where
    from_client : asked.GoesToServer w.servers p ⊎ asked.GoesToMirror (has_mirror (of_client w past)) p → p.from ≡ Client
    from_client (inl k) = ap (λ (q : PacketParts). q.from) k.2
    from_client (inr k) = ap (λ (q : PacketParts). q.from) k.1
sent_now laws w s (AtMirror e) past p from h = absurd (not_mirror s (sym (sent_by_mirror laws.over mirror_opening (of_mirror past) e p h).0 ∙ from))

pub sent_by : Sayings → (w : Setup) (s : ℕ) (t : List Step) (p : PacketParts) → p.from ≡ Server s → Contains (sent_packets w t) p → SentBy s (of_server s t) p
sent_by laws w s [] p from h = absurd (sent_none w p h)
sent_by laws w s (step ∷ past) p from h =
    elim (sent_cases w step past p h) [
      | inl before ↦ later s step past p (sent_by laws w s past p from before)
      | inr now ↦ sent_now laws w s step past p from now
    ]

begun_on : served.NumbersGrow → (o : Opening) (run : ℕ) (newer older : List Entry) (jobs : List Job) → begun o run older ≡ Some jobs
    → begun o run (newer ++ older) ≡ Some jobs
begun_on grow o run [] older jobs h = h
begun_on grow o run (e ∷ newer) older jobs h = begun_stays grow o run e (newer ++ older) jobs (begun_on grow o run newer older jobs h)

-- So many jobs has the set with which the run was begun.
pub record SaysJobs (o : Opening) (list : List Entry) (run jobs : ℕ) : Type 0 where
  pub set : List Job
  pub is : begun o run list ≡ Some set
  pub count : jobs ≡ length set

says_jobs : Sayings → (o : Opening) (list newer older : List Entry) (e : Entry) (run jobs : ℕ) (w : Work) → list ≡ newer ++ e ∷ older
    → work o (e ∷ older) ≡ Some w → w.run ≡ run → jobs ≡ length w.jobs → SaysJobs o list run jobs
says_jobs laws o list newer older e run jobs w split works same number = record {
  set = w.jobs;
  is = subst (λ l. begun o run l ≡ Some w.jobs) (sym split)
      (begun_on laws.grow o run newer (e ∷ older) w.jobs (subst (λ r. begun o r (e ∷ older) ≡ Some w.jobs) same (work_begun o (e ∷ older) w works)));
  count = number;
}

-- A State that was sent.
pub state_says : Sayings → (s : ℕ) (list : List Entry) (p : PacketParts) (jobs : ℕ) (a : State) → SentBy s list p → p.body ≡ bodies.State jobs a
    → SaysJobs (opening_of s) list a.key.run jobs
state_says laws s list p jobs a h is =
    let o = opening_of s in
    let k = laws.jobs o h.older h.entry p jobs a h.sends is in
    let t = laws.sends o h.older h.entry p jobs a h.sends is in
    let last : k.now.run ≡ last_run o (h.entry ∷ h.older) = (laws.present o (h.entry ∷ h.older) k.now k.works).run in
    says_jobs laws o list h.newer h.older h.entry a.key.run jobs k.now h.split k.works (last ∙ sym (ap (λ (i : Key). i.run) (t.1).key)) k.number

over_of : (run : ℕ) (w : Work) (x : Option Work) → x ≡ Some w → is_halted w ≡ true → served.IsOver run x
over_of run w x is h = subst (served.IsOver run) (sym is) (λ same. h)

-- A NoState that was sent.
pub record SaysNone (o : Opening) (list : List Entry) (run j jobs : ℕ) : Type 0 where
  pub says : SaysJobs o list run jobs
  pub none : takings o run j list ≡ []

pub none_says : Sayings → (s : ℕ) (list : List Entry) (p : PacketParts) (run j jobs : ℕ) → SentBy s list p → p.body ≡ bodies.NoState run j jobs
    → SaysNone (opening_of s) list run j jobs
none_says laws s list p run j jobs h is =
    let o = opening_of s in
    let here = h.entry ∷ h.older in
    let k = laws.none o h.older h.entry p run j jobs h.sends is in
    let last : k.now.run ≡ last_run o here = (laws.present o here k.now k.works).run in
    let below : run ≤ last_run o here = let same = k.run_is in omega (arith, last) in
    record {
      says = says_jobs laws o list h.newer h.older h.entry run jobs k.now h.split k.works (sym k.run_is) k.number;
      none = ap (takings o run j) h.split ∙ laws.stay o run j h.newer here below (over_of run k.now (work o here) k.works k.over) ∙ k.none;
    }

pub same_count : (o : Opening) (run jobs : ℕ) (list : List Entry) (set : List Job) → begun o run list ≡ Some set → SaysJobs o list run jobs → jobs ≡ length set
same_count o run jobs list set is k = k.count ∙ ap length (same_some k.set set (sym k.is ∙ is))
