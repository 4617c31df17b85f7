-- Where a server asks for its cut, each state that was seen of its run is acknowledged.
use Rattle.std.proofs.Common.{◌≡◌, refl, sym, ◌∙◌, ap, subst, ◌⊎◌, inl, inr, ℕ, ◌<◌, Bool, true, false, List, [], ◌∷◌, ◌++◌, length, Some, None, Ok}
use Rattle.std.specs.Prelude.{if◌then◌else◌, ◌≤◌, ◌==◌, Contains}
use Rattle.std.proofs.lemmas.Bool.{eq-eqb}
use Rattle.fc_base.specs.declared.limits.TheConstants.{MAX_SERVERS}
use Rattle.fc_base.proofs.ListLemmas.{none_in, first_of, first_or_behind}
use Rattle.job_file.specs.declared.job.Job.{Job}
use Rattle.verify_state.specs.State.{State}
use Rattle.disk_model.specs.declared.save_outcome.SaveOutcome.{SaveOutcome}
use Rattle.messages.specs.declared.packet.PacketParts.{PacketParts}
use Rattle.messages.specs.declared.body.Body.TheVariants as bodies
use Rattle.server_core.specs.Inputs.{PacketInput}
use Rattle.server_core.specs.declared.input.Input.TheVariants as inputs
use Rattle.server_core.specs.History as server
use Rattle.server_core.specs.History.{Opening, Entry}
use Rattle.server_core.specs.Heard.{heard_with, heard_packets}
use Rattle.server_core.specs.Request.{ToMark, ToNobody, request_of}
use Rattle.server_core.specs.Run.{Work, halt_of}
use Rattle.server_core.specs.Answers.{wants_cut}
use Rattle.server_core.specs.Words.{Staged, is_on, last_run, staged_run, work, due_by, due}
use Rattle.net_world.specs.Setup.{Setup}
use Rattle.net_world.specs.Happenings.{Happening}
use Rattle.net_world.specs.Trace.{opening_of}
use Rattle.net_world.specs.Outcomes.{outcome}
use Rattle.net_world.specs.World.{world, told_of_happening}
use Rattle.net_world.proofs.BegunLemmas.{begun as begun_jobs, work_begun, taken_of_set}
use Rattle.net_world.proofs.TagLemmas.{Long, OfJobs, OfVerify}
use Rattle.seen.specs.Observations.{Observation}
use Rattle.seen.specs.Sightings.{Comes, IsSeen, to_server}
use Rattle.seen.specs.Reports.{HasCome}
use Rattle.seen.specs.Cuts.{IsAcknowledged}
use Rattle.seen.specs.Claims.{CutsAreBehindAcks}
use Rattle.seen.specs.Watching.{observation, observations, OfAllThatIsSeen}
use Rattle.seen.proofs.ServerLemmas.{is_packets}
use Rattle.seen.proofs.PlaceLemmas.{list_at, entry_now, found, seen_in, seen_since, seen_append}
use Rattle.seen.proofs.SeenLemmas.{all_taken, seen_was_taken}
use Rattle.seen.proofs.ArriveLemmas.{Arrives, arrives, comes}
use Rattle.seen.proofs.RequestLemmas.{asks_mark}
use Rattle.seen.proofs.QuietLemmas.{TakingLaws}
use Rattle.seen.proofs.OrderLemmas.{cut_was_ordered}
use Rattle.seen.proofs.MarkLemmas.{CutLaws, cut_is_mark, AsksCut, asks_cut}

ack_is_short : (r j : ℕ) → Long (bodies.StateAck r j) → ⊥
ack_is_short r j (OfJobs q text k) = cc
ack_is_short r j (OfVerify q attempt text k) = cc

no_start : (o : Opening) (list : List Entry) (x : PacketInput) (r j : ℕ) (d : Staged) → request_of o.me x ≡ ToMark r j → due o list x ≡ Some d → ⊥
no_start o list x r j d asks h =
    let none : None ≡ Some d = sym (ap (due_by (is_on list) (last_run o list) (staged_run o list) (work o list)) asks) ∙ h in
    absurd cc

-- An acknowledgement arrives in a frame.
ack_arrives : (w : Setup) (s : ℕ) (evs : List Happening) (e : Happening) (x : PacketInput) (left : SaveOutcome) (r j : ℕ) → entry_now w s evs e ≡ Some (server.Met x left)
    → request_of s x ≡ ToMark r j → Arrives w s evs e x left
ack_arrives w s evs e x left r j h asks =
    arrives w s evs e x left h (ap is_packets asks) (λ lost d k. no_start (opening_of s) (list_at w s evs) x r j d asks k)

-- A packet that came in this life came with an entry.
record HeardAt (list : List Entry) (p : PacketParts) : Type 0 where
  pub newer : List Entry
  pub left : SaveOutcome
  pub older : List Entry
  pub split : list ≡ newer ++ server.Met (inputs.Deliver p) left ∷ older

further : (e : Entry) (list : List Entry) (p : PacketParts) → HeardAt list p → HeardAt (e ∷ list) p
further e list p h = record { newer = e ∷ h.newer; left = h.left; older = h.older; split = ap (λ l. e ∷ l) h.split }

heard_there : (list : List Entry) (p : PacketParts) → Contains (heard_packets list) p → HeardAt list p
heard_there [] p h = absurd (none_in p h)
heard_there (server.Met (inputs.Deliver q) left ∷ past) p h =
    elim (first_or_behind q (heard_packets past) p h) [
      | inl here ↦ record { newer = []; left = left; older = past; split = ap (λ (z : PacketParts). server.Met (inputs.Deliver z) left ∷ past) here }
      | inr there ↦ further (server.Met (inputs.Deliver q) left) past p (heard_there past p there)
    ]
heard_there (server.Met (inputs.Issue j) left ∷ past) p h = further (server.Met (inputs.Issue j) left) past p (heard_there past p h)
heard_there (server.Met (inputs.WriteDone ticket end) left ∷ past) p h = further (server.Met (inputs.WriteDone ticket end) left) past p (heard_there past p h)
heard_there (server.Met (inputs.CheckDone b a j report) left ∷ past) p h = further (server.Met (inputs.CheckDone b a j report) left) past p (heard_there past p h)
heard_there (server.Cut ∷ past) p h = absurd (none_in p h)
heard_there (server.Restart left ∷ past) p h = absurd (none_in p h)

-- What an entry has brought, or what came before it.
here_or_before : (x : PacketInput) (older : List PacketParts) (p : PacketParts) → Contains (heard_with x older) p → (x ≡ inputs.Deliver p) ⊎ Contains older p
here_or_before (inputs.Deliver q) older p h = elim (first_or_behind q older p h) [ inl e ↦ inl (ap inputs.Deliver e) | inr i ↦ inr i ]
here_or_before (inputs.Issue j) older p h = inr h
here_or_before (inputs.WriteDone ticket end) older p h = inr h
here_or_before (inputs.CheckDone b a j report) older p h = inr h

mark_of : (me r j : ℕ) → request_of me (inputs.Deliver (to_server me (bodies.StateAck r j))) ≡ ToMark r j
mark_of me r j = by (me == me) (eq-eqb me me refl)
  where
    by : (b : Bool) → b ≡ true → (if b then ToMark r j else ToNobody) ≡ ToMark r j
    by true e = refl
    by false e = absurd cc

-- An acknowledgement is seen to come.
ack_comes : TakingLaws → (w : Setup) (s : ℕ) (evs : List Happening) (e : Happening) (x : PacketInput) (left : SaveOutcome) (r j : ℕ) → w.servers ≤ MAX_SERVERS
    → (h : entry_now w s evs e ≡ Some (server.Met x left)) → (asks : request_of s x ≡ ToMark r j)
    → Comes (observations w evs) (observation w evs e) (to_server s (bodies.StateAck r j))
ack_comes laws w s evs e x left r j few h asks =
    let a = ack_arrives w s evs e x left r j h asks in
    comes laws.arriving w s evs e x left (to_server s (bodies.StateAck r j)) few a
    (asks_mark s r j a.packet (ap (request_of s) (sym a.is) ∙ asks)) refl

-- So is one that came in this life.
ack_has_come : TakingLaws → (w : Setup) (s : ℕ) (evs : List Happening) (r j : ℕ) → w.servers ≤ MAX_SERVERS
    → Contains (heard_packets (list_at w s evs)) (to_server s (bodies.StateAck r j)) → HasCome (observations w evs) (to_server s (bodies.StateAck r j))
ack_has_come laws w s evs r j few h =
    let p = to_server s (bodies.StateAck r j) in
    let at = heard_there (list_at w s evs) p h in
    let f = found w s evs at.newer (inputs.Deliver p) at.left at.older at.split in
    record {
      newer = seen_since w f.later (f.event ∷ f.earlier);
      now = observation w f.earlier f.event;
      older = observations w f.earlier;
      split = ap (observations w) f.split ∙ seen_append w f.later (f.event ∷ f.earlier);
      comes = ack_comes laws w s f.earlier f.event (inputs.Deliver p) at.left r j few f.now (mark_of s r j);
    }

later_come : (o : Observation) (seen : List Observation) (p : PacketParts) → HasCome seen p → HasCome (o ∷ seen) p
later_come o seen p h = record { newer = o ∷ h.newer; now = h.now; older = h.older; split = ap (λ l. o ∷ l) h.split; comes = h.comes }

-- A state that was seen of a run at work is of one of its jobs.
job_below : TakingLaws → (w : Setup) (evs : List Happening) (state : State) (v : Work) → w.servers ≤ MAX_SERVERS → IsSeen (observations w evs) state
    → work (opening_of state.key.server) (list_at w state.key.server evs) ≡ Some v → v.run ≡ state.key.run → state.key.job < length v.jobs
job_below laws w evs state v few seen is run =
    let key = state.key in
    let o = opening_of key.server in
    let list = list_at w key.server evs in
    let taken = seen_was_taken laws.seen w evs few state seen in
    let i : Contains (all_taken w evs key) state = subst (λ l. Contains l state) (sym taken) (first_of state []) in
    let set = taken_of_set laws.server.grow o key.run key.job list state i in
    let begun : Some set.jobs ≡ Some v.jobs = sym set.is ∙ ap (λ r. begun_jobs o r list) (sym run) ∙ work_begun o list v is in
    let same : set.jobs ≡ v.jobs = cc in
    subst (λ (l : List Job). key.job < length l) same set.within

one_work : (a b : Work) → Some a ≡ Some b → a ≡ b
one_work a b h = cc

acknowledged : CutLaws → (w : Setup) (evs : List Happening) (e : Happening) → w.servers ≤ MAX_SERVERS → AsksCut w evs e
    → IsAcknowledged (observations w evs) (observation w evs e)
acknowledged laws w evs e few a =
    let o = opening_of a.s in
    let list = list_at w a.s evs in
    let kept = laws.cuts o list a.x a.asks in
    let mark = cut_is_mark (work o list) (request_of a.s a.x) a.asks in
    let v = mark.0 in
    let j = mark.2.0 in
    let same : kept.now ≡ v = one_work kept.now v (sym kept.works ∙ mark.1) in
    record {
      server = a.s;
      run = v.run;
      job = j;
      asks = ack_comes laws.taking w a.s evs e a.x a.left v.run j few a.heard_it mark.2.1;
      ordered =
          cut_was_ordered laws.taking w a.s evs v few mark.1 (subst (λ (u : Work). wants_cut (halt_of u.run u.since) ≡ true) same kept.wants);
      each = λ state seen at of_run.
          let less = job_below laws.taking w evs state v few seen
          (subst (λ m. work (opening_of m) (list_at w m evs) ≡ Some v) (sym at) mark.1) (sym of_run) in
          let i : Contains (heard_with a.x (heard_packets list)) (to_server a.s (bodies.StateAck v.run state.key.job)) =
          subst (λ (u : Work). (i : ℕ) → i < length u.jobs → Contains (heard_with a.x (heard_packets list)) (to_server a.s (bodies.StateAck u.run i)))
          same kept.kept state.key.job less in
          elim (here_or_before a.x (heard_packets list) (to_server a.s (bodies.StateAck v.run state.key.job)) i) [
            | inl here ↦ record {
              newer = [];
              now = observation w evs e;
              older = observations w evs;
              split = refl;
              comes = ack_comes laws.taking w a.s evs e a.x a.left v.run state.key.job few a.heard_it
                  (ap (request_of a.s) here ∙ mark_of a.s v.run state.key.job);
            }
            | inr before ↦ later_come (observation w evs e) (observations w evs) (to_server a.s (bodies.StateAck v.run state.key.job))
                (ack_has_come laws.taking w a.s evs v.run state.key.job few before)
          ];
    }

pub cuts_are_behind_acks : CutLaws → OfAllThatIsSeen CutsAreBehindAcks
cuts_are_behind_acks laws w events few newer older o t split told cut =
    let k = seen_in w events newer o older split in
    let told_here : told_of_happening w (world w k.earlier) k.event ≡ Ok t = ap (λ (x : Observation). x.told) k.here ∙ told in
    let a = asks_cut w k.earlier k.event (outcome w (world w k.earlier) k.event) t refl told_here cut in
    subst (λ l. IsAcknowledged l o) k.before (subst (IsAcknowledged (observations w k.earlier)) k.here (acknowledged laws w k.earlier k.event few a))
