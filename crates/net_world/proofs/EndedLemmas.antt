-- Where a trigger has ended well each taken state is kept, and where a server asks for the cut it was kept.
use Rattle.std.proofs.Common.{◌≡◌, refl, sym, ◌∙◌, ap, subst, ◌⊎◌, inl, inr, ℕ, ◌<◌, arith, List, [], ◌∷◌, length, Some}
use Rattle.std.specs.Prelude.{Contains}
use Rattle.fc_base.specs.declared.numbers.Key.{Key}
use Rattle.job_file.specs.declared.job.Job.{Job}
use Rattle.verify_state.specs.State.{State}
use Rattle.verify_state.specs.TableLaws.{FoundHasItsKey}
use Rattle.messages.specs.declared.packet.PacketParts.{PacketParts}
use Rattle.messages.specs.declared.body.Body.TheVariants as bodies
use Rattle.messages.specs.declared.node.Node.TheVariants.{Client, Mirror}
use Rattle.server_core.specs.Inputs.{PacketInput}
use Rattle.server_core.specs.declared.input.Input.TheVariants as inputs
use Rattle.server_core.specs.History.{Met}
use Rattle.server_core.specs.Run.{Work}
use Rattle.server_core.specs.Heard.{heard_with, heard_packets}
use Rattle.server_core.specs.Laws as served
use Rattle.client_core.specs.Ranges.{packets_come}
use Rattle.client_core.specs.Words.{words_noted, kept_state}
use Rattle.client_core.specs.Packets.{to_server}
use Rattle.client_core.specs.Laws.{AcksAreFor, TriggersEndWell, TellsJobs, HasAnswer, from_server}
use Rattle.net_world.specs.Setup.{Setup}
use Rattle.net_world.specs.Trace.{Step, AtServer, AtClient, AtMirror, opening_of, client_opening, mirror_opening}
use Rattle.net_world.specs.Trace.{of_server, of_client, of_mirror, packets_of, sent_packets, IsTrace}
use Rattle.net_world.specs.Holders.{taken_of, key_at}
use Rattle.net_world.specs.Passes.{SentStatesWereTaken, KeptStatesWereSent, WasKept}
use Rattle.net_world.specs.Claims.{OfEachList, OfEachTrace}
use Rattle.net_world.specs.Headline.{OneTaking, KeptWhereServed, KeptWhereCut}
use Rattle.net_world.proofs.TraceLemmas.{front_is_trace, taken_stays_so, sent_cases, sent_none, sent_stays, taken_was_sent, came_was_sent, heard_was_sent}
use Rattle.net_world.proofs.BegunLemmas.{begun, work_begun, taken_of_set}
use Rattle.net_world.proofs.SaidLemmas.{Sayings, SaysJobs, SaysNone, sent_by, state_says, none_says, same_count}
use Rattle.net_world.proofs.ConflictLemmas.{same_two}
use Rattle.net_world.proofs.MirrorLemmas.{sent_by_mirror}
use Rattle.net_world.proofs.PassLemmas.{kept_before, kept_was_taken}
use Rattle.net_world.proofs.ListLemmas.{same_some}
use Rattle.fc_base.proofs.ListLemmas.{none_in, first_or_behind}

-- The laws on which this rests.
pub record Ending : Type 0 where
  pub sayings : Sayings
  pub taken : OfEachList SentStatesWereTaken
  pub has : FoundHasItsKey
  pub kept_sent : OfEachTrace KeptStatesWereSent
  pub once : OfEachList OneTaking

said_none : Ending → (w : Setup) (t : List Step) (run s j jobs : ℕ) → Contains (sent_packets w t) (from_server (bodies.NoState run j jobs) s)
    → SaysNone (opening_of s) (of_server s t) run j jobs
said_none laws w t run s j jobs h =
    let p = from_server (bodies.NoState run j jobs) s in
    none_says laws.sayings s (of_server s t) p run j jobs (sent_by laws.sayings w s t p refl h) refl

said_jobs : Ending → (w : Setup) (t : List Step) (s jobs : ℕ) (a : State) → Contains (sent_packets w t) (from_server (bodies.State jobs a) s)
    → SaysJobs (opening_of s) (of_server s t) a.key.run jobs
said_jobs laws w t s jobs a h =
    let p = from_server (bodies.State jobs a) s in
    state_says laws.sayings s (of_server s t) p jobs a (sent_by laws.sayings w s t p refl h) refl

-- The number of jobs that was told is that of the set with which the run was begun.
count_told : Ending → (w : Setup) (t : List Step) (run s jobs : ℕ) (set : List Job) → IsTrace w t → begun (opening_of s) run (of_server s t) ≡ Some set
    → TellsJobs (packets_come (of_client w t)) run s jobs → jobs ≡ length set
count_told laws w t run s jobs set trace is (inl k) =
    let says = said_jobs laws w t s jobs k.0 (came_was_sent w t (from_server (bodies.State jobs k.0) s) trace k.2) in
    same_count (opening_of s) run jobs (of_server s t) set is (subst (λ r. SaysJobs (opening_of s) (of_server s t) r jobs) k.1 says)
count_told laws w t run s jobs set trace is (inr k) =
    let says = said_none laws w t run s k.0 jobs (came_was_sent w t (from_server (bodies.NoState run k.0 jobs) s) trace k.1) in
    same_count (opening_of s) run jobs (of_server s t) set is says.says

-- A state of the key was kept by then, or its server has said that there is none.
KeptOrNone : Setup → List Step → Key → Type 0
KeptOrNone w t key =
    ((state : State) × WasKept w t key state)
    ⊎ ((jobs : ℕ) × Contains (sent_packets w t) (from_server (bodies.NoState key.run key.job jobs) key.server))

nothing_in : (xs : List State) (x : State) → xs ≡ [] → Contains xs x → ⊥
nothing_in xs x e h = none_in x (subst (λ l. Contains l x) e h)

none_taken : Ending → (w : Setup) (t : List Step) (key : Key) (state : State) (jobs : ℕ) → Contains (taken_of key t) state
    → Contains (sent_packets w t) (from_server (bodies.NoState key.run key.job jobs) key.server) → ⊥
none_taken laws w t key state jobs taken h =
    let says = said_none laws w t key.run key.server key.job jobs h in
    nothing_in (taken_of key t) state says.none taken

-- Two states of a key that were kept and taken are one.
same_kept : Ending → (w : Setup) (t : List Step) (key : Key) (x state : State) → IsTrace w t → kept_state (client_opening w) (of_client w t) key ≡ Some x
    → Contains (taken_of key t) state → x ≡ state
same_kept laws w t key x state trace h taken = same_two laws.once w t key x state (kept_was_taken laws.taken laws.has laws.kept_sent w t key x trace h) taken

-- So a state that was taken was kept.
kept_of : Ending → (w : Setup) (t : List Step) (key : Key) (state : State) → IsTrace w t → Contains (taken_of key t) state → KeptOrNone w t key
    → WasKept w t key state
unfolding KeptOrNone
kept_of laws w t key state trace taken (inl k) =
    let was = k.1 in
    let front = front_is_trace w was.later was.earlier (subst (IsTrace w) was.split trace) in
    let there = kept_was_taken laws.taken laws.has laws.kept_sent w was.earlier key k.0 front was.kept_there in
    let here = subst (λ (l : List Step). Contains (taken_of key l) k.0) (sym was.split) (taken_stays_so key was.later was.earlier k.0 there) in
    let same : k.0 ≡ state = same_two laws.once w t key k.0 state here taken in
    record { later = was.later; earlier = was.earlier; split = was.split; kept_there = was.kept_there ∙ ap Some same }
kept_of laws w t key state trace taken (inr k) = absurd (none_taken laws w t key state k.0 taken k.1)

-- And where the run has ended well, it is kept.
answer_of : Ending → (w : Setup) (t : List Step) (key : Key) (state : State) → IsTrace w t → Contains (taken_of key t) state
    → HasAnswer (words_noted (client_opening w) (of_client w t)) (packets_come (of_client w t)) key.run key.server key.job
    → kept_state (client_opening w) (of_client w t) key ≡ Some state
answer_of laws w t key state trace taken (inl k) = k.1 ∙ ap Some (same_kept laws w t key k.0 state trace k.1 taken)
answer_of laws w t key state trace taken (inr k) =
    absurd (none_taken laws w t key state k.0 taken (came_was_sent w t (from_server (bodies.NoState key.run key.job k.0) key.server) trace k.1))

pub kept_where_served : Ending → TriggersEndWell → OfEachTrace KeptWhereServed
kept_where_served laws law w t trace key state h taken =
    let o = opening_of key.server in
    let list = of_server key.server t in
    let ends = law (client_opening w) (of_client w t) key.run key.server h in
    let set = taken_of_set laws.sayings.grow o key.run key.job list state taken in
    let count = count_told laws w t key.run key.server ends.jobs set.jobs trace set.is ends.told in
    let within = set.within in
    answer_of laws w t key state trace taken (ends.each key.job (omega (arith, count, within)))

-- ---- the cut

kept_more : (w : Setup) (step : Step) (past : List Step) (key : Key) → KeptOrNone w past key → KeptOrNone w (step ∷ past) key
unfolding KeptOrNone
kept_more w step past key (inl k) = inl (k.0, kept_before w step past key k.0 k.1)
kept_more w step past key (inr k) = inr (k.0, sent_stays w step past (from_server (bodies.NoState key.run key.job k.0) key.server) k.1)

not_mirror : Mirror ≡ Client → ⊥
not_mirror h = cc

-- An acknowledgement of the client for a key.
ack : Key → PacketParts
ack key = to_server (bodies.StateAck key.run key.job) key.server

acked_now : Ending → AcksAreFor → (w : Setup) (step : Step) (past : List Step) (key : Key) → IsTrace w (step ∷ past)
    → Contains (packets_of w past step) (ack key) → KeptOrNone w (step ∷ past) key
unfolding KeptOrNone ack
acked_now laws law w (AtServer r e) past key trace h =
    let own = (laws.sayings.to_client (opening_of r) (of_server r past) e (to_server (bodies.StateAck key.run key.job) key.server) h).kind in
    absurd cc
acked_now laws law w (AtClient e) past key trace h =
    elim (law (client_opening w) (of_client w past) e key.run key.server key.job h) [
      | inl k ↦ inl (k.0, record { later = []; earlier = AtClient e ∷ past; split = refl; kept_there = k.1 })
      | inr k ↦ let p = from_server (bodies.NoState key.run key.job k.0) key.server in
          inr (k.0, sent_stays w (AtClient e) past p (taken_was_sent w (AtClient e) past p trace.1 k.1))
    ]
acked_now laws law w (AtMirror e) past key trace h =
    absurd (not_mirror (sym (sent_by_mirror laws.sayings.over mirror_opening (of_mirror past) e (to_server (bodies.StateAck key.run key.job) key.server) h).0))

-- Of what the client has acknowledged it kept the state, or there was none.
acked_kept : Ending → AcksAreFor → (w : Setup) (t : List Step) (key : Key) → IsTrace w t → Contains (sent_packets w t) (ack key) → KeptOrNone w t key
acked_kept laws law w [] key trace h = absurd (sent_none w (ack key) h)
acked_kept laws law w (step ∷ past) key trace h = elim (sent_cases w step past (ack key) h) [
  | inl before ↦ kept_more w step past key (acked_kept laws law w past key trace.0 before)
  | inr now ↦ acked_now laws law w step past key trace now
]

-- What came to a server, this event with it.
heard_with_sent : (w : Setup) (s : ℕ) (e : PacketInput) (left : _) (t : List Step) (p : PacketParts) → IsTrace w (AtServer s (Met e left) ∷ t)
    → Contains (heard_with e (heard_packets (of_server s t))) p → Contains (sent_packets w t) p
heard_with_sent w s (inputs.Deliver q) left t p trace h =
    elim (first_or_behind q (heard_packets (of_server s t)) p h) [
      | inl now ↦ subst (Contains (sent_packets w t)) now (trace.1.0.0)
      | inr before ↦ heard_was_sent w s t p trace.0 before
    ]
heard_with_sent w s (inputs.Issue j) left t p trace h = heard_was_sent w s t p trace.0 h
heard_with_sent w s (inputs.WriteDone ticket end) left t p trace h = heard_was_sent w s t p trace.0 h
heard_with_sent w s (inputs.CheckDone boot a j report) left t p trace h = heard_was_sent w s t p trace.0 h

pub kept_where_cut : Ending → AcksAreFor → served.CutsWhenKept → OfEachTrace KeptWhereCut
unfolding ack
kept_where_cut laws acks law w whole whole_is_trace later t s e left now j state split is cut taken =
    let trace : IsTrace w (AtServer s (Met e left) ∷ t) = front_is_trace w later (AtServer s (Met e left) ∷ t) (subst (IsTrace w) split whole_is_trace) in
    let o = opening_of s in
    let list = of_server s t in
    let k = law o list e cut in
    let same : k.now ≡ now = same_some k.now now (sym k.works ∙ is) in
    let set = taken_of_set laws.sayings.grow o now.run j list state taken in
    let jobs : set.jobs ≡ now.jobs = same_some set.jobs now.jobs (sym set.is ∙ work_begun o list now is) in
    let less : j < length k.now.jobs = subst (λ (v : Work). j < length v.jobs) (sym same) (subst (λ (l : List Job). j < length l) jobs set.within) in
    let came_in : Contains (heard_with e (heard_packets list)) (to_server (bodies.StateAck now.run j) s) =
    subst (λ (v : Work). Contains (heard_with e (heard_packets list)) (to_server (bodies.StateAck v.run j) s)) same (k.kept j less) in
    kept_of laws w t (key_at now.run s j) state trace.0 taken
    (acked_kept laws acks w t (key_at now.run s j) trace.0 (heard_with_sent w s e left t (to_server (bodies.StateAck now.run j) s) trace came_in))
