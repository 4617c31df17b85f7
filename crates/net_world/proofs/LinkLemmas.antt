-- Behind a taking the present run issues nothing more, and what the state counts stays done.
use Rattle.std.proofs.Common.{◌≡◌, refl, sym, ◌∙◌, ap, subst, ◌⊎◌, inl, inr, ℕ, arith, Bool, true, false, ◌&&◌}
use Rattle.std.proofs.Common.{◌||◌, ◌==◌, List, [], ◌∷◌, ◌++◌, Option, Some, None, Result, Ok, Err, append_assoc}
use Rattle.std.specs.Prelude.{if◌then◌else◌, is_some, slice_get, Contains}
use Rattle.std.specs.Option.{option_or}
use Rattle.std.proofs.lemmas.Bool.{eqb-true}
use Rattle.std.proofs.lemmas.List.Elements.{Contains-append_cases}
use Rattle.fc_base.specs.Counted.{has}
use Rattle.fc_base.specs.declared.fault.Fault.{Fault}
use Rattle.fc_base.specs.NumberLaws.{has_push}
use Rattle.job_file.specs.declared.job.Job.{Job}
use Rattle.verify_state.specs.State.{State}
use Rattle.engine.specs.History as window
use Rattle.engine.specs.Running.{Origin}
use Rattle.engine.specs.Answers.{ticket_answer}
use Rattle.engine.specs.Legal.{IsLegal}
use Rattle.engine.specs.Laws.{StatesCountTheDone}
use Rattle.server_core.specs.Inputs.{PacketInput}
use Rattle.server_core.specs.declared.input.WriteEnd.{WriteEnd}
use Rattle.server_core.specs.declared.input.WriteEnd.TheVariants.{Done, Failed}
use Rattle.disk_model.specs.declared.save_outcome.SaveOutcome.{SaveOutcome}
use Rattle.disk_model.specs.declared.save_outcome.SaveOutcome.TheVariants.{NoSave, Saved, LostNew, LostOld}
use Rattle.fc_base.proofs.ListLemmas.{only_in}
use Rattle.server_core.specs.History.{Opening, Entry, Met, Cut, Restart}
use Rattle.server_core.specs.Request.{Request, ToStage, ToStart, ToTrigger, ToMark, ToStop, ToVerify}
use Rattle.server_core.specs.Request.{ToHold, ToPassFully, ToIssue, ToEnd, ToReport, ToNobody, request_of}
use Rattle.server_core.specs.Run.{Work, Halt, Triggered, halt_by, halt_of, origin_of, with_ticket, with_request, history, goes_on}
use Rattle.server_core.specs.Words.{Staged, boot, work_after, work, due}
use Rattle.server_core.specs.Taken.{job_state, saved_state, triggers, takes_now, takes, and_those, takings}
use Rattle.server_core.specs.Accepted.{IsTaking}
use Rattle.server_core.specs.Laws.{StartsOnce}
use Rattle.net_world.proofs.GroundLemmas.{Ground, job_legal}

-- The run was halted, has issued no more writes than when the state was taken, and what the state counts is done.
pub record LinkOf (w : Work) (j : ℕ) (state : State) : Type 0 where
  pub job : Job
  pub has_job : slice_get w.jobs j ≡ Some job
  pub halted_yet : is_some (halt_of w.run w.since) ≡ true
  pub key : state.key ≡ (origin_of w j job).key
  pub job_is : state.job ≡ job.rec
  pub issued_is : state.issued ≡ window.issued (history (origin_of w j job) w.since)
  pub kept_done : (k : ℕ) → has state.counted k ≡ true → window.is_done (history (origin_of w j job) w.since) k ≡ true

-- What a taking finds.
pub record Hit (run j : ℕ) (x : Request) (w : Work) (state : State) : Type 0 where
  pub triggers_it : triggers run x ≡ true
  pub same_run : w.run ≡ run
  pub writing : halt_of w.run w.since ≡ None
  pub job : Job
  pub has_job : slice_get w.jobs j ≡ Some job
  pub state_is : job_state (origin_of w j job) w.since ≡ state

saved_one : (w : Work) (j : ℕ) (job : Job) (b : Bool) (state : State) → (if b then Some (job_state (origin_of w j job) w.since) else None) ≡ Some state
    → job_state (origin_of w j job) w.since ≡ state
saved_one w j job true state h = cc
saved_one w j job false state h = cc

hit_job : (run j : ℕ) (x : Request) (w : Work) (state : State) (found : Option Job) → triggers run x ≡ true → w.run ≡ run → halt_of w.run w.since ≡ None
    → slice_get w.jobs j ≡ found → saved_state w j found w.since ≡ Some state → Hit run j x w state
hit_job run j x w state None a b c is h = cc
hit_job run j x w state (Some job) a b c is h =
    record { triggers_it = a; same_run = b; writing = c; job = job; has_job = is; state_is = saved_one w j job job.save state h }

hit_now : (run j : ℕ) (x : Request) (w : Work) (state : State) (u t : Bool) (b : Option Halt) → triggers run x ≡ u → (w.run == run) ≡ t
    → halt_of w.run w.since ≡ b → takes_now (u && t) w j b ≡ Some state → Hit run j x w state
hit_now run j x w state true true None a b c h = hit_job run j x w state (slice_get w.jobs j) a (eqb-true w.run run b) c refl h
hit_now run j x w state true true (Some halt) a b c h = cc
hit_now run j x w state true false None a b c h = cc
hit_now run j x w state true false (Some halt) a b c h = cc
hit_now run j x w state false t None a b c h = cc
hit_now run j x w state false t (Some halt) a b c h = cc

pub hit : (run j : ℕ) (x : Request) (w : Work) (state : State) → takes run j x (Some w) ≡ Some state → Hit run j x w state
hit run j x w state h = hit_now run j x w state (triggers run x) (w.run == run) (halt_of w.run w.since) refl refl refl h

-- What a trigger makes of the history: nothing, but that the run is halted.
halts_it : (run : ℕ) (x : Request) (since : List Request) → triggers run x ≡ true → is_some (option_or (halt_of run since) (halt_by run x since)) ≡ true
halts_it run (ToTrigger r act) since h = halting (halt_of run since) (r == run) (Triggered act since) h
  where
    halting : (b : Option Halt) (t : Bool) (halt : Halt) → t ≡ true → is_some (option_or b (if t then Some halt else None)) ≡ true
    halting None true halt e = refl
    halting None false halt e = cc
    halting (Some halt) t other e = refl
halts_it run (ToStage r text) since h = cc
halts_it run (ToStart r) since h = cc
halts_it run (ToMark r i) since h = cc
halts_it run (ToStop r) since h = cc
halts_it run (ToVerify r a text) since h = cc
halts_it run (ToHold a state) since h = cc
halts_it run (ToPassFully a i) since h = cc
halts_it run (ToIssue i) since h = cc
halts_it run (ToEnd ticket end) since h = cc
halts_it run (ToReport b a i report) since h = cc
halts_it run ToNobody since h = cc

no_write : (run : ℕ) (x : Request) (origin : Origin) (stopped : Bool) (h : List window.Event) → triggers run x ≡ true → with_request origin stopped x h ≡ h
no_write run (ToTrigger r act) origin stopped h t = refl
no_write run (ToStage r text) origin stopped h t = cc
no_write run (ToStart r) origin stopped h t = cc
no_write run (ToMark r i) origin stopped h t = cc
no_write run (ToStop r) origin stopped h t = cc
no_write run (ToVerify r a text) origin stopped h t = cc
no_write run (ToHold a state) origin stopped h t = cc
no_write run (ToPassFully a i) origin stopped h t = cc
no_write run (ToIssue i) origin stopped h t = cc
no_write run (ToEnd ticket end) origin stopped h t = cc
no_write run (ToReport b a i report) origin stopped h t = cc
no_write run ToNobody origin stopped h t = cc

state_counts : StatesCountTheDone → (origin : Origin) (since : List Request) (k : ℕ) → IsLegal origin.job (history origin since)
    → has (job_state origin since).counted k ≡ window.is_done (history origin since) k
unfolding job_state
state_counts counts origin since k legal = counts origin (history origin since) legal k

state_key : (origin : Origin) (since : List Request) → (job_state origin since).key ≡ origin.key
unfolding job_state
state_key origin since = refl

state_job : (origin : Origin) (since : List Request) → (job_state origin since).job ≡ origin.job
unfolding job_state
state_job origin since = refl

state_issued : (origin : Origin) (since : List Request) → (job_state origin since).issued ≡ window.issued (history origin since)
unfolding job_state
state_issued origin since = refl

-- The state of a job of a run, behind these requests.
pub record IsStateOf (origin : Origin) (h : List window.Event) (state : State) : Type 0 where
  pub key : state.key ≡ origin.key
  pub job_is : state.job ≡ origin.job
  pub issued_is : state.issued ≡ window.issued h
  pub counts : (k : ℕ) → has state.counted k ≡ window.is_done h k

pub state_is_of : StatesCountTheDone → (origin : Origin) (since : List Request) (state : State) → IsLegal origin.job (history origin since)
    → job_state origin since ≡ state → IsStateOf origin (history origin since) state
state_is_of counts origin since state legal e = subst (λ s. IsStateOf origin (history origin since) s) e
    (record {
      key = state_key origin since;
      job_is = state_job origin since;
      issued_is = state_issued origin since;
      counts = λ k. state_counts counts origin since k legal;
    })

link_now : StatesCountTheDone → (run j : ℕ) (x : Request) (w : Work) (state : State)
    → ((job : Job) → slice_get w.jobs j ≡ Some job → IsLegal job.rec (history (origin_of w j job) w.since)) → run ≡ w.run → Hit run j x w state
    → LinkOf (record w { since = x ∷ w.since }) j state
link_now counts run j x w state legal same k =
    let origin = origin_of w j k.job in
    let s = state_is_of counts origin w.since state (legal k.job k.has_job) k.state_is in
    let here : triggers w.run x ≡ true = subst (λ r. triggers r x ≡ true) same k.triggers_it in
    let same_history : history origin (x ∷ w.since) ≡ history origin w.since =
    no_write w.run x origin (is_some (halt_of w.run w.since)) (history origin w.since) here in
    record {
      job = k.job;
      has_job = k.has_job;
      halted_yet = halts_it w.run x w.since here;
      key = s.key;
      job_is = s.job_is;
      issued_is = s.issued_is ∙ ap window.issued (sym same_history);
      kept_done = λ i c. ap (λ h. window.is_done h i) same_history ∙ sym (s.counts i) ∙ c;
    }

-- A run that is halted goes on.
issued_on : (origin : Origin) (x : Request) (h : List window.Event) → window.issued (with_request origin true x h) ≡ window.issued h
issued_on origin (ToIssue i) h = chosen (i == origin.key.job)
  where
    chosen : (t : Bool) → window.issued (if t then h else h) ≡ window.issued h
    chosen true = refl
    chosen false = refl
issued_on origin (ToEnd ticket end) h = ended (ticket_answer origin (window.open_writes h) ticket) end
  where
    ended : (answer : Result (Unit {0}) Fault) (how : WriteEnd) → window.issued (with_ticket answer how ticket.seq h) ≡ window.issued h
    ended (Ok u) Done = refl
    ended (Ok u) Failed = refl
    ended (Err fault) how = refl
issued_on origin (ToStage r text) h = refl
issued_on origin (ToStart r) h = refl
issued_on origin (ToTrigger r act) h = refl
issued_on origin (ToMark r i) h = refl
issued_on origin (ToStop r) h = refl
issued_on origin (ToVerify r a text) h = refl
issued_on origin (ToHold a state) h = refl
issued_on origin (ToPassFully a i) h = refl
issued_on origin (ToReport b a i report) h = refl
issued_on origin ToNobody h = refl

done_on : (origin : Origin) (x : Request) (h : List window.Event) (k : ℕ) → window.is_done h k ≡ true → window.is_done (with_request origin true x h) k ≡ true
done_on origin (ToIssue i) h k d = chosen (i == origin.key.job)
  where
    chosen : (t : Bool) → window.is_done (if t then h else h) k ≡ true
    chosen true = d
    chosen false = d
done_on origin (ToEnd ticket end) h k d = ended (ticket_answer origin (window.open_writes h) ticket) end
  where
    ended : (answer : Result (Unit {0}) Fault) (how : WriteEnd) → window.is_done (with_ticket answer how ticket.seq h) k ≡ true
    ended (Ok u) Done = has_push (window.completions h) ticket.seq k ∙ ap (λ b. b || (ticket.seq == k)) d
    ended (Ok u) Failed = d
    ended (Err fault) how = d
done_on origin (ToStage r text) h k d = d
done_on origin (ToStart r) h k d = d
done_on origin (ToTrigger r act) h k d = d
done_on origin (ToMark r i) h k d = d
done_on origin (ToStop r) h k d = d
done_on origin (ToVerify r a text) h k d = d
done_on origin (ToHold a state) h k d = d
done_on origin (ToPassFully a i) h k d = d
done_on origin (ToReport b a i report) h k d = d
done_on origin ToNobody h k d = d

stays_halted : (b n : Option Halt) → is_some b ≡ true → is_some (option_or b n) ≡ true
stays_halted (Some halt) n h = refl
stays_halted None n h = cc

link_later : (x : Request) (w : Work) (j : ℕ) (state : State) → LinkOf w j state → LinkOf (record w { since = x ∷ w.since }) j state
link_later x w j state k =
    let origin = origin_of w j k.job in
    let h = history origin w.since in
    let same : with_request origin true x h ≡ history origin (x ∷ w.since) = ap (λ b. with_request origin b x h) (sym k.halted_yet) in
    record {
      job = k.job;
      has_job = k.has_job;
      halted_yet = stays_halted (halt_of w.run w.since) (halt_by w.run x w.since) k.halted_yet;
      key = k.key;
      job_is = k.job_is;
      issued_is = k.issued_is ∙ sym (issued_on origin x h) ∙ ap window.issued same;
      kept_done = λ i c. ap (λ g. window.is_done g i) (sym same) ∙ done_on origin x h i (k.kept_done i c);
    }

-- A state among those taken was taken now or before.
pub now_or_before : (x : Option State) (older : List State) (state : State) → Contains (and_those x older) state → (x ≡ Some state) ⊎ Contains older state
now_or_before None older state h = inr h
now_or_before (Some s) older state h = elim (Contains-append_cases (s ∷ []) older state h) [ inl i ↦ inl (ap Some (only_in s state i)) | inr i ↦ inr i ]

-- Of a run that is due to be recorded nothing was taken yet.
below : StartsOnce → (o : Opening) (run j : ℕ) (list : List Entry) (e : PacketInput) (s : Staged) (state : State) (t : IsTaking o run j list state)
    (between : List Entry) (past : List Entry)
    → past ≡ between ++ Met t.start Saved ∷ t.older → due o past e ≡ Some s → s.run ≡ run → ⊥
below starts o run j list e s state t between past is d same =
    let lt = starts o t.older between t.start e Saved t.started s refl t.accepted (subst (λ l. due o l e ≡ Some s) is d) in
    omega (arith, lt, t.run_is, same)

the_rest : {x y : Entry} {xs ys : List Entry} → x ∷ xs ≡ y ∷ ys → xs ≡ ys
the_rest h = cc

split_at : StartsOnce → (o : Opening) (run j : ℕ) (e : PacketInput) (left : SaveOutcome) (past : List Entry) (s : Staged) (state : State)
    (t : IsTaking o run j (Met e left ∷ past) state) (newer : List Entry)
    → t.newer ≡ newer → due o past e ≡ Some s → s.run ≡ run → ⊥
split_at starts o run j e left past s state t [] is d same =
    let behind = Met t.trigger t.left ∷ (t.between ++ Met t.start Saved ∷ t.older) in
    let whole : Met e left ∷ past ≡ [] ++ behind = subst (λ l. Met e left ∷ past ≡ l ++ behind) is t.split in
    below starts o run j (Met e left ∷ past) e s state t t.between past (the_rest whole) d same
split_at starts o run j e left past s state t (n ∷ newer) is d same =
    let behind = Met t.trigger t.left ∷ (t.between ++ Met t.start Saved ∷ t.older) in
    let whole : Met e left ∷ past ≡ n ∷ (newer ++ behind) = subst (λ l. Met e left ∷ past ≡ l ++ behind) is t.split in
    below starts o run j (Met e left ∷ past) e s state t (newer ++ Met t.trigger t.left ∷ t.between) past
    (the_rest whole ∙ sym (append_assoc newer (Met t.trigger t.left ∷ t.between) (Met t.start Saved ∷ t.older))) d same

pub none_taken_yet : Ground → (o : Opening) (j : ℕ) (e : PacketInput) (left : SaveOutcome) (past : List Entry) (s : Staged) (state : State) → due o past e ≡ Some s
    → Contains (takings o s.run j (Met e left ∷ past)) state → ⊥
none_taken_yet laws o j e left past s state d h =
    let t = laws.takings o s.run j (Met e left ∷ past) state h in
    split_at laws.starts o s.run j e left past s state t t.newer refl d refl

-- Whatever was taken of the present run is linked to it.
abbrev pub Linked : Opening → List Entry → Option Work → Type 0
Linked o list None = Unit {0}
Linked o list (Some w) = (j : ℕ) (state : State) → Contains (takings o w.run j list) state → LinkOf w j state

linked_on : Ground → (o : Opening) (e : PacketInput) (left : SaveOutcome) (past : List Entry) (x : Option Work) → work o past ≡ x → Linked o past x
    → Linked o (Met e left ∷ past) (goes_on (request_of o.me e) x)
linked_on laws o e left past None is l = tt
linked_on laws o e left past (Some w) is l = λ j state c.
    elim (now_or_before (takes w.run j (request_of o.me e) (work o past)) (takings o w.run j past) state c) [
      | inl now ↦ link_now laws.counts w.run j (request_of o.me e) w state (λ job found. job_legal laws o past w is j job found) refl
          (hit w.run j (request_of o.me e) w state (subst (λ v. takes w.run j (request_of o.me e) v ≡ Some state) is now))
      | inr before ↦ link_later (request_of o.me e) w j state (l j state before)
    ]

linked_after : Ground → (o : Opening) (e : PacketInput) (left : SaveOutcome) (past : List Entry) (d : Option Staged) (x : Option Work) → due o past e ≡ d → work o past ≡ x
    → Linked o past x
    → Linked o (Met e left ∷ past) (work_after left d o.me (boot o past) (request_of o.me e) x)
linked_after laws o e NoSave past d x a b l = linked_on laws o e NoSave past x b l
linked_after laws o e Saved past None x a b l = linked_on laws o e Saved past x b l
linked_after laws o e Saved past (Some s) x a b l = λ j state c. absurd (none_taken_yet laws o j e Saved past s state a c)
linked_after laws o e LostNew past d x a b l = tt
linked_after laws o e LostOld past d x a b l = tt

pub linked : Ground → (o : Opening) (past : List Entry) → Linked o past (work o past)
linked laws o [] = tt
linked laws o (Met e left ∷ past) = linked_after laws o e left past (due o past e) (work o past) refl refl (linked laws o past)
linked laws o (Cut ∷ past) = tt
linked laws o (Restart left ∷ past) = tt
