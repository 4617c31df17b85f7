-- A taken state counts exactly the writes that were completed between the accepted Start and the taking.
use Rattle.std.proofs.Common.{◌≡◌, refl, sym, ◌∙◌, ap, subst, inl, inr, ℕ, Bool, true, false, ◌&&◌, ◌==◌, List, [], ◌∷◌, Option, None, Some}
use Rattle.std.specs.Prelude.{if◌then◌else◌, slice_get, Contains, IsTrue}
use Rattle.std.proofs.lemmas.List.Elements.{Contains-append_cases}
use Rattle.std.proofs.lemmas.Bool.{eqb-true}
use Rattle.fc_base.specs.Counted.{has}
use Rattle.fc_base.specs.declared.numbers.Key.{Key}
use Rattle.job_file.specs.declared.job.Job.{Job}
use Rattle.verify_state.specs.State.{State}
use Rattle.engine.specs.History as window
use Rattle.engine.specs.Running.{Origin}
use Rattle.engine.specs.Laws.{StatesCountTheDone}
use Rattle.fc_base.specs.JobParts.{is_within_limits}
use Rattle.server_core.specs.Inputs.{PacketInput}
use Rattle.disk_model.specs.declared.save_outcome.SaveOutcome.{SaveOutcome}
use Rattle.disk_model.specs.declared.save_outcome.SaveOutcome.TheVariants.{Saved}
use Rattle.server_core.specs.History.{Opening, Entry, Met, Cut, Restart}
use Rattle.server_core.specs.Request.{Request, request_of}
use Rattle.server_core.specs.Run.{Work, Halt, halt_of, origin_of, history}
use Rattle.server_core.specs.Words.{work}
use Rattle.server_core.specs.Taken.{job_state, saved_state, triggers, takes_now, takes, and_those, takings}
use Rattle.server_core.specs.Accepted.{IsDoneIn, IsTaking}
use Rattle.server_core.proofs.WorkLemmas.{is_of}
use Rattle.server_core.specs.Laws.{RunsHaveSets, HistoriesAreLegal}
use Rattle.server_core.proofs.SetLemmas.{job_at}
use Rattle.fc_base.proofs.ListLemmas.{none_in, only_in}
use Rattle.server_core.proofs.BeganLemmas.{began, done_on, done_back}

-- What a taking takes.
record Takes (run j : ℕ) (w : Work) (state : State) : Type 0 where
  pub here : w.run ≡ run
  pub job : Job
  pub has_job : slice_get w.jobs j ≡ Some job
  pub state_is : job_state (origin_of w j job) w.since ≡ state

saved_one : (w : Work) (run j : ℕ) (job : Job) (b : Bool) (state : State) → w.run ≡ run → slice_get w.jobs j ≡ Some job
    → (if b then Some (job_state (origin_of w j job) w.since) else None) ≡ Some state → Takes run j w state
saved_one w run j job true state e f h = record { here = e; job = job; has_job = f; state_is = cc }
saved_one w run j job false state e f h = cc

found_one : (w : Work) (run j : ℕ) (job : Option Job) (state : State) → w.run ≡ run → slice_get w.jobs j ≡ job → saved_state w j job w.since ≡ Some state
    → Takes run j w state
found_one w run j None state e f h = cc
found_one w run j (Some job) state e f h = saved_one w run j job job.save state e f h

hit_one : (u t : Bool) (w : Work) (run j : ℕ) (b : Option Halt) (state : State) → (t ≡ true → w.run ≡ run) → takes_now (u && t) w j b ≡ Some state
    → Takes run j w state
hit_one true true w run j None state e h = found_one w run j (slice_get w.jobs j) state (e refl) refl h
hit_one true true w run j (Some halt) state e h = cc
hit_one true false w run j None state e h = cc
hit_one true false w run j (Some halt) state e h = cc
hit_one false t w run j None state e h = cc
hit_one false t w run j (Some halt) state e h = cc

takes_of : (run j : ℕ) (x : Request) (w : Work) (state : State) → takes run j x (Some w) ≡ Some state → Takes run j w state
takes_of run j x w state h = hit_one (triggers run x) (w.run == run) w run j (halt_of w.run w.since) state (eqb-true w.run run) h

-- The laws of the layers below, on which the count rests.
pub record Below : Type 0 where
  pub runs : RunsHaveSets
  pub legal : HistoriesAreLegal
  pub counted : StatesCountTheDone

state_counts : Below → (origin : Origin) (since : List Request) (k : ℕ) → is_within_limits origin.job ≡ true
    → has (job_state origin since).counted k ≡ window.is_done (history origin since) k
unfolding job_state
state_counts below origin since k within = below.counted origin (history origin since) (below.legal origin since within) k

taking_now : Below → (o : Opening) (run j : ℕ) (past : List Entry) (e : PacketInput) (left : SaveOutcome) (x : Option Work) (state : State) → work o past ≡ x
    → takes run j (request_of o.me e) x ≡ Some state → IsTaking o run j (Met e left ∷ past) state
taking_now below o run j past e left None state is h = cc
taking_now below o run j past e left (Some w) state is h =
    let t = takes_of run j (request_of o.me e) w state h in
    let b = began o past w is in
    let of = is_of o past w is in
    let limits = job_at (λ job. IsTrue (is_within_limits job.rec)) w.jobs j t.job (below.runs o past w is).within.within t.has_job in
    let counts : (k : ℕ) → has state.counted k ≡ window.is_done (history (origin_of w j t.job) w.since) k =
    λ k. subst (λ (s : State). has s.counted k ≡ window.is_done (history (origin_of w j t.job) w.since) k) t.state_is
    (state_counts below (origin_of w j t.job) w.since k limits) in
    let key : (origin_of w j t.job).key ≡ record { run = run; server = o.me; job = j } =
    subst (λ n. (origin_of w j t.job).key ≡ record { run = n; server = o.me; job = j }) t.here
    (subst (λ m. (origin_of w j t.job).key ≡ record { run = w.run; server = m; job = j }) of.server refl) in
    record {
      newer = [];
      trigger = e;
      left = left;
      between = b.between;
      start = b.start;
      older = b.older;
      split = ap (λ l. Met e left ∷ l) b.split;
      started = b.started;
      accepted = b.accepted;
      run_is = b.run_is ∙ t.here;
      pulls = subst (λ l. takes run j (request_of o.me e) (work o l) ≡ Some state) b.split
          (subst (λ v. takes run j (request_of o.me e) v ≡ Some state) (sym is) h);
      counts = λ k c. subst (λ (n : Key). IsDoneIn o (Met b.start Saved ∷ b.older) b.between n k) key
          (done_on o (Met b.start Saved ∷ b.older) b.between w j t.job k b.since t.has_job (sym (counts k) ∙ c));
      counts_all = λ k d. counts k ∙ done_back o (Met b.start Saved ∷ b.older) b.between w j t.job k b.since t.has_job
          (subst (λ (n : Key). IsDoneIn o (Met b.start Saved ∷ b.older) b.between n k) (sym key) d);
    }

later : (o : Opening) (run j : ℕ) (past : List Entry) (e : Entry) (state : State) → IsTaking o run j past state → IsTaking o run j (e ∷ past) state
later o run j past e state t = record {
  newer = e ∷ t.newer;
  trigger = t.trigger;
  left = t.left;
  between = t.between;
  start = t.start;
  older = t.older;
  split = ap (λ l. e ∷ l) t.split;
  started = t.started;
  accepted = t.accepted;
  run_is = t.run_is;
  pulls = t.pulls;
  counts = t.counts;
  counts_all = t.counts_all;
}

now_or_before : Below → (o : Opening) (run j : ℕ) (past : List Entry) (e : PacketInput) (left : SaveOutcome) (x : Option State) (state : State)
    → takes run j (request_of o.me e) (work o past) ≡ x
    → ((s : State) → Contains (takings o run j past) s → IsTaking o run j past s) → Contains (and_those x (takings o run j past)) state
    → IsTaking o run j (Met e left ∷ past) state
now_or_before below o run j past e left None state is f h = later o run j past (Met e left) state (f state h)
now_or_before below o run j past e left (Some s) state is f h =
    elim (Contains-append_cases (s ∷ []) (takings o run j past) state h) [
      | inl i ↦ taking_now below o run j past e left (work o past) state refl (is ∙ ap Some (only_in s state i))
      | inr i ↦ later o run j past (Met e left) state (f state i)
    ]

pub taking_of : Below → (o : Opening) (run j : ℕ) (list : List Entry) (state : State) → Contains (takings o run j list) state → IsTaking o run j list state
taking_of below o run j [] state h = absurd (none_in state h)
taking_of below o run j (Met e left ∷ past) state h =
    now_or_before below o run j past e left (takes run j (request_of o.me e) (work o past)) state refl (taking_of below o run j past) h
taking_of below o run j (Cut ∷ past) state h = later o run j past Cut state (taking_of below o run j past state h)
taking_of below o run j (Restart left ∷ past) state h = later o run j past (Restart left) state (taking_of below o run j past state h)
