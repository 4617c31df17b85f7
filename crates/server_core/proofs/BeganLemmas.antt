-- The history of a job has just the completions that were accepted since its Start.
use Rattle.std.proofs.Common.{◌≡◌, refl, sym, ◌∙◌, ap, subst, ◌⊎◌, inl, inr, ℕ, true, List, [], ◌∷◌, ◌++◌, Option, None, Some}
use Rattle.std.specs.Prelude.{is_some, slice_get}
use Rattle.job_file.specs.declared.job.Job.{Job}
use Rattle.engine.specs.History as window
use Rattle.engine.specs.Running.{Origin}
use Rattle.server_core.specs.Inputs.{PacketInput}
use Rattle.disk_model.specs.declared.save_outcome.SaveOutcome.{SaveOutcome}
use Rattle.disk_model.specs.declared.save_outcome.SaveOutcome.TheVariants.{NoSave, Saved, LostNew, LostOld}
use Rattle.server_core.specs.History.{Opening, Entry, Met, Cut, Restart}
use Rattle.server_core.specs.Request.{Request, request_of}
use Rattle.server_core.specs.Run.{Work, halt_of, origin_of, history, goes_on}
use Rattle.server_core.specs.Words.{Staged, boot, work_after, work, due}
use Rattle.server_core.specs.Accepted.{IsDoneBy, IsDoneIn}
use Rattle.server_core.proofs.DoneLemmas.{IsAt, one_on, one_back, one_kept}

-- The run w goes on through these entries, which came behind others.
abbrev pub Since : Opening → List Entry → List Entry → Work → Type 0
Since o before [] w = (work o before ≡ Some w) × (w.since ≡ [])
Since o before (Met e left ∷ between) w =
    (v : Work) × Since o before between v × (record v { since = request_of o.me e ∷ v.since } ≡ w) × (work o (Met e left ∷ (between ++ before)) ≡ Some w)
Since o before (Cut ∷ between) w = ⊥
Since o before (Restart left ∷ between) w = ⊥

since_works : (o : Opening) (before between : List Entry) (w : Work) → Since o before between w → work o (between ++ before) ≡ Some w
since_works o before [] w s = s.0
since_works o before (Met e left ∷ between) w s = s.3
since_works o before (Cut ∷ between) w s = absurd s
since_works o before (Restart left ∷ between) w s = absurd s

none_done : (origin : Origin) (since : List Request) (k : ℕ) → since ≡ [] → window.is_done (history origin since) k ≡ true → ⊥
none_done origin since k e h = let moved : window.is_done (history origin []) k ≡ true = subst (λ l. window.is_done (history origin l) k ≡ true) e h in cc

pub done_on : (o : Opening) (before between : List Entry) (w : Work) (j : ℕ) (job : Job) (k : ℕ) → Since o before between w → slice_get w.jobs j ≡ Some job
    → window.is_done (history (origin_of w j job) w.since) k ≡ true → IsDoneIn o before between (origin_of w j job).key k
done_on o before [] w j job k s f h = none_done (origin_of w j job) w.since k s.1 h
done_on o before (Met e left ∷ between) w j job k s f h =
    let v = s.0 in
    let jobs_is : v.jobs ≡ w.jobs = ap (λ (x : Work). x.jobs) s.2 in
    let found : slice_get v.jobs j ≡ Some job = subst (λ l. slice_get l j ≡ Some job) (sym jobs_is) f in
    let at : IsAt o (between ++ before) v j job = record { works = since_works o before between v s.1; has_job = found } in
    let here = subst (λ (x : Work). window.is_done (history (origin_of x j job) x.since) k ≡ true) (sym s.2) h in
    let key_is : (origin_of v j job).key ≡ (origin_of w j job).key = ap (λ (x : Work). (origin_of x j job).key) s.2 in
    subst (λ key. IsDoneIn o before between key k ⊎ IsDoneBy o (between ++ before) e key k) key_is
    (elim (one_on o (between ++ before) v j job e k (is_some (halt_of v.run v.since)) at here) [
      | inl a ↦ inl (done_on o before between v j job k s.1 found a)
      | inr b ↦ inr b
    ])
done_on o before (Cut ∷ between) w j job k s f h = absurd s
done_on o before (Restart left ∷ between) w j job k s f h = absurd s

pub done_back : (o : Opening) (before between : List Entry) (w : Work) (j : ℕ) (job : Job) (k : ℕ) → Since o before between w → slice_get w.jobs j ≡ Some job
    → IsDoneIn o before between (origin_of w j job).key k → window.is_done (history (origin_of w j job) w.since) k ≡ true
done_back o before [] w j job k s f d = absurd d
done_back o before (Met e left ∷ between) w j job k s f d =
    let v = s.0 in
    let jobs_is : v.jobs ≡ w.jobs = ap (λ (x : Work). x.jobs) s.2 in
    let found : slice_get v.jobs j ≡ Some job = subst (λ l. slice_get l j ≡ Some job) (sym jobs_is) f in
    let at : IsAt o (between ++ before) v j job = record { works = since_works o before between v s.1; has_job = found } in
    let key_is : (origin_of w j job).key ≡ (origin_of v j job).key = ap (λ (x : Work). (origin_of x j job).key) (sym s.2) in
    let moved = subst (λ key. IsDoneIn o before between key k ⊎ IsDoneBy o (between ++ before) e key k) key_is d in
    subst (λ (x : Work). window.is_done (history (origin_of x j job) x.since) k ≡ true) s.2
    (elim moved [
      | inl a ↦ one_kept o v j job e k (is_some (halt_of v.run v.since)) (done_back o before between v j job k s.1 found a)
      | inr b ↦ one_back o (between ++ before) v j job e k (is_some (halt_of v.run v.since)) at b
    ])
done_back o before (Cut ∷ between) w j job k s f d = absurd s
done_back o before (Restart left ∷ between) w j job k s f d = absurd s

-- Where the present run began.
pub record Began (o : Opening) (past : List Entry) (w : Work) : Type 0 where
  pub between : List Entry
  pub start : PacketInput
  pub older : List Entry
  pub started : Staged
  pub split : past ≡ between ++ Met start Saved ∷ older
  pub accepted : due o older start ≡ Some started
  pub run_is : started.run ≡ w.run
  pub since : Since o (Met start Saved ∷ older) between w

same_work : (x y : Work) → Some x ≡ Some y → x ≡ y
same_work x y h = cc

went_on : (o : Opening) (past : List Entry) (e : PacketInput) (left : SaveOutcome) (x : Option Work) (w : Work) → ((v : Work) → x ≡ Some v → Began o past v)
    → work o (Met e left ∷ past) ≡ Some w → goes_on (request_of o.me e) x ≡ Some w → Began o (Met e left ∷ past) w
went_on o past e left None w f all h = cc
went_on o past e left (Some v) w f all h =
    let b = f v refl in
    let here = same_work (record v { since = request_of o.me e ∷ v.since }) w h in
    record {
      between = Met e left ∷ b.between;
      start = b.start;
      older = b.older;
      started = b.started;
      split = ap (λ l. Met e left ∷ l) b.split;
      accepted = b.accepted;
      run_is = b.run_is ∙ ap (λ (x : Work). x.run) here;
      since = (v, b.since, here, subst (λ l. work o (Met e left ∷ l) ≡ Some w) b.split all);
    }

began_now : (o : Opening) (past : List Entry) (e : PacketInput) (s : Staged) (w : Work) → due o past e ≡ Some s → work o (Met e Saved ∷ past) ≡ Some w
    → ◌≡◌ {A = Option Work} (Some (record { server = o.me; boot = boot o past; run = s.run; jobs = s.jobs; since = [] })) (Some w)
    → Began o (Met e Saved ∷ past) w
began_now o past e s w is all h =
    let here = same_work (record { server = o.me; boot = boot o past; run = s.run; jobs = s.jobs; since = [] }) w h in
    record {
      between = [];
      start = e;
      older = past;
      started = s;
      split = refl;
      accepted = is;
      run_is = ap (λ (x : Work). x.run) here;
      since = (all, sym (ap (λ (x : Work). x.since) here));
    }

began_at : (o : Opening) (past : List Entry) (e : PacketInput) (left : SaveOutcome) (d : Option Staged) (w : Work) → due o past e ≡ d
    → ((v : Work) → work o past ≡ Some v → Began o past v)
    → work o (Met e left ∷ past) ≡ Some w → work_after left d o.me (boot o past) (request_of o.me e) (work o past) ≡ Some w → Began o (Met e left ∷ past) w
began_at o past e NoSave d w is f all h = went_on o past e NoSave (work o past) w f all h
began_at o past e Saved None w is f all h = went_on o past e Saved (work o past) w f all h
began_at o past e Saved (Some s) w is f all h = began_now o past e s w is all h
began_at o past e LostNew d w is f all h = cc
began_at o past e LostOld d w is f all h = cc

pub began : (o : Opening) (past : List Entry) (w : Work) → work o past ≡ Some w → Began o past w
began o [] w h = cc
began o (Met e left ∷ past) w h = began_at o past e left (due o past e) w refl (began o past) h h
began o (Cut ∷ past) w h = cc
began o (Restart left ∷ past) w h = cc
