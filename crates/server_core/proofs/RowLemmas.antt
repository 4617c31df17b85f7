-- What is kept of a run's jobs, behind one more request.
use Rattle.std.proofs.Common.{◌≡◌, ◌≢◌, refl, sym, ap, subst, ◌∙◌, ℕ, zero, suc, ◌+◌, ◌<◌, arith, Bool, List, [], ◌∷◌, ◌++◌, length, Option, None, Some}
use Rattle.std.specs.Prelude.{set, slice_get, is_some, map, take, drop, get_or}
use Rattle.std.specs.Option.{option_or}
use Rattle.std.proofs.lemmas.List.{map-id}
use Rattle.std.proofs.lemmas.Option.{slice_get_read}
use Rattle.fc_base.specs.Counted.{has}
use Rattle.job_file.specs.declared.job.Job.{Job}
use Rattle.verify_state.specs.State.{State}
use Rattle.engine.specs.History as window
use Rattle.engine.specs.Running.{Running, running_of}
use Rattle.server_core.specs.declared.job_run.JobRun.{JobRun}
use Rattle.server_core.specs.declared.job_run.End.{End}
use Rattle.server_core.specs.Request.{Request}
use Rattle.server_core.specs.Run.{Work, Halt, halt_of, origin_of, history}
use Rattle.server_core.specs.Taken.{taken_by_halt}
use Rattle.server_core.specs.Answers.{marks}
use Rattle.server_core.proofs.NumberedLemmas.{plus_zero, map-numbered, set_one, job_of}
use Rattle.server_core.specs.Kept.{Kept, end_kept, job_kept, RunIs}

-- A run behind one more request.
abbrev pub and_then : Work → Request → Work
and_then w x = record w { since = x ∷ w.since }

abbrev pub row : Work → ℕ → Job → Option Halt → List window.Event → Bool → JobRun
row w j job b h m = record {
  engine = running_of (origin_of w j job) (is_some b) h;
  save = job.save;
  taken = taken_by_halt w j b;
  marked = m;
}

pub or_none : (b : Option Halt) → option_or b None ≡ b
or_none None = refl
or_none (Some h) = refl

pub row_by : (w : Work) (x : Request) (j : ℕ) (job : Job) (b : Option Halt) (h : List window.Event) (m : Bool) →
    halt_of w.run (x ∷ w.since) ≡ b → history (origin_of w j job) (x ∷ w.since) ≡ h → has (marks w.run (x ∷ w.since)) j ≡ m
    → job_kept (and_then w x) j job ≡ row w j job b h m
row_by w x j job b h m e f g = ap (λ c. row w j job c (history (origin_of w j job) (x ∷ w.since)) (has (marks w.run (x ∷ w.since)) j)) e
    ∙ ap (λ i. row w j job b i (has (marks w.run (x ∷ w.since)) j)) f ∙ ap (row w j job b h) g

pub same_row : (w : Work) (x : Request) (j : ℕ) (job : Job) → halt_of w.run (x ∷ w.since) ≡ halt_of w.run w.since
    → history (origin_of w j job) (x ∷ w.since) ≡ history (origin_of w j job) w.since
    → has (marks w.run (x ∷ w.since)) j ≡ has (marks w.run w.since) j → job_kept (and_then w x) j job ≡ job_kept w j job
same_row w x j job e f g = row_by w x j job (halt_of w.run w.since) (history (origin_of w j job) w.since) (has (marks w.run w.since) j) e f g

abbrev pub kept_by : ℕ → Option End → List Job → List JobRun → Kept
kept_by n e js ks = record { number = n; end = e; jobs = js; kept = ks }

pub same_kept : (n m : ℕ) (e f : Option End) (js gs : List Job) (ks ls : List JobRun) → n ≡ m → e ≡ f → js ≡ gs → ks ≡ ls
    → kept_by n e js ks ≡ kept_by m f gs ls
same_kept n m e f js gs ks ls a b c d = cc

-- A request that changes what is kept of each job alike.
pub each_row : (kept : Kept) (w : Work) (x : Request) (f : JobRun → JobRun) (b : Option Halt) → RunIs kept w → halt_of w.run (x ∷ w.since) ≡ b
    → ((j : ℕ) (job : Job) → slice_get w.jobs j ≡ Some job → job_kept (and_then w x) j job ≡ f (job_kept w j job))
    → RunIs (record kept { end = end_kept b; kept = map f kept.kept }) (and_then w x)
each_row kept w x f b h now same = record {
  is = same_kept _ _ _ _ _ _ _ _ (ap (λ (k : Kept). k.number) h.is) (sym (ap end_kept now)) (ap (λ (k : Kept). k.jobs) h.is)
      (ap (λ (k : Kept). map f k.kept) h.is ∙ map-numbered f (job_kept w) (job_kept (and_then w x)) 0 w.jobs
      (λ j job is. ap (λ n. job_kept (and_then w x) n job) (plus_zero j) ∙ same j job is ∙ ap (λ n. f (job_kept w n job)) (sym (plus_zero j))));
  jobs = h.jobs;
  run = h.run;
  server = h.server;
}

-- A request that changes nothing of any job leaves what is kept.
pub idle : (kept : Kept) (w : Work) (x : Request) → RunIs kept w → halt_of w.run (x ∷ w.since) ≡ halt_of w.run w.since
    → ((j : ℕ) (job : Job) → slice_get w.jobs j ≡ Some job → history (origin_of w j job) (x ∷ w.since) ≡ history (origin_of w j job) w.since)
    → ((j : ℕ) (job : Job) → slice_get w.jobs j ≡ Some job → has (marks w.run (x ∷ w.since)) j ≡ has (marks w.run w.since) j) → RunIs kept (and_then w x)
idle kept w x h b s m =
    subst (λ k. RunIs k (and_then w x)) (same_kept _ _ _ _ _ _ _ _ refl (sym (ap (λ (k : Kept). k.end) h.is)) refl (map-id kept.kept))
    (each_row kept w x (λ k. k) (halt_of w.run w.since) h b (λ j job is. same_row w x j job b (s j job is) (m j job is)))

pub job_here : (kept : Kept) (w : Work) (i : ℕ) (old : JobRun) → RunIs kept w → slice_get kept.kept i ≡ Some old
    → (job : Job) × (slice_get w.jobs i ≡ Some job) × (old ≡ job_kept w i job)
job_here kept w i old h at =
    job_of (job_kept w) w.jobs i old (sym (ap (λ (k : Kept). slice_get k.kept i) h.is) ∙ at)

-- A request that changes what is kept of one job.
pub one_row : (kept : Kept) (w : Work) (x : Request) (i : ℕ) (new : JobRun) → RunIs kept w → halt_of w.run (x ∷ w.since) ≡ halt_of w.run w.since
    → ((j : ℕ) (job : Job) → j ≢ i → history (origin_of w j job) (x ∷ w.since) ≡ history (origin_of w j job) w.since)
    → ((j : ℕ) → j ≢ i → has (marks w.run (x ∷ w.since)) j ≡ has (marks w.run w.since) j)
    → ((job : Job) → slice_get w.jobs i ≡ Some job → new ≡ job_kept (and_then w x) i job)
    → RunIs (record kept { kept = set kept.kept i new }) (and_then w x)
one_row kept w x i new h b s m here = record {
  is = same_kept _ _ _ _ _ _ _ _ (ap (λ (k : Kept). k.number) h.is) (ap (λ (k : Kept). k.end) h.is ∙ sym (ap end_kept b)) (ap (λ (k : Kept). k.jobs) h.is)
      (ap (λ (k : Kept). set k.kept i new) h.is ∙ set_one (job_kept w) (job_kept (and_then w x)) w.jobs i new
      (λ j job ne. same_row w x j job b (s j job ne) (m j ne)) here);
  jobs = h.jobs;
  run = h.run;
  server = h.server;
}

abbrev job_run_by : Running → Bool → Option State → Bool → JobRun
job_run_by e s t m = record { engine = e; save = s; taken = t; marked = m }

pub same_job_run : (e f : Running) (s r : Bool) (t u : Option State) (m n : Bool) → e ≡ f → s ≡ r → t ≡ u → m ≡ n → job_run_by e s t m ≡ job_run_by f r u n
same_job_run e f s r t u m n a b c d = cc

-- A request that changes the engine alone.
pub engine_row : (w : Work) (x : Request) (i : ℕ) (job : Job) (old : JobRun) (engine : Running) (h : List window.Event) → old ≡ job_kept w i job
    → engine ≡ running_of (origin_of w i job) (is_some (halt_of w.run w.since)) h
    → halt_of w.run (x ∷ w.since) ≡ halt_of w.run w.since → history (origin_of w i job) (x ∷ w.since) ≡ h
    → has (marks w.run (x ∷ w.since)) i ≡ has (marks w.run w.since) i
    → record old { engine = engine } ≡ job_kept (and_then w x) i job
engine_row w x i job old engine h is e b s m =
    same_job_run _ _ _ _ _ _ _ _ e (ap (λ (k : JobRun). k.save) is) (ap (λ (k : JobRun). k.taken) is) (ap (λ (k : JobRun). k.marked) is)
    ∙ sym (row_by w x i job (halt_of w.run w.since) h (has (marks w.run w.since) i) b s m)

-- ---- a loop over all jobs

-- The first i are changed.
abbrev pub partly : {A : Type 0} → (A → A) → ℕ → List A → List A
partly f i xs = map f (take i xs) ++ drop i xs

pub part_more : {A : Type 0} (f : A → A) (xs : List A) (i : ℕ) (x : A) → slice_get (partly f i xs) i ≡ Some x
    → set (partly f i xs) i (f x) ≡ partly f (i + 1) xs
part_more f [] zero x is = cc
part_more f [] (suc i) x is = cc
part_more f (y ∷ ys) zero x is = ap (λ z. f z ∷ ys) (first is)
  where
    first : Some y ≡ Some x → x ≡ y
    first e = cc
part_more f (y ∷ ys) (suc i) x is = ap (λ zs. f y ∷ zs) (part_more f ys i x is) ∙ ap (λ n. partly f n (y ∷ ys)) next
  where
    next : suc (i + 1) ≡ suc i + 1
    next = omega arith

pub part_step : {A : Type 0} (f : A → A) (xs ys : List A) (i : ℕ) (x new : A) → ys ≡ partly f i xs → length ys ≡ length xs → i < length xs → x ≡ get_or ys i x
    → new ≡ f (get_or ys i x) → set ys i new ≡ partly f (i + 1) xs
part_step f xs ys i x new is len lt read e =
    let at : slice_get (partly f i xs) i ≡ Some x = ap (λ zs. slice_get zs i) (sym is) ∙ slice_get_read ys (length ys) i x refl (omega (arith, len, lt)) read in
    ap (λ zs. set zs i new) is ∙ ap (set (partly f i xs) i) (e ∙ ap f (sym read)) ∙ part_more f xs i x at
