-- What is kept of numbered jobs.
use Rattle.std.proofs.Common.{◌≡◌, ◌≢◌, refl, sym, ap, ◌∙◌, ℕ, zero, suc, ◌+◌, ◌≤◌, arith, List, [], ◌∷◌, ◌++◌, length, take, Some}
use Rattle.std.specs.Prelude.{set, slice_get, map, get_or}
use Rattle.std.specs.Option.{option_map}
use Rattle.std.proofs.lemmas.List.{map-id, take_more, length-take-le}
use Rattle.job_file.specs.declared.job.Job.{Job}
use Rattle.server_core.specs.Kept.{map_numbered}

pub length-numbered : {A : Type 0} (f : ℕ → Job → A) (k : ℕ) (jobs : List Job) → length (map_numbered f k jobs) ≡ length jobs
length-numbered f k [] = refl
length-numbered f k (job ∷ jobs) = ap suc (length-numbered f (k + 1) jobs)

zero_more : (k : ℕ) → k + 0 ≡ k
zero_more k = omega arith

next : (k i : ℕ) → k + 1 + i ≡ k + suc i
next k i = omega arith

pub plus_zero : (i : ℕ) → 0 + i ≡ i
plus_zero i = omega arith

-- Each is changed alike.
pub map-numbered : {A : Type 0} (h : A → A) (f g : ℕ → Job → A) (k : ℕ) (jobs : List Job)
    → ((i : ℕ) (job : Job) → slice_get jobs i ≡ Some job → g (k + i) job ≡ h (f (k + i) job)) → map h (map_numbered f k jobs) ≡ map_numbered g k jobs
map-numbered h f g k [] same = refl
map-numbered h f g k (job ∷ jobs) same =
    ap (λ r. r ∷ map h (map_numbered f (k + 1) jobs)) (ap (λ n. h (f n job)) (sym (zero_more k)) ∙ sym (same 0 job refl) ∙ ap (λ n. g n job) (zero_more k))
    ∙ ap (λ rs. g k job ∷ rs) (map-numbered h f g (k + 1) jobs
    (λ i other is. ap (λ n. g n other) (next k i) ∙ same (suc i) other is ∙ ap (λ n. h (f n other)) (sym (next k i))))

-- None is changed.
pub same_numbered : {A : Type 0} (f g : ℕ → Job → A) (jobs : List Job) → ((i : ℕ) (job : Job) → slice_get jobs i ≡ Some job → g i job ≡ f i job)
    → map_numbered f 0 jobs ≡ map_numbered g 0 jobs
same_numbered f g jobs same =
    sym (map-id (map_numbered f 0 jobs)) ∙ map-numbered (λ x. x) f g 0 jobs
    (λ i job is. ap (λ n. g n job) (plus_zero i) ∙ same i job is ∙ ap (λ n. f n job) (sym (plus_zero i)))

from_numbered : {A : Type 0} (f g : ℕ → Job → A) (j : ℕ) (jobs : List Job) → ((i : ℕ) (job : Job) → j ≤ i → g i job ≡ f i job)
    → map_numbered f j jobs ≡ map_numbered g j jobs
from_numbered f g j [] same = refl
from_numbered f g j (job ∷ jobs) same =
    ap (λ r. r ∷ map_numbered f (j + 1) jobs) (sym (same j job (omega arith)))
    ∙ ap (λ rs. g j job ∷ rs) (from_numbered f g (j + 1) jobs (λ i other le. same i other (omega (arith, le))))

-- One is changed.
pub set_numbered : {A : Type 0} (f g : ℕ → Job → A) (k : ℕ) (jobs : List Job) (i : ℕ) (new : A) → ((j : ℕ) (job : Job) → j ≢ k + i → g j job ≡ f j job)
    → ((job : Job) → slice_get jobs i ≡ Some job → new ≡ g (k + i) job)
    → set (map_numbered f k jobs) i new ≡ map_numbered g k jobs
set_numbered f g k [] i new others here = refl
set_numbered f g k (job ∷ jobs) zero new others here =
    ap (λ r. r ∷ map_numbered f (k + 1) jobs) (here job refl ∙ ap (λ n. g n job) (zero_more k))
    ∙ ap (λ rs. g k job ∷ rs) (from_numbered f g (k + 1) jobs (λ i other le. others i other (λ e. past i le e)))
  where
    past : (i : ℕ) → k + 1 ≤ i → i ≡ k + 0 → ⊥
    past i le e = absurd (omega (arith, le, e))
set_numbered f g k (job ∷ jobs) (suc i) new others here =
    ap (λ r. r ∷ set (map_numbered f (k + 1) jobs) i new) (sym (others k job before))
    ∙ ap (λ rs. g k job ∷ rs) (set_numbered f g (k + 1) jobs i new (λ j other ne. others j other (λ e. ne (e ∙ sym (next k i))))
    (λ other is. here other is ∙ ap (λ n. g n other) (sym (next k i))))
  where
    before : k ≢ k + suc i
    before e = absurd (omega (arith, e))

-- One is changed, and the numbers begin at 0.
pub set_one : {A : Type 0} (f g : ℕ → Job → A) (jobs : List Job) (i : ℕ) (new : A) → ((j : ℕ) (job : Job) → j ≢ i → g j job ≡ f j job)
    → ((job : Job) → slice_get jobs i ≡ Some job → new ≡ g i job)
    → set (map_numbered f 0 jobs) i new ≡ map_numbered g 0 jobs
set_one f g jobs i new others here =
    set_numbered f g 0 jobs i new (λ j job ne. others j job (λ e. ne (e ∙ sym (plus_zero i)))) (λ job is. here job is ∙ ap (λ n. g n job) (sym (plus_zero i)))

-- What is there was given for a job.
at_numbered : {A : Type 0} (f : ℕ → Job → A) (k : ℕ) (jobs : List Job) (i : ℕ) (old : A) → slice_get (map_numbered f k jobs) i ≡ Some old
    → (job : Job) × (slice_get jobs i ≡ Some job) × (old ≡ f (k + i) job)
at_numbered f k [] i old is = cc
at_numbered f k (job ∷ jobs) zero old is = let at : k + 0 ≡ k = omega arith in (job, refl, rw at (first is))
  where
    first : Some (f k job) ≡ Some old → old ≡ f k job
    first e = cc
at_numbered f k (job ∷ jobs) (suc i) old is = let p = at_numbered f (k + 1) jobs i old is in (p.0, p.1, rw (← next k i) p.2)

pub job_of : {A : Type 0} (f : ℕ → Job → A) (jobs : List Job) (i : ℕ) (old : A) → slice_get (map_numbered f 0 jobs) i ≡ Some old
    → (job : Job) × (slice_get jobs i ≡ Some job) × (old ≡ f i job)
job_of f jobs i old is = let p = at_numbered f 0 jobs i old is in (p.0, p.1, p.2 ∙ ap (λ n. f n p.0) (plus_zero i))

get_numbered : {A : Type 0} (f : ℕ → Job → A) (k : ℕ) (jobs : List Job) (i : ℕ) (job : Job) → slice_get jobs i ≡ Some job
    → slice_get (map_numbered f k jobs) i ≡ Some (f (k + i) job)
get_numbered f k [] i job is = cc
get_numbered f k (first ∷ jobs) zero job is = ap (λ j. Some (f k j)) (same is) ∙ ap (λ n. Some (f n job)) (sym (zero_more k))
  where
    same : Some first ≡ Some job → first ≡ job
    same e = cc
get_numbered f k (first ∷ jobs) (suc i) job is = get_numbered f (k + 1) jobs i job is ∙ ap (λ n. Some (f n job)) (next k i)

pub get_at : {A : Type 0} (f : ℕ → Job → A) (jobs : List Job) (i : ℕ) (job : Job) → slice_get jobs i ≡ Some job
    → slice_get (map_numbered f 0 jobs) i ≡ Some (f i job)
get_at f jobs i job is = get_numbered f 0 jobs i job is ∙ ap (λ n. Some (f n job)) (plus_zero i)

-- What is there is given for the job that is there, if there is one.
each_numbered : {A : Type 0} (f : ℕ → Job → A) (k : ℕ) (jobs : List Job) (i : ℕ)
    → slice_get (map_numbered f k jobs) i ≡ option_map (f (k + i)) (slice_get jobs i)
each_numbered f k [] i = refl
each_numbered f k (first ∷ jobs) zero = ap (λ n. Some (f n first)) (sym (zero_more k))
each_numbered f k (first ∷ jobs) (suc i) = each_numbered f (k + 1) jobs i ∙ ap (λ n. option_map (f n) (slice_get jobs i)) (next k i)

pub each_at : {A : Type 0} (f : ℕ → Job → A) (jobs : List Job) (i : ℕ) → slice_get (map_numbered f 0 jobs) i ≡ option_map (f i) (slice_get jobs i)
each_at f jobs i = each_numbered f 0 jobs i ∙ ap (λ n. option_map (f n) (slice_get jobs i)) (plus_zero i)

-- One more.
more_numbered : {A : Type 0} (f : ℕ → Job → A) (k : ℕ) (jobs : List Job) (job : Job)
    → map_numbered f k (jobs ++ job ∷ []) ≡ map_numbered f k jobs ++ f (k + length jobs) job ∷ []
more_numbered f k [] job = let e : k + 0 ≡ k = omega arith in rw e refl
more_numbered f k (first ∷ jobs) job =
    ap (λ rs. f k first ∷ rs) (more_numbered f (k + 1) jobs job ∙ ap (λ n. map_numbered f (k + 1) jobs ++ f n job ∷ []) (next k (length jobs)))

pub take_numbered : {A : Type 0} (f : ℕ → Job → A) (jobs : List Job) (i : ℕ) (job : Job) → suc i ≤ length jobs → job ≡ get_or jobs i job
    → map_numbered f 0 (take (i + 1) jobs) ≡ map_numbered f 0 (take i jobs) ++ f i job ∷ []
take_numbered f jobs i job lt at =
    ap (map_numbered f 0) (take_more jobs i job lt ∙ ap (λ j. take i jobs ++ j ∷ []) (sym at)) ∙ more_numbered f 0 (take i jobs) job
    ∙ ap (λ n. map_numbered f 0 (take i jobs) ++ f n job ∷ []) place
  where
    place : 0 + length (take i jobs) ≡ i
    place = omega (arith, length-take-le i jobs (omega (arith, lt)))
