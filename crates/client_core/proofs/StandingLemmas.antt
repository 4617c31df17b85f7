-- What is kept of a request is kept with one more answer.
use Rattle.std.proofs.Common.{◌≡◌, refl, sym, ◌∙◌, ap, subst, ◌⊎◌, inl, inr, ℕ, zero, suc, ◌<◌, ◌≤◌, arith}
use Rattle.std.proofs.Common.{Bool, true, false, ◌&&◌, ◌||◌, ◌==◌, List, [], ◌∷◌, ◌++◌, length, take, get_or}
use Rattle.std.specs.Prelude.{if◌then◌else◌, nat_lt, nat_le, slice_set, slice_index_or}
use Rattle.std.specs.List.{list_all, list_any}
use Rattle.std.proofs.lemmas.Bool.{and_parts}
use Rattle.std.proofs.lemmas.Bool.Decides.{nat_tests}
use Rattle.std.proofs.Math.Seq.{take-suc}
use Rattle.fc_base.specs.declared.limits.TheConstants.{MAX_JOBS}
use Rattle.fc_base.specs.Counted.{numbers_below}
use Rattle.messages.specs.declared.refusal.Reason.TheVariants as reasons
use Rattle.messages.specs.Ranges.{is_jobs, is_job_of}
use Rattle.client_core.specs.Requests.{Telling, Request, jobs_told, tells_of, tells_all, has_misfit, when_one_tells}
use Rattle.client_core.specs.Requests as requests
use Rattle.client_core.specs.declared.outcome.Outcome.TheVariants as outcomes
use Rattle.client_core.specs.declared.request_status.RequestStatus.{RequestStatus}
use Rattle.client_core.specs.Outcomes.{request_outcome}
use Rattle.client_core.specs.RequestStatus.{IsOpen, IsRequestKept, jobs_with, all_told, outcome_with, with_answer}

-- the number of jobs with one more answer
told_jobs : (t : Telling) (ts : List Telling) (jobs : ℕ) → jobs ≡ jobs_told ts → (ts ≡ []) ⊎ (1 ≤ jobs_told ts) → jobs_with jobs t.jobs ≡ jobs_told (t ∷ ts)
told_jobs t [] jobs e any = let z : (jobs == 0) ≡ true = grind (arith, nat_tests) in rw z refl
told_jobs t (u ∷ ts) jobs e (inl n) = cc
told_jobs t (u ∷ ts) jobs e (inr l) = let z : (jobs == 0) ≡ false = grind (arith, nat_tests) in rw z e

still_some : (t : Telling) (ts : List Telling) → 1 ≤ t.jobs → (ts ≡ []) ⊎ (1 ≤ jobs_told ts) → 1 ≤ jobs_told (t ∷ ts)
still_some t [] l any = l
still_some t (u ∷ ts) l (inl n) = cc
still_some t (u ∷ ts) l (inr h) = h

-- a place that is set
set_at : (bs : List Bool) (i j : ℕ) → j < length bs → slice_index_or (slice_set bs i true) j false ≡ ((i == j) || slice_index_or bs j false)
set_at [] i j l = absurd (omega arith)
set_at (b ∷ bs) zero zero l = refl
set_at (b ∷ bs) zero (suc j) l = let e : (zero == suc j) ≡ false = grind (arith, nat_tests) in rw e refl
set_at (b ∷ bs) (suc i) zero l = let e : (suc i == zero) ≡ false = grind (arith, nat_tests) in rw e refl
set_at (b ∷ bs) (suc i) (suc j) l =
    let m : j < length bs = omega arith in
    let e : (suc i == suc j) ≡ (i == j) = grind (arith, nat_tests) in
    rw e (set_at bs i j m)

same_length : (bs : List Bool) (i : ℕ) → length (slice_set bs i true) ≡ length bs
same_length [] i = refl
same_length (b ∷ bs) zero = refl
same_length (b ∷ bs) (suc i) = omega (arith, same_length bs i)

-- a test of the numbers below n is one of as many places
step : (a b c d : Bool) → b ≡ (c && d) → (a && b) ≡ ((a && c) && d)
step true b c d e = e
step false b c d e = refl

one : (b : Bool) → (b && true) ≡ (true && b)
one true = refl
one false = refl

and_last : {X : Type 0} (f : X → Bool) (xs : List X) (x : X) → list_all f (xs ++ x ∷ []) ≡ (list_all f xs && f x)
and_last f [] x = one (f x)
and_last f (y ∷ xs) x = step (f y) (list_all f (xs ++ x ∷ [])) (list_all f xs) (f x) (and_last f xs x)

all_places : (f : ℕ → Bool) (bs : List Bool) (n : ℕ) → n ≤ length bs → ((j : ℕ) → j < n → slice_index_or bs j false ≡ f j)
    → all_told n bs ≡ list_all f (numbers_below n)
all_places f bs zero l h = refl
all_places f bs (suc n) l h =
    let rest = all_places f bs n (omega arith) (λ j m. h j (omega arith)) in
    ap (list_all (λ b. b)) (take-suc bs n false (omega arith)) ∙ (and_last (λ b. b) (take n bs) (get_or bs n false)
    ∙ (ap (λ y. y && get_or bs n false) rest ∙ (ap (λ y. list_all f (numbers_below n) && y) (h n (omega arith)) ∙ sym (and_last f (numbers_below n) n))))

turn : (a b : Bool) → (a || b) ≡ (b || a)
turn true true = refl
turn true false = refl
turn false true = refl
turn false false = refl

or_none : (b : Bool) → b ≡ (b || false)
or_none true = refl
or_none false = refl

misfits : (t : Telling) (ts : List Telling) (misfit : Bool) → misfit ≡ has_misfit ts → (ts ≡ []) ⊎ (1 ≤ jobs_told ts)
    → (misfit || (t.misfit && nat_lt t.job (jobs_told (t ∷ ts)))) ≡ has_misfit (t ∷ ts)
misfits t [] misfit e any = rw e (or_none (t.misfit && nat_lt t.job t.jobs))
misfits t (u ∷ ts) misfit e any =
    let n = jobs_told (u ∷ ts) in
    ap (λ y. y || (t.misfit && nat_lt t.job n)) e ∙ turn (has_misfit (u ∷ ts)) (t.misfit && nat_lt t.job n)

ends : (s : RequestStatus) (t : Telling) (ts : List Telling) (all misfit : Bool) → s.outcome ≡ outcome_with all misfit → (all ≡ false → IsOpen s (t ∷ ts))
    → IsRequestKept s (if all then (if misfit then requests.Denied reasons.Misfit else requests.Served) else requests.Open (t ∷ ts))
ends s t ts true true e f = e
ends s t ts true false e f = e
ends s t ts false misfit e f = f refl

answers : (t : Telling) (s : RequestStatus) (ts : List Telling) → 1 ≤ t.jobs → t.jobs ≤ MAX_JOBS → length s.told ≡ MAX_JOBS → IsOpen s ts
    → IsRequestKept (with_answer t s) (when_one_tells t (requests.Open ts))
answers t s ts some few long w =
    let more = slice_set s.told t.job true in
    let m = jobs_with s.jobs t.jobs in
    let n = jobs_told (t ∷ ts) in
    let jobs : m ≡ n = told_jobs t ts s.jobs w.jobs w.any in
    let as_long : length more ≡ length s.told = same_length s.told t.job in
    let least : m ≤ MAX_JOBS = below (s.jobs == 0) t.jobs s.jobs few w.few in
    let fits : n ≤ length more = subst (λ k. k ≤ length more) jobs (omega arith) in
    let told_of : (job : ℕ) → job < length more → slice_index_or more job false ≡ tells_of (t ∷ ts) job =
    λ job l. set_at s.told t.job job (omega arith) ∙ ap (λ y. (t.job == job) || y) (w.told_of job (omega arith)) in
    let all : all_told m more ≡ tells_all (t ∷ ts) =
    ap (λ k. all_told k more) jobs ∙ all_places (tells_of (t ∷ ts)) more n fits (λ job l. told_of job (omega arith)) in
    let bad : (s.misfit || (t.misfit && nat_lt t.job m)) ≡ has_misfit (t ∷ ts) =
    ap (λ k. s.misfit || (t.misfit && nat_lt t.job k)) jobs ∙ misfits t ts s.misfit w.misfit w.any in
    let outcome : (with_answer t s).outcome ≡ outcome_with (tells_all (t ∷ ts)) (has_misfit (t ∷ ts)) =
    ap (λ y. outcome_with y (s.misfit || (t.misfit && nat_lt t.job m))) all ∙ ap (outcome_with (tells_all (t ∷ ts))) bad in
    ends (with_answer t s) t ts (tells_all (t ∷ ts)) (has_misfit (t ∷ ts)) outcome
    (λ e. record {
      open_yet = outcome ∙ ap (λ y. outcome_with y (has_misfit (t ∷ ts))) e;
      jobs = jobs;
      few = least;
      any = inr (still_some t ts some w.any);
      told_of = told_of;
      misfit = bad;
    })
  where
    below : (b : Bool) (x y : ℕ) → x ≤ MAX_JOBS → y ≤ MAX_JOBS → (if b then x else y) ≤ MAX_JOBS
    below true x y h k = h
    below false x y h k = k

pub tells : (t : Telling) (s : RequestStatus) (q : Request) → is_job_of t.job t.jobs ≡ true → length s.told ≡ MAX_JOBS → s.outcome ≡ outcomes.Open
    → IsRequestKept s q → IsRequestKept (with_answer t s) (when_one_tells t q)
tells t s (requests.Open ts) ranges long o k =
    let p = and_parts (is_jobs t.jobs) (nat_lt t.job t.jobs) ranges in
    let q = and_parts (nat_le 1 t.jobs) (nat_le t.jobs MAX_JOBS) p.0 in
    let a : nat_le 1 t.jobs ≡ true = q.0 in
    let b : nat_le t.jobs MAX_JOBS ≡ true = q.1 in
    answers t s ts (grind (arith, nat_tests)) (grind (arith, nat_tests)) long k
tells t s requests.Unasked ranges long o k = let e : outcomes.Open ≡ outcomes.None = sym o ∙ k in cc
tells t s requests.Served ranges long o k = let e : outcomes.Open ≡ outcomes.Good = sym o ∙ k in cc
tells t s (requests.Denied reason) ranges long o k = let e : outcomes.Open ≡ outcomes.Refused reason = sym o ∙ k in cc

-- where no place is set, none is
none_set : (bs : List Bool) → list_any (λ b. b) bs ≡ false → (j : ℕ) → slice_index_or bs j false ≡ false
none_set [] h j = refl
none_set (true ∷ bs) h j = cc
none_set (false ∷ bs) h zero = refl
none_set (false ∷ bs) h (suc j) = none_set bs h j

abbrev sixteen : List Bool
sixteen =
    false ∷ false ∷ false ∷ false ∷ false ∷ false ∷ false ∷ false ∷ false ∷ false ∷ false ∷ false ∷ false ∷ false ∷ false ∷ false ∷ []

pub unset : (j : ℕ) → slice_index_or sixteen j false ≡ false
unset j = none_set sixteen refl j

-- how what is kept of a request stands is how the request does
pub outcome_kept : (s : RequestStatus) (q : Request) → IsRequestKept s q → s.outcome ≡ request_outcome q
outcome_kept s (requests.Open ts) k = k.open_yet
outcome_kept s requests.Unasked k = k
outcome_kept s requests.Served k = k
outcome_kept s (requests.Denied reason) k = k
