-- The copies of sections, one after the other.
use Rattle.std.proofs.lemmas.List.Sums.{sum_by-drop_more}
use Rattle.std.proofs.Common.{◌≡◌, ℕ, suc, ◌+◌, ◌-◌, ◌<◌, ◌≤◌, List, [], ◌∷◌, ◌++◌, length, get_or, drop}
use Rattle.std.proofs.Common.{replicate, ◌⊎◌, Some, slice_get, append_assoc, append-nil, sym, ◌∙◌, ap, arith}
use Rattle.std.proofs.lemmas.List.{drop_more, length-replicate, length_push}
use Rattle.job_file.specs.declared.fault.JobFault.{JobFault}
use Rattle.job_file.specs.declared.fault.JobFault.TheVariants.{NoMemory}
use Rattle.job_file.specs.declared.draft.Draft.{Draft}
use Rattle.job_file.specs.declared.job.Job.{Job}
use Rattle.job_file.specs.Draft.{copies_of, count_of, with_copies, job_of, draft_faults, jobs_from, faults_from}
use Rattle.job_file.proofs.Layers.{told_in_front, nothing_in_front}

replicate_suc : (k m : ℕ) (d : Draft) → k ≡ suc m → replicate k d ≡ d ∷ replicate m d
replicate_suc k m d is = ap (λ n. replicate n d) is

-- One copy of those that are left, and the others.
replicate_left : (n i : ℕ) (d : Draft) → i < n → replicate (n - i) d ≡ d ∷ replicate (n - (i + 1)) d
replicate_left n i d more = replicate_suc (n - i) (n - (i + 1)) d (omega arith)

replicate_none : (n i : ℕ) (d : Draft) → n ≤ i → replicate (n - i) d ≡ []
replicate_none n i d none = ap (λ k. replicate k d) (let zero_left : n - i ≡ 0 = omega arith in zero_left)

faults_from-append : (m : ℕ) (xs ys : List Draft) → faults_from m (xs ++ ys) ≡ faults_from m xs ++ faults_from (m + length xs) ys
faults_from-append m [] ys = ap (λ k. faults_from k ys) (let same : m ≡ m + 0 = omega arith in same)
faults_from-append m (x ∷ xs) ys =
    ap (λ rest. draft_faults m x ++ rest) (faults_from-append (m + 1) xs ys
    ∙ ap (λ k. faults_from (m + 1) xs ++ faults_from k ys) (let same : m + 1 + length xs ≡ m + suc (length xs) = omega arith in same))
    ∙ sym (append_assoc (draft_faults m x) (faults_from (m + 1) xs) (faults_from (m + suc (length xs)) ys))

jobs_from-append : (m : ℕ) (xs ys : List Draft) → jobs_from m (xs ++ ys) ≡ jobs_from m xs ++ jobs_from (m + length xs) ys
jobs_from-append m [] ys = ap (λ k. jobs_from k ys) (let same : m ≡ m + 0 = omega arith in same)
jobs_from-append m (x ∷ xs) ys =
    ap (λ rest. job_of m x ∷ rest) (jobs_from-append (m + 1) xs ys
    ∙ ap (λ k. jobs_from (m + 1) xs ++ jobs_from k ys) (let same : m + 1 + length xs ≡ m + suc (length xs) = omega arith in same))

-- The copies of the section of a number, and those of the sections behind it.
with_copies-drop : (ds : List Draft) (i : ℕ) (d : Draft) → i < length ds → d ≡ get_or ds i d
    → with_copies (drop i ds) ≡ replicate (copies_of d) d ++ with_copies (drop (i + 1) ds)
with_copies-drop ds i d more is =
    ap with_copies (drop_more ds i d more) ∙ ap (λ e. replicate (copies_of e) e ++ with_copies (drop (i + 1) ds)) (sym is)

faults_left : (m : ℕ) (ds : List Draft) (i : ℕ) (d : Draft) → i < length ds → d ≡ get_or ds i d
    → faults_from m (with_copies (drop i ds)) ≡ faults_from m (replicate (copies_of d) d) ++ faults_from (m + copies_of d) (with_copies (drop (i + 1) ds))
faults_left m ds i d more is =
    ap (faults_from m) (with_copies-drop ds i d more is) ∙ faults_from-append m (replicate (copies_of d) d) (with_copies (drop (i + 1) ds))
    ∙ ap (λ k. faults_from m (replicate (copies_of d) d) ++ faults_from (m + k) (with_copies (drop (i + 1) ds))) (length-replicate (copies_of d) d)

jobs_left : (m : ℕ) (ds : List Draft) (i : ℕ) (d : Draft) → i < length ds → d ≡ get_or ds i d
    → jobs_from m (with_copies (drop i ds)) ≡ jobs_from m (replicate (copies_of d) d) ++ jobs_from (m + copies_of d) (with_copies (drop (i + 1) ds))
jobs_left m ds i d more is =
    ap (jobs_from m) (with_copies-drop ds i d more is) ∙ jobs_from-append m (replicate (copies_of d) d) (with_copies (drop (i + 1) ds))
    ∙ ap (λ k. jobs_from m (replicate (copies_of d) d) ++ jobs_from (m + k) (with_copies (drop (i + 1) ds))) (length-replicate (copies_of d) d)

-- Of n copies of a section i are made, behind the jobs that were there first.
pub record CopiesSoFar (first : List Job) (n i : ℕ) (d : Draft) (js : List Job) : Type 0 where
  pub count : length js ≡ length first + i
  pub faults : faults_from (length js) (replicate (n - i) d) ≡ faults_from (length first) (replicate n d)
  pub jobs : js ++ jobs_from (length js) (replicate (n - i) d) ≡ first ++ jobs_from (length first) (replicate n d)

-- One more copy, which has no fault.
pub copy_made : (first : List Job) (n i number : ℕ) (d : Draft) (js more : List Job) (job : Job) → i < n → CopiesSoFar first n i d js → number ≡ length js
    → draft_faults number d ≡ [] → job ≡ job_of number d → more ≡ js ++ job ∷ [] → CopiesSoFar first n (i + 1) d more
copy_made first n i number d js more job left so_far numbered none is added =
    let len : length more ≡ length js + 1 = ap length added ∙ length_push js job in
    let faults_here : draft_faults (length js) d ≡ [] = ap (λ k. draft_faults k d) (sym numbered) ∙ none in
    let faults_now = sym (ap (faults_from (length js)) (replicate_left n i d left)) ∙ so_far.faults in
    let job_here : job ≡ job_of (length js) d = is ∙ ap (λ k. job_of k d) numbered in
    let rest = replicate (n - (i + 1)) d in
    let jobs_now : js ++ (job_of (length js) d ∷ jobs_from (length js + 1) rest) ≡ first ++ jobs_from (length first) (replicate n d) =
    sym (ap (λ ds. js ++ jobs_from (length js) ds) (replicate_left n i d left)) ∙ so_far.jobs in
    record {
      count = omega (arith, so_far.count);
      faults = ap (λ k. faults_from k rest) len ∙ nothing_in_front (draft_faults (length js) d) (faults_from (length js + 1) rest) _ faults_now faults_here;
      jobs = ap (λ k. more ++ jobs_from k rest) len ∙ ap (λ front. front ++ jobs_from (length js + 1) rest) added
          ∙ append_assoc js (job ∷ []) (jobs_from (length js + 1) rest) ∙ ap (λ j. js ++ (j ∷ jobs_from (length js + 1) rest)) job_here ∙ jobs_now;
    }

-- A copy that has a fault has the first of all copies.
pub copy_told : (f : JobFault) (first : List Job) (n i number : ℕ) (d : Draft) (js : List Job) → i < n → CopiesSoFar first n i d js → number ≡ length js
    → (f ≡ NoMemory) ⊎ (slice_get (draft_faults number d) 0 ≡ Some f) → (f ≡ NoMemory) ⊎ (slice_get (faults_from (length first) (replicate n d)) 0 ≡ Some f)
copy_told f first n i number d js left so_far numbered told =
    let rest = replicate (n - (i + 1)) d in
    told_in_front f (draft_faults number d) (faults_from (length js + 1) rest) (faults_from (length first) (replicate n d))
    (ap (λ k. draft_faults k d ++ faults_from (length js + 1) rest) numbered ∙ sym (ap (faults_from (length js)) (replicate_left n i d left)) ∙ so_far.faults)
    told

-- After the last copy there was no fault, and the copies are there.
pub copies_made : (first : List Job) (n i : ℕ) (d : Draft) (js : List Job) → n ≤ i → CopiesSoFar first n i d js
    → (faults_from (length first) (replicate n d) ≡ []) × (js ≡ first ++ jobs_from (length first) (replicate n d))
copies_made first n i d js done so_far = (
  sym so_far.faults ∙ ap (faults_from (length js)) (replicate_none n i d done),
  sym (append-nil js) ∙ sym (ap (λ ds. js ++ jobs_from (length js) ds) (replicate_none n i d done)) ∙ so_far.jobs,
)

-- The jobs of the first i sections are made.
pub record JobsSoFar (ds : List Draft) (i : ℕ) (js : List Job) : Type 0 where
  pub faults : faults_from (length js) (with_copies (drop i ds)) ≡ faults_from 0 (with_copies ds)
  pub jobs : js ++ jobs_from (length js) (with_copies (drop i ds)) ≡ jobs_from 0 (with_copies ds)
  pub count : length js + count_of (drop i ds) ≡ count_of ds

-- The jobs of one more section, which have no fault.
pub section_made : (ds : List Draft) (i : ℕ) (d : Draft) (js more : List Job) → i < length ds → d ≡ get_or ds i d → JobsSoFar ds i js
    → faults_from (length js) (replicate (copies_of d) d) ≡ [] → more ≡ js ++ jobs_from (length js) (replicate (copies_of d) d)
    → length more ≡ length js + copies_of d → JobsSoFar ds (i + 1) more
section_made ds i d js more left is so_far none added len =
    let rest = with_copies (drop (i + 1) ds) in
    let here = jobs_from (length js) (replicate (copies_of d) d) in
    let copies : count_of (drop i ds) ≡ copies_of d + count_of (drop (i + 1) ds) =
    sum_by-drop_more copies_of ds i d left ∙ ap (λ e. copies_of e + count_of (drop (i + 1) ds)) (sym is) in
    record {
      faults = ap (λ k. faults_from k rest) len ∙ nothing_in_front (faults_from (length js) (replicate (copies_of d) d))
          (faults_from (length js + copies_of d) rest) _ (sym (faults_left (length js) ds i d left is) ∙ so_far.faults) none;
      jobs = ap (λ k. more ++ jobs_from k rest) len ∙ ap (λ front. front ++ jobs_from (length js + copies_of d) rest) added
          ∙ append_assoc js here (jobs_from (length js + copies_of d) rest) ∙ sym (ap (λ all. js ++ all) (jobs_left (length js) ds i d left is)) ∙ so_far.jobs;
      count = omega (arith, so_far.count, copies, len);
    }

-- A section that has a fault has the first of all sections.
pub section_told : (f : JobFault) (ds : List Draft) (i : ℕ) (d : Draft) (js : List Job) → i < length ds → d ≡ get_or ds i d → JobsSoFar ds i js
    → (f ≡ NoMemory) ⊎ (slice_get (faults_from (length js) (replicate (copies_of d) d)) 0 ≡ Some f)
    → (f ≡ NoMemory) ⊎ (slice_get (faults_from 0 (with_copies ds)) 0 ≡ Some f)
section_told f ds i d js left is so_far told =
    told_in_front f (faults_from (length js) (replicate (copies_of d) d)) (faults_from (length js + copies_of d) (with_copies (drop (i + 1) ds)))
    (faults_from 0 (with_copies ds)) (sym (faults_left (length js) ds i d left is) ∙ so_far.faults) told
