-- What is kept of a run behind a mark.
use Rattle.std.proofs.Common.{◌≡◌, ◌≢◌, refl, sym, ap, ◌∙◌, ℕ, zero, suc, ◌+◌, ◌≤◌, arith, Bool, true}
use Rattle.std.proofs.Common.{false, ◌&&◌, ◌||◌, List, [], ◌∷◌, ◌++◌, length, Option, None, Some}
use Rattle.std.specs.Prelude.{if◌then◌else◌, not, set, slice_get, is_some}
use Rattle.std.specs.List.{list_all}
use Rattle.std.proofs.lemmas.Bool.{eq-eqb, ne_eqb}
use Rattle.std.proofs.lemmas.List.Folds.{list_all-append}
use Rattle.fc_base.specs.Counted.{has, numbers_below}
use Rattle.job_file.specs.declared.job.Job.{Job}
use Rattle.messages.specs.declared.refusal.Act.{Act}
use Rattle.messages.specs.declared.refusal.Act.TheVariants as acts
use Rattle.node.proofs.StepLemmas.{and_true}
use Rattle.server_core.specs.declared.job_run.JobRun.{JobRun}
use Rattle.server_core.specs.Request.{Request, ToMark}
use Rattle.server_core.specs.Run.{Work, Halt, Triggered, Stopped, halt_of, origin_of, history}
use Rattle.server_core.specs.Answers.{marks_by, marks, is_marked, is_cut_act, wants_cut, act_of}
use Rattle.server_core.specs.Kept.{Kept, end_kept, job_kept, jobs_kept, RunIs, act_of_end}
use Rattle.server_core.proofs.RowLemmas.{and_then, or_none, row_by, idle, job_here, one_row, same_job_run}
use Rattle.server_core.proofs.RunLemmas.{no_job}

-- ---- all jobs are marked

-- A test holds of n numbers from j on.
abbrev all_in : (ℕ → Bool) → ℕ → ℕ → Bool
all_in p j zero = true
all_in p j (suc n) = p j && all_in p (j + 1) n

and_more : (a b c : Bool) → (a && (b && c)) ≡ ((a && b) && c)
and_more true b c = refl
and_more false b c = refl

all_more : (p : ℕ → Bool) (j n : ℕ) → all_in p j (suc n) ≡ (all_in p j n && p (j + n))
all_more p j zero = let e : j + 0 ≡ j = omega arith in rw e (and_true (p j))
all_more p j (suc n) =
    ap (λ b. p j && b) (all_more p (j + 1) n ∙ ap (λ m. all_in p (j + 1) n && p m) next) ∙ and_more (p j) (all_in p (j + 1) n) (p (j + suc n))
  where
    next : j + 1 + n ≡ j + suc n
    next = omega arith

below_all : (p : ℕ → Bool) (n : ℕ) → list_all p (numbers_below n) ≡ all_in p 0 n
below_all p zero = refl
below_all p (suc n) =
    list_all-append p (numbers_below n) (n ∷ []) ∙ ap (λ b. list_all p (numbers_below n) && b) (and_true (p n)) ∙ ap (λ b. b && p n) (below_all p n)
    ∙ ap (λ m. all_in p 0 n && p m) at ∙ sym (all_more p 0 n)
  where
    at : n ≡ 0 + n
    at = omega arith

rows_marked : (w : Work) (j : ℕ) (jobs : List Job) → list_all (λ (k : JobRun). k.marked) (jobs_kept w j jobs)
    ≡ all_in (has (marks w.run w.since)) j (length jobs)
rows_marked w j [] = refl
rows_marked w j (job ∷ jobs) = ap (λ b. has (marks w.run w.since) j && b) (rows_marked w (j + 1) jobs)

pub marked_is : (kept : Kept) (w : Work) → RunIs kept w → list_all (λ (k : JobRun). k.marked) kept.kept ≡ is_marked w
marked_is kept w h =
    ap (λ (k : Kept). list_all (λ (k : JobRun). k.marked) k.kept) h.is ∙ rows_marked w 0 w.jobs ∙ sym (below_all (has (marks w.run w.since)) (length w.jobs))

pub marked_rows : (b : Bool) (items rows : List JobRun) → items ≡ rows → b ≡ list_all (λ (k : JobRun). k.marked) items
    → b ≡ list_all (λ (k : JobRun). k.marked) rows
marked_rows b items rows is e = e ∙ ap (λ ks. list_all (λ (k : JobRun). k.marked) ks) is

-- ---- a mark

-- The Trigger that has taken a run.
record TakenBy (b : Option Halt) (act : Act) : Type 0 where
  before : List Request
  is : b ≡ Some (Triggered act before)

taken_by : (b : Option Halt) (act : Act) → act_of_end (end_kept b) ≡ Some act → TakenBy b act
taken_by None act e = cc
taken_by (Some (Triggered a before)) act e = let same : a ≡ act = cc in record { before = before; is = ap (λ x. Some (Triggered x before)) same }
taken_by (Some Stopped) act e = cc

mark_in : (b : Option Halt) (run i : ℕ) → is_some (act_of_end (end_kept b)) ≡ true → marks_by b run (ToMark run i) ≡ i ∷ []
mark_in None run i e = cc
mark_in (Some (Triggered act before)) run i e = ap (λ t. if t then i ∷ [] else []) (eq-eqb run run refl)
mark_in (Some Stopped) run i e = cc

no_mark : (b : Option Halt) (run i : ℕ) → is_some (act_of_end (end_kept b)) ≡ false → marks_by b run (ToMark run i) ≡ []
no_mark None run i e = refl
no_mark (Some (Triggered act before)) run i e = cc
no_mark (Some Stopped) run i e = refl

here : (ms : List ℕ) (i : ℕ) → has (i ∷ ms) i ≡ true
here ms i = ap (λ b. b || has ms i) (eq-eqb i i refl)

other : (ms : List ℕ) (i j : ℕ) → j ≢ i → has (i ∷ ms) j ≡ has ms j
other ms i j ne = ap (λ b. b || has ms j) (ne_eqb i j (λ e. ne (sym e)))

pub mark_step : (kept : Kept) (w : Work) (i : ℕ) (old : JobRun) → RunIs kept w → is_some (act_of_end kept.end) ≡ true → slice_get kept.kept i ≡ Some old
    → RunIs (record kept { kept = set kept.kept i (record old { marked = true }) }) (and_then w (ToMark w.run i))
mark_step kept w i old h taken at =
    let p = job_here kept w i old h at in
    let mark = mark_in (halt_of w.run w.since) w.run i (ap (λ (k : Kept). is_some (act_of_end k.end)) (sym h.is) ∙ taken) in
    let x = ToMark w.run i in
    one_row kept w x i (record old { marked = true }) h (or_none (halt_of w.run w.since)) (λ j job ne. refl)
    (λ j ne. ap (λ ms. has (ms ++ marks w.run w.since) j) mark ∙ other (marks w.run w.since) i j ne)
    (λ job is. same_job_run _ _ _ _ _ _ _ _ (ap (λ (k : JobRun). k.engine) p.2) (ap (λ (k : JobRun). k.save) p.2) (ap (λ (k : JobRun). k.taken) p.2) refl
    ∙ sym (row_by w x i p.0 (halt_of w.run w.since) (history (origin_of w i p.0) w.since) true (or_none (halt_of w.run w.since)) refl
    (ap (λ ms. has (ms ++ marks w.run w.since) i) mark ∙ here (marks w.run w.since) i))
    ∙ ap (job_kept (and_then w x) i) (same_some p.0 job (sym p.1 ∙ is)))
  where
    same_some : (a b : Job) → Some a ≡ Some b → a ≡ b
    same_some a b e = cc

pub mark_past : (kept : Kept) (w : Work) (i : ℕ) → RunIs kept w → is_some (act_of_end kept.end) ≡ true → length kept.kept ≤ i
    → RunIs kept (and_then w (ToMark w.run i))
mark_past kept w i h taken past =
    let mark = mark_in (halt_of w.run w.since) w.run i (ap (λ (k : Kept). is_some (act_of_end k.end)) (sym h.is) ∙ taken) in
    idle kept w (ToMark w.run i) h (or_none (halt_of w.run w.since)) (λ j job is. refl)
    (λ j job is. ap (λ ms. has (ms ++ marks w.run w.since) j) mark ∙ other (marks w.run w.since) i j (apart j job (no_job kept w i h past) is))
  where
    apart : (j : ℕ) (job : Job) → slice_get w.jobs i ≡ None → slice_get w.jobs j ≡ Some job → j ≢ i
    apart j job none is e = let at : slice_get w.jobs i ≡ Some job = ap (slice_get w.jobs) (sym e) ∙ is in no (sym none ∙ at)
      where
        no : None ≡ Some job → ⊥
        no e = cc

pub mark_acts : (kept new : Kept) (w : Work) (i : ℕ) (act : Act) (before after : Bool) → RunIs kept w → RunIs new (and_then w (ToMark w.run i))
    → act_of_end kept.end ≡ Some act
    → before ≡ list_all (λ (k : JobRun). k.marked) kept.kept → after ≡ list_all (λ (k : JobRun). k.marked) new.kept
    → (if not before && after then act else acts.None) ≡ act_of (Some w) (ToMark w.run i)
mark_acts kept new w i act before after h k e b a =
    let t = taken_by (halt_of w.run w.since) act (ap (λ (x : Kept). act_of_end x.end) (sym h.is) ∙ e) in
    ap (λ x. if not x && after then act else acts.None) (b ∙ marked_is kept w h)
    ∙ ap (λ x. if not (is_marked w) && x then act else acts.None) (a ∙ marked_is new (and_then w (ToMark w.run i)) k)
    ∙ by_act act (not (is_marked w) && is_marked (and_then w (ToMark w.run i)))
    ∙ ap (λ x. if wants_cut x && (not (is_marked w) && is_marked (and_then w (ToMark w.run i))) then acts.Cut else acts.None) (sym t.is)
  where
    by_act : (x : Act) (c : Bool) → (if c then x else acts.None) ≡ (if is_cut_act x && c then acts.Cut else acts.None)
    by_act acts.None true = refl
    by_act acts.None false = refl
    by_act acts.Cut c = refl
