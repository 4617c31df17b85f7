-- What is kept of a run answers as the run does, and a request changes it as it changes the run.
use Rattle.std.proofs.Common.{◌≡◌, ◌≢◌, refl, sym, ap, subst, ◌∙◌, ℕ, ◌+◌, ◌≤◌, Bool, true, false}
use Rattle.std.proofs.Common.{◌&&◌, ◌||◌, ◌==◌, List, [], ◌∷◌, ◌++◌, length, Option, None, Some}
use Rattle.std.specs.Prelude.{if◌then◌else◌, nat_lt, set, slice_get, IsTrue}
use Rattle.std.specs.List.{list_all, list_any}
use Rattle.std.proofs.lemmas.Bool.{ne_eqb, eq-eqb}
use Rattle.fc_base.specs.JobParts.{is_within_limits}
use Rattle.server_core.specs.Answers.{marks_by, marks, issue_of_job}
use Rattle.server_core.specs.Laws.{HistoriesAreLegal}
use Rattle.server_core.proofs.RowLemmas.{and_then, or_none, idle, job_here, one_row, engine_row}
use Rattle.server_core.proofs.SetLemmas.{job_at}
use Rattle.server_core.proofs.NumberedLemmas.{length-numbered}
use Rattle.std.proofs.lemmas.Option.{slice_get_past}
use Rattle.fc_base.specs.Counted.{has}
use Rattle.job_file.specs.declared.job.Job.{Job}
use Rattle.engine.specs.History as window
use Rattle.engine.specs.declared.issue.Issue.{Issue}
use Rattle.engine.specs.declared.issue.Issue.TheVariants as issues
use Rattle.engine.specs.Legal.{IsLegal}
use Rattle.engine.specs.Running.{Origin, Running, running_of, StandsFor}
use Rattle.engine.specs.Answers.{answer_of, answer_to, after_answer, AddsAnswer, ended_of, has_ended}
use Rattle.server_core.specs.declared.job_run.JobRun.{JobRun}
use Rattle.server_core.specs.Request.{ToIssue}
use Rattle.server_core.specs.Run.{Work, Halt, Triggered, Stopped, with_issue, halt_of, is_halted, origin_of, origins_from, history, has_open, have_ended}
use Rattle.server_core.specs.Kept.{Kept, job_kept, jobs_kept, RunIs}

-- ---- what is kept of each job

any_open : (w : Work) (j : ℕ) (jobs : List Job) → list_any (λ (k : JobRun). nat_lt 0 (length k.engine.kept.open_writes)) (jobs_kept w j jobs)
    ≡ list_any (λ origin. nat_lt 0 (length (window.open_writes (history origin w.since)))) (origins_from w j jobs)
any_open w j [] = refl
any_open w j (job ∷ jobs) = ap (λ b. nat_lt 0 (length (window.open_writes (history (origin_of w j job) w.since))) || b) (any_open w (j + 1) jobs)

all_ended : (w : Work) (j : ℕ) (jobs : List Job) → list_all (λ (k : JobRun). ended_of k.engine) (jobs_kept w j jobs)
    ≡ list_all (λ origin. has_ended origin (is_halted w) (history origin w.since)) (origins_from w j jobs)
all_ended w j [] = refl
all_ended w j (job ∷ jobs) = ap (λ b. has_ended (origin_of w j job) (is_halted w) (history (origin_of w j job) w.since) && b) (all_ended w (j + 1) jobs)

pub open_is : (kept : Kept) (w : Work) (jobs : List JobRun) (b : Bool) → RunIs kept w → jobs ≡ kept.kept
    → b ≡ list_any (λ (k : JobRun). nat_lt 0 (length k.engine.kept.open_writes)) jobs → b ≡ has_open w
unfolding has_open
open_is kept w jobs b h is e =
    e ∙ ap (λ ks. list_any (λ (k : JobRun). nat_lt 0 (length k.engine.kept.open_writes)) ks) (is ∙ ap (λ (k : Kept). k.kept) h.is) ∙ any_open w 0 w.jobs

pub ended_is : (kept : Kept) (w : Work) (jobs : List JobRun) (b : Bool) → RunIs kept w → jobs ≡ kept.kept
    → b ≡ list_all (λ (k : JobRun). ended_of k.engine) jobs → b ≡ have_ended w
unfolding have_ended
ended_is kept w jobs b h is e =
    e ∙ ap (λ ks. list_all (λ (k : JobRun). ended_of k.engine) ks) (is ∙ ap (λ (k : Kept). k.kept) h.is) ∙ all_ended w 0 w.jobs

-- ---- a write is issued

answer_added : (origin : Origin) (stopped : Bool) (h : List window.Event) (old new : Running) (answer : Issue) → old ≡ running_of origin stopped h
    → StandsFor old h
    → new ≡ after_answer old answer → AddsAnswer old new answer → new ≡ running_of origin stopped (with_issue answer h)
answer_added origin stopped h old new (issues.Write ticket) is s left added =
    (added h s).running_is ∙ ap (λ (r : Running). running_of r.origin r.stopped (window.issue ticket.seq ∷ h)) left
    ∙ ap (λ (r : Running). running_of r.origin r.stopped (window.issue ticket.seq ∷ h)) is
answer_added origin stopped h old new issues.Full is s left added = left ∙ is
answer_added origin stopped h old new issues.Held is s left added = left ∙ is
answer_added origin stopped h old new issues.Overlap is s left added = left ∙ is
answer_added origin stopped h old new issues.Finished is s left added = left ∙ is
answer_added origin stopped h old new issues.Stopped is s left added = left ∙ is

pub stands : (origin : Origin) (stopped : Bool) (h : List window.Event) (old : Running) → old ≡ running_of origin stopped h → IsLegal origin.job h
    → StandsFor old h
stands origin stopped h old is legal = subst (λ r. StandsFor r h) (sym is) (record { legal = legal; running_is = refl })

pub no_marks : (b : Option Halt) (run i : ℕ) → marks_by b run (ToIssue i) ≡ []
no_marks (Some (Triggered act before)) run i = refl
no_marks (Some Stopped) run i = refl
no_marks None run i = refl

not_other : (i j : ℕ) → j ≢ i → (i == j) ≡ false
not_other i j ne = ne_eqb i j (λ e. ne (sym e))

if_false : {A : Type 0} {t : Bool} (a b : A) → t ≡ false → (if t then a else b) ≡ b
if_false a b e = rw e refl

if_true : {A : Type 0} {t : Bool} (a b : A) → t ≡ true → (if t then a else b) ≡ a
if_true a b e = rw e refl

pub within : (w : Work) (kept : Kept) (i : ℕ) (job : Job) → RunIs kept w → slice_get w.jobs i ≡ Some job → IsTrue (is_within_limits job.rec)
within w kept i job h is = job_at (λ j. IsTrue (is_within_limits j.rec)) w.jobs i job h.jobs.within.within is

unmarked : (w : Work) (i j : ℕ) → has (marks w.run (ToIssue i ∷ w.since)) j ≡ has (marks w.run w.since) j
unmarked w i j = ap (λ ms. has (ms ++ marks w.run w.since) j) (no_marks (halt_of w.run w.since) w.run i)

unasked : (w : Work) (i j : ℕ) (job : Job) → j ≢ i → history (origin_of w j job) (ToIssue i ∷ w.since) ≡ history (origin_of w j job) w.since
unasked w i j job ne =
    let h = history (origin_of w j job) w.since in if_false (with_issue (answer_to (origin_of w j job) (is_halted w) h) h) h (not_other i j ne)

pub issue_step : HistoriesAreLegal → (kept : Kept) (w : Work) (i : ℕ) (old : JobRun) (new : Running) (answer : Issue) → RunIs kept w
    → slice_get kept.kept i ≡ Some old
    → answer ≡ answer_of old.engine → new ≡ after_answer old.engine answer → AddsAnswer old.engine new answer
    → (answer ≡ issue_of_job w i (slice_get w.jobs i)) × RunIs (record kept { kept = set kept.kept i (record old { engine = new }) }) (and_then w (ToIssue i))
issue_step legal kept w i old new answer h at e left added =
    let p = job_here kept w i old h at in
    let job = p.0 in
    let origin = origin_of w i job in
    let past = history origin w.since in
    let engine : old.engine ≡ running_of origin (is_halted w) past = ap (λ (k : JobRun). k.engine) p.2 in
    let told : answer ≡ answer_to origin (is_halted w) past = e ∙ ap answer_of engine in
    let good = stands origin (is_halted w) past old.engine engine (legal origin w.since (within w kept i job h p.1)) in
    let now = answer_added origin (is_halted w) past old.engine new answer engine good left added in
    let asked : history origin (ToIssue i ∷ w.since) ≡ with_issue answer past =
    if_true (with_issue (answer_to origin (is_halted w) past) past) past (eq-eqb i i refl) ∙ ap (λ a. with_issue a past) (sym told) in
    let here : (other : Job) → job ≡ other → record old { engine = new } ≡ job_kept (and_then w (ToIssue i)) i other =
    λ other same. engine_row w (ToIssue i) i job old new (with_issue answer past) p.2 now (or_none (halt_of w.run w.since)) asked (unmarked w i i)
    ∙ ap (job_kept (and_then w (ToIssue i)) i) same in (
      told ∙ sym (ap (issue_of_job w i) p.1),
      one_row kept w (ToIssue i) i (record old { engine = new }) h (or_none (halt_of w.run w.since))
          (λ j other ne. unasked w i j other ne)
          (λ j ne. unmarked w i j)
          (λ other has_it. here other (same_some job other (sym p.1 ∙ has_it))),
    )
  where
    same_some : (a b : Job) → Some a ≡ Some b → a ≡ b
    same_some a b e = cc

pub no_job : (kept : Kept) (w : Work) (i : ℕ) → RunIs kept w → length kept.kept ≤ i → slice_get w.jobs i ≡ None
no_job kept w i h past = slice_get_past w.jobs i (subst (λ n. n ≤ i) (ap (λ (k : Kept). length k.kept) h.is ∙ length-numbered (job_kept w) 0 w.jobs) past)

pub no_issue : (kept : Kept) (w : Work) (i : ℕ) → RunIs kept w → length kept.kept ≤ i
    → (issues.Stopped ≡ issue_of_job w i (slice_get w.jobs i)) × RunIs kept (and_then w (ToIssue i))
no_issue kept w i h past =
    let none = no_job kept w i h past in (
      sym (ap (issue_of_job w i) none),
      idle kept w (ToIssue i) h (or_none (halt_of w.run w.since)) (λ j job is. unasked w i j job (other j job none is)) (λ j job is. unmarked w i j),
    )
  where
    other : (j : ℕ) (job : Job) → slice_get w.jobs i ≡ None → slice_get w.jobs j ≡ Some job → j ≢ i
    other j job none is e = let here : slice_get w.jobs i ≡ Some job = ap (slice_get w.jobs) (sym e) ∙ is in no (sym none ∙ here)
      where
        no : None ≡ Some job → ⊥
        no e = cc
