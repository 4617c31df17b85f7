-- What asking for writes leaves to be asked for.
use Rattle.std.proofs.Common.{◌≡◌, ◌<◌, ◌≤◌, ◌+◌, ◌==◌, ◌&&◌, ◌||◌, ℕ, Bool, true, false, List, [], ◌∷◌, length-append, Option, None, Some, Result, refl, sym, ap, ◌∙◌, subst, true≢false, inl, inr, arith}
use Rattle.std.specs.Prelude.{if◌then◌else◌, is_some, nat_le, slice_get}
use Rattle.std.specs.Option.{option_or}
use Rattle.std.proofs.lemmas.Bool.{eq-eqb, leb-false}
use Rattle.fc_base.specs.declared.fault.Fault.{Fault}
use Rattle.fc_base.specs.declared.fault.Fault.TheVariants.{Down}
use Rattle.fc_base.specs.declared.limits.TheConstants.{MAX_WRITES}
use Rattle.fc_base.specs.declared.report.ReportParts.{ReportParts}
use Rattle.disk_model.specs.declared.save_outcome.SaveOutcome.TheVariants.{NoSave}
use Rattle.node.specs.Steps.{unless_refused}
use Rattle.engine.specs.History as window
use Rattle.engine.specs.History.{issued, issues}
use Rattle.engine.specs.declared.issue.Ticket.{Ticket}
use Rattle.engine.specs.declared.issue.Issue.{Issue as Answer}
use Rattle.engine.specs.declared.issue.Issue.TheVariants as answers
use Rattle.engine.specs.Answers.{answer_by, answer_to, is_write}
use Rattle.engine.specs.Legal.{has_failed}
use Rattle.engine.specs.Running.{Origin}
use Rattle.job_file.specs.declared.job.Job.{Job}
use Rattle.server_core.specs.declared.input.Input.TheVariants.{Issue, CheckDone}
use Rattle.server_core.specs.History.{Opening}
use Rattle.server_core.specs.Hearing.{FrameEntry, Met, packets_heard}
use Rattle.server_core.specs.Request.{Request, ToIssue, ToReport}
use Rattle.server_core.specs.Run.{Work, Halt, goes_on, halt_by, halt_of, history, is_halted, origin_of, with_issue, with_request}
use Rattle.server_core.specs.Words.{is_on, work}
use Rattle.server_core.specs.Answers.{issue_of, issue_of_job, job_of_run, run_job, shown_entries}
use Rattle.server_core.specs.FrameAnswers.{issue, refusal}
use Rattle.server_core.specs.Laws.{LooksAtAll, gives_write}
use Rattle.filters.specs.Lives.{Lives}
use Rattle.filters.specs.ServerOrders.{GivesNone}
use Rattle.filters.specs.UnderWay.{UnderWay}
use Rattle.filters.specs.ServerAt.{ServerAt, at_by, with_check}
use Rattle.filters.specs.ServerTurns.{Turn, Asks, Begins, GoesOn, TakesTurn, TellsBy, TellsReport, Turns}
use Rattle.filters.specs.ServerRuns.{Asked, issued_by, issued_of_job}

-- What job j answers, by whether the server is on and by its run.
abbrev pub answer_in : Bool → Option Work → ℕ → Option Answer
answer_in on w j = unless_refused (if on then None else Some Down) (Some (issue_of j w))

or_none : (h : Option Halt) → is_some (option_or h None) ≡ is_some h
or_none None = refl
or_none (Some h) = refl

-- Of a run that was asked something, where that neither ends it nor adds to the history of a job which gives no write.
module _ (x : Request) (halts : (run : ℕ) (since : List Request) → halt_by run x since ≡ None)
    (stays : (origin : Origin) (stopped : Bool) (h : List window.Event) → is_write (answer_to origin stopped h) ≡ false
    → with_request origin stopped x h ≡ h) where
  job_keeps : (w : Work) (j : ℕ) (job : Option Job) → is_write (issue_of_job w j job) ≡ false
      → is_write (issue_of_job (record w { since = x ∷ w.since }) j job) ≡ false
  job_keeps w j None none = refl
  job_keeps w j (Some job) none =
      let stopped : is_halted (record w { since = x ∷ w.since }) ≡ is_halted w =
      ap (λ (b : Option Halt). is_some (option_or (halt_of w.run w.since) b)) (halts w.run w.since) ∙ or_none (halt_of w.run w.since) in
      ap (λ (s : Bool). is_write (answer_to (origin_of w j job) s (with_request (origin_of w j job) (is_halted w) x (history (origin_of w j job) w.since)))) stopped
      ∙ (ap (λ (l : List window.Event). is_write (answer_to (origin_of w j job) (is_halted w) l))
      (stays (origin_of w j job) (is_halted w) (history (origin_of w j job) w.since) none)
      ∙ none)

  run_keeps : (w : Option Work) (j : ℕ) → is_write (issue_of j w) ≡ false → is_write (issue_of j (goes_on x w)) ≡ false
  run_keeps None j none = none
  run_keeps (Some w) j none = job_keeps w j (slice_get w.jobs j) none

  keeps : (on : Bool) (w : Option Work) (j : ℕ) → gives_write (answer_in on w j) ≡ false → gives_write (answer_in (on && true) (goes_on x w) j) ≡ false
  keeps false w j none = refl
  keeps true w j none = run_keeps w j none

unless_write : (b : Bool) (a : Answer) (h : List window.Event) → is_write a ≡ false → (if b then with_issue a h else h) ≡ h
unless_write false a h none = refl
unless_write true (answers.Write t) h none = absurd (true≢false none)
unless_write true _ h none = refl

-- Behind a request for a write of any job.
ask_keeps : (o : Opening) (past : List FrameEntry) (k j : ℕ) → GivesNone o past j → GivesNone o (Met (Issue k) NoSave ∷ past) j
ask_keeps o past k j none =
    keeps (ToIssue k) (λ run since. refl) (λ origin stopped h is. unless_write (k == origin.key.job) (answer_to origin stopped h) h is)
    (is_on (packets_heard o past)) (work o (packets_heard o past)) j none

ask_list : (why : Option Fault) (o : Opening) (at : ServerAt) (k : ℕ) → (at_by why o at (Issue k)).list ≡ Met (Issue k) NoSave ∷ at.list
ask_list None o at k = refl
ask_list (Some fault) o at k = refl

pub asked_keeps : (why : Option Fault) (o : Opening) (at : ServerAt) (k j : ℕ) → GivesNone o at.list j → GivesNone o (at_by why o at (Issue k)).list j
asked_keeps why o at k j none = subst (λ (l : List FrameEntry). GivesNone o l j) (sym (ask_list why o at k)) (ask_keeps o at.list k j none)

-- Behind the report of a check.
told_keeps : (o : Opening) (past : List FrameEntry) (b a i : ℕ) (r : ReportParts) (j : ℕ) → GivesNone o past j
    → GivesNone o (Met (CheckDone b a i r) NoSave ∷ past) j
told_keeps o past b a i r j none =
    keeps (ToReport b a i r) (λ run since. refl) (λ origin stopped h is. refl) (is_on (packets_heard o past)) (work o (packets_heard o past)) j none

told_list : (why : Option Fault) (o : Opening) (at : ServerAt) (b a i : ℕ) (r : ReportParts)
    → (at_by why o at (CheckDone b a i r)).list ≡ Met (CheckDone b a i r) NoSave ∷ at.list
told_list None o at b a i r = refl
told_list (Some fault) o at b a i r = refl

pub reported_keeps : (why : Option Fault) (o : Opening) (at : ServerAt) (b a i : ℕ) (r : ReportParts) (j : ℕ) → GivesNone o at.list j
    → GivesNone o (at_by why o at (CheckDone b a i r)).list j
reported_keeps why o at b a i r j none =
    subst (λ (l : List FrameEntry). GivesNone o l j) (sym (told_list why o at b a i r)) (told_keeps o at.list b a i r j none)

tells_keeps : (why : Option Fault) (o : Opening) (at : ServerAt) (b a i : ℕ) (r : ReportParts) (end : Result (Unit {0}) Fault) (now : ServerAt) (answer : List ℕ)
    (j : ℕ) → TellsBy why o at (CheckDone b a i r) end now answer → GivesNone o at.list j → GivesNone o now.list j
tells_keeps None o at b a i r end now answer j (ends, (is, said)) none =
    subst (λ (s : ServerAt). GivesNone o s.list j) (sym is) (reported_keeps None o at b a i r j none)
tells_keeps (Some fault) o at b a i r end now answer j (ends, (is, said)) none =
    subst (λ (s : ServerAt). GivesNone o s.list j) (sym is) (reported_keeps (Some fault) o at b a i r j none)

report_keeps : (o : Opening) (at : ServerAt) (i : ℕ) (u : UnderWay) (r : ReportParts) (end : Result (Unit {0}) Fault) (now : ServerAt) (answer : List ℕ) (j : ℕ)
    → TellsReport o at i u r end now answer → GivesNone o at.list j → GivesNone o now.list j
report_keeps o at i u r end now answer j (fits, inl tells) none =
    tells_keeps (refusal o at.list (CheckDone u.boot u.attempt i r)) o (with_check i None at) u.boot u.attempt i r end now answer j tells none
report_keeps o at i u r end now answer j (fits, inr (fault, memory, ends, (is, said))) none = subst (λ (s : ServerAt). GivesNone o s.list j) (sym is) none

goes_keeps : (o : Opening) (at : ServerAt) (i : ℕ) (u : UnderWay) (end : Result (Unit {0}) Fault) (now : ServerAt) (answer : List ℕ) (j : ℕ)
    → GoesOn o at i u end now answer → GivesNone o at.list j → GivesNone o now.list j
goes_keeps o at i u end now answer j (inl (first, count, wants, ends, (is, said))) none = subst (λ (s : ServerAt). GivesNone o s.list j) (sym is) none
goes_keeps o at i u end now answer j (inr (r, over, tells)) none = report_keeps o at i u r end now answer j tells none

turn_keeps : (o : Opening) (at : ServerAt) (turn : Turn) (now : ServerAt) (answer : List ℕ) (j : ℕ) → TakesTurn o at turn now answer
    → GivesNone o at.list j → GivesNone o now.list j
turn_keeps o at (Asks k) now answer j (is, said) none =
    subst (λ (s : ServerAt). GivesNone o s.list j) (sym is) (asked_keeps (refusal o at.list (Issue k)) o at k j none)
turn_keeps o at (Begins i) now answer j begins none = goes_keeps o at i begins.check begins.end now answer j begins.goes none

-- What would give no write gives none behind any turns.
pub turns_keep : (o : Opening) (first now : ServerAt) (written : List ℕ) (j : ℕ) → Turns o first now written → GivesNone o first.list j
    → GivesNone o now.list j
turns_keep o first now written j (turns, lived) none = by turns now written lived
  where
    by : (ts : List Turn) (end : ServerAt) (told : List ℕ) → Lives (TakesTurn o) first ts end told → GivesNone o end.list j
    by [] end told (is, nothing) = subst (λ (s : ServerAt). GivesNone o s.list j) (sym is) none
    by (t ∷ ts) end told more = turn_keeps o more.before t end more.answer j more.takes (by ts more.before more.earlier more.lived)

-- ---- how many writes were given

not_first : (b : Bool) (x y : Answer) (t : Ticket) → is_write x ≡ false → (if b then x else y) ≡ answers.Write t → (b ≡ false) × (y ≡ answers.Write t)
not_first true x y t none is = absurd (true≢false (sym (ap is_write is) ∙ none))
not_first false x y t none is = (refl, is)

-- A write that is given is below the job's total.
is_below : (origin : Origin) (stopped failed : Bool) (next : ℕ) (writes : List ℕ) (t : Ticket)
    → answer_by origin stopped failed next writes ≡ answers.Write t → next < origin.job.total
is_below origin stopped failed next writes t is =
    let open_to = not_first (stopped || failed) answers.Stopped _ t refl is in
    let left = not_first (nat_le origin.job.total next) answers.Finished _ t refl open_to.1 in
    leb-false origin.job.total next left.0

one_issued : (b : Bool) (a : Answer) (h : List window.Event) (t : Ticket) → b ≡ true → a ≡ answers.Write t
    → issued (if b then with_issue a h else h) ≡ issued h + 1
one_issued false a h t hit is = absurd (true≢false (sym hit))
one_issued true a h t hit is =
    ap (λ (x : Answer). issued (with_issue x h)) is ∙ length-append (issues h) (t.seq ∷ [])

job_gives : (w : Work) (j : ℕ) (found : Option Job) (job : Job) (t : Ticket) → found ≡ Some job → issue_of_job w j found ≡ answers.Write t
    → (issued_of_job (record w { since = ToIssue j ∷ w.since }) j found ≡ issued_of_job w j found + 1) × (issued_of_job w j found < job.rec.total)
job_gives w j None job t there is = absurd cc
job_gives w j (Some one) job t there is =
    let same : one ≡ job = cc in
    let origin = origin_of w j one in
    let h = history (origin_of w j one) w.since in (
      one_issued (j == j) (answer_to (origin_of w j one) (is_halted w) (history (origin_of w j one) w.since)) (history (origin_of w j one) w.since) t
          (eq-eqb j j refl) is,
      subst (λ (x : Job). issued (history (origin_of w j one) w.since) < x.rec.total) same (is_below (origin_of w j one) (is_halted w) (has_failed (history (origin_of w j one) w.since))
          (issued (history (origin_of w j one) w.since)) (window.in_flight (history (origin_of w j one) w.since)) t is),
    )

run_gives : (w : Option Work) (j : ℕ) (job : Job) (t : Ticket) → job_of_run w j ≡ Some job → issue_of j w ≡ answers.Write t
    → (issued_by (goes_on (ToIssue j) w) j ≡ issued_by w j + 1) × (issued_by w j < job.rec.total)
run_gives None j job t there is = absurd cc
run_gives (Some w) j job t there is = job_gives w j (slice_get w.jobs j) job t there is

-- ---- what a job answers

is_free : (b : Bool) (free : Option Fault) → free ≡ None → (if b then free else Some Down) ≡ free → b ≡ true
is_free true free empty is = refl
is_free false free empty is = absurd cc

gives_none : (on : Bool) (w : Option Work) (j : ℕ) → (on ≡ true → is_write (issue_of j w) ≡ false) → gives_write (answer_in on w j) ≡ false
gives_none false w j none = refl
gives_none true w j none = none refl

no_write : (w : Work) (j : ℕ) (found : Option Job) → found ≡ None → is_write (issue_of_job w j found) ≡ false
no_write w j None is = refl
no_write w j (Some job) is = absurd cc

no_issue : (w : Option Work) (j : ℕ) → job_of_run w j ≡ None → is_write (issue_of j w) ≡ false
no_issue None j is = refl
no_issue (Some w) j is = no_write w j (slice_get w.jobs j) is

-- A job that the run hasn't gives none.
pub no_job : LooksAtAll → (o : Opening) (past : List FrameEntry) (j : ℕ) → None ≡ run_job o (shown_entries (packets_heard o past)) j → GivesNone o past j
no_job shows o past j is =
    gives_none (is_on (packets_heard o past)) (work o (packets_heard o past)) j
    (λ on. no_issue (work o (packets_heard o past)) j
    (sym (subst (λ l. None ≡ run_job o l j) (shows (packets_heard o past) on) is)))

-- A job that was asked gave a write, or gives none.
pub gave : LooksAtAll → (o : Opening) (at : ServerAt) (j : ℕ) (job : Job) (answer : Answer) → refusal o at.list (Issue j) ≡ None
    → Some answer ≡ issue o at.list (Issue j) → Some job ≡ run_job o (shown_entries (packets_heard o at.list)) j → job.rec.total ≤ MAX_WRITES
    → Asked j (is_write answer) o at (at_by None o at (Issue j))
gave shows o at j job answer free is there few = by answer same
  where
    same : issue_of j (work o (packets_heard o at.list)) ≡ answer
    same = cc

    on : is_on (packets_heard o at.list) ≡ true
    on = is_free (is_on (packets_heard o at.list)) None refl free

    found : job_of_run (work o (packets_heard o at.list)) j ≡ Some job
    found = sym (subst (λ l. Some job ≡ run_job o l j) (shows (packets_heard o at.list) on) there)

    by : (a : Answer) → issue_of j (work o (packets_heard o at.list)) ≡ a → Asked j (is_write a) o at (at_by None o at (Issue j))
    by (answers.Write t) e =
        let r = run_gives (work o (packets_heard o at.list)) j job t found e in (r.0, omega (arith, r.0, r.1, few))
    by a e = ask_keeps o at.list j j
        (gives_none (is_on (packets_heard o at.list)) (work o (packets_heard o at.list)) j (λ so. ap is_write e))

-- A request that is refused leaves a job that gives none.
pub refused_gives : (o : Opening) (at : ServerAt) (j : ℕ) (fault : Fault) → refusal o at.list (Issue j) ≡ Some fault
    → GivesNone o (at_by (Some fault) o at (Issue j)).list j
refused_gives o at j fault why =
    asked_keeps (Some fault) o at j j (ap (λ (w : Option Fault). gives_write (unless_refused w (issue o at.list (Issue j)))) why)
