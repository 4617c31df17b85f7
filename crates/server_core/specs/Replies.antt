-- What a server replies to each request, by its words before the request.
use Rattle.std.specs.Prelude.{ℕ, ◌+◌, Bool, ◌||◌, ◌==◌, nat_lt, nat_le, max, List, [], ◌∷◌, ◌++◌}
use Rattle.std.specs.Prelude.{length, Option, Some, None, slice_get, Result, Ok, Err, if◌then◌else◌}
use Rattle.fc_base.specs.declared.report.ReportParts.{ReportParts}
use Rattle.job_file.specs.declared.job.Job.{Job}
use Rattle.job_file.specs.declared.job.Phase.TheVariants.{Read, Write}
use Rattle.verify_state.specs.State.{State as SavedState}
use Rattle.messages.specs.declared.body.Body.{Body}
use Rattle.messages.specs.declared.body.Body.TheVariants.{JobsOk, Started, State, NoState, Stopped, WantState, Report, Refused}
use Rattle.messages.specs.declared.refusal.RefusedRequest.{RefusedRequest}
use Rattle.messages.specs.declared.refusal.RefusedRequest.TheVariants.{Jobs, Start, Trigger, Stop, Verify}
use Rattle.messages.specs.declared.refusal.Reason.{Reason}
use Rattle.messages.specs.declared.refusal.Reason.TheVariants.{Old, Busy, NoJobs, Gone, Overwritten, Unknown, BadJobs, Misfit}
use Rattle.server_core.specs.Request.{Request, ToStage, ToStart, ToTrigger, ToMark, ToStop, ToVerify, ToHold, ToPassFully, ToIssue, ToEnd, ToReport, ToNobody}
use Rattle.server_core.specs.Texts.{jobs_for}
use Rattle.server_core.specs.Run.{Work, Halt, Triggered, halt_of, origin_of, is_open, is_unended}
use Rattle.server_core.specs.Run as runs
use Rattle.server_core.specs.Taken.{job_state}
use Rattle.server_core.specs.Words.{Staged, for_run}
use Rattle.server_core.specs.Check.{Check, Progress, Wanting, Full, With, progress_after, progress_by}
use Rattle.server_core.specs.Check as checks

-- The words of a server that a reply is read from.
pub record Now : Type 0 where
  pub server : ℕ
  pub boot : ℕ
  pub last : ℕ
  pub staged : Option Staged
  pub run : Option Work
  pub check : Option Check

-- A refusal of a request for a run, and an attempt where there is one, with a value.
abbrev pub refuse : RefusedRequest → Reason → ℕ → ℕ → ℕ → List Body
refuse asked reason r a value =
    Refused (record {
      asked = asked;
      reason = reason;
      job = 0;
      jobs = 0;
      run = r;
      attempt = a;
      value = value;
    })
    ∷ []

-- The number of the staged run, 0 where there is none.
abbrev pub number_staged : Option Staged → ℕ
number_staged None = 0
number_staged (Some s) = s.run

-- Jobs that are staged, or what is wrong with their text.
abbrev pub reply_to_text : ℕ → Result (List Job) ℕ → List Body
reply_to_text r (Ok jobs) = JobsOk r (length jobs) ∷ []
reply_to_text r (Err value) = refuse Jobs BadJobs r 0 value

-- The staged run is answered again; with a write open nothing is staged.
abbrev pub reply_to_new_jobs : ℕ → Option Staged → Bool → Result (List Job) ℕ → List Body
reply_to_new_jobs r (Some s) is_open text = JobsOk r (length s.jobs) ∷ []
reply_to_new_jobs r None is_open text =
    if is_open then refuse Jobs Busy r 0 0 else reply_to_text r text

-- Jobs of a run up to the last run, or below the staged run, are old.
abbrev pub reply_to_jobs : Now → ℕ → List ℕ → List Body
reply_to_jobs now r text =
    if nat_le r now.last || nat_lt r (number_staged now.staged)
    then refuse Jobs Old r 0 (max now.last (number_staged now.staged))
    else reply_to_new_jobs r (for_run r now.staged) (is_open now.run) (jobs_for Write text)

-- The present run, where it is this one.
abbrev pub present : ℕ → Option Work → Option Work
present r None = None
present r (Some w) = if w.run == r then Some w else None

-- A Start of a run that is staged or not, with a write open or not.
abbrev pub reply_to_new_start : ℕ → Option Staged → Bool → List Body
reply_to_new_start r None is_open = refuse Start NoJobs r 0 0
reply_to_new_start r (Some s) is_open = if is_open then refuse Start Busy r 0 0 else Started r ∷ []

-- A Start of the present run is answered again; a run up to the last run is old.
abbrev pub reply_to_start : Now → ℕ → Option Work → List Body
reply_to_start now r (Some w) = Started r ∷ []
reply_to_start now r None =
    if nat_le r now.last then refuse Start Old r 0 now.last
    else reply_to_new_start r (for_run r now.staged) (is_open now.run)

-- A run that isn't the present one is gone, or unknown.
abbrev pub gone_or_unknown : RefusedRequest → ℕ → ℕ → List Body
gone_or_unknown asked r last =
    if nat_le r last then refuse asked Gone r 0 last else refuse asked Unknown r 0 last

-- The packet of a job that was taken behind these requests: its state, or that it saves none.
abbrev pub state_frame : Work → ℕ → Job → List Request → Body
state_frame w j job before =
    if job.save then State (length w.jobs) (job_state (origin_of w j job) before)
    else NoState w.run j (length w.jobs)

-- The packets of jobs that were taken behind these requests, numbered on from j.
abbrev pub state_frames : Work → List Request → ℕ → List Job → List Body
state_frames w before j [] = []
state_frames w before j (job ∷ jobs) =
    state_frame w j job before ∷ state_frames w before (j + 1) jobs

-- A Trigger of the present run: a writing one is taken now, a taken one is answered again, and a
-- stopped one is gone.
abbrev pub reply_to_halt : Work → ℕ → Option Halt → List Body
reply_to_halt w last None = state_frames w w.since 0 w.jobs
reply_to_halt w last (Some (Triggered act before)) = state_frames w before 0 w.jobs
reply_to_halt w last (Some runs.Stopped) = refuse Trigger Gone w.run 0 last

-- A Trigger of another run: it is gone, or unknown.
abbrev pub reply_to_trigger : Now → ℕ → Option Work → List Body
reply_to_trigger now r (Some w) = reply_to_halt w now.last (halt_of w.run w.since)
reply_to_trigger now r None = gone_or_unknown Trigger r now.last

-- A Stop of the present run is answered; another run is gone, or unknown.
abbrev pub reply_to_stop : Now → ℕ → Option Work → List Body
reply_to_stop now r (Some w) = Stopped r ∷ []
reply_to_stop now r None = gone_or_unknown Stop r now.last

-- The packet of a job of a check that wants its state, has its report, or whose state didn't fit.
abbrev pub progress_frame : Check → ℕ → Progress → List Body
progress_frame c j Wanting = WantState c.run c.attempt j ∷ []
progress_frame c j Full = []
progress_frame c j (With s) = []
progress_frame c j (checks.Refused value) =
    Refused (record {
      asked = Verify;
      reason = Misfit;
      job = j;
      jobs = length c.jobs;
      run = c.run;
      attempt = c.attempt;
      value = value;
    })
    ∷ []
progress_frame c j (checks.Done report) = Report c.run c.attempt j (length c.jobs) report ∷ []

-- The packets of the jobs of a check, numbered on from j.
abbrev pub check_frames_from : Check → ℕ → List Job → List Body
check_frames_from c j [] = []
check_frames_from c j (job ∷ jobs) =
    progress_frame c j (progress_after c j job c.since) ++ check_frames_from c (j + 1) jobs

-- The packets of a check, in the order of its jobs.
abbrev pub check_frames : Check → List Body
check_frames c = check_frames_from c 0 c.jobs

-- A check that is opened, or what is wrong with its text.
abbrev pub reply_to_check_text : Now → ℕ → ℕ → Result (List Job) ℕ → List Body
reply_to_check_text now r a (Ok js) =
    check_frames (record {
      server = now.server;
      boot = now.boot;
      run = r;
      attempt = a;
      jobs = js;
      since = [];
    })
reply_to_check_text now r a (Err value) = refuse Verify BadJobs r a value

-- A Verify of a new attempt waits until no write is open and each job of a writing run has ended.
abbrev pub reply_to_new_check : Now → ℕ → ℕ → List ℕ → List Body
reply_to_new_check now r a text =
    if is_open now.run || is_unended now.run then refuse Verify Busy r a 0
    else reply_to_check_text now r a (jobs_for Read text)

-- A Verify of the last run: an attempt below that of the open check is old, and the same attempt is
-- answered again.
abbrev pub reply_to_attempt : Now → ℕ → ℕ → List ℕ → Option Check → List Body
reply_to_attempt now r a text None = reply_to_new_check now r a text
reply_to_attempt now r a text (Some c) =
    if nat_lt a c.attempt then refuse Verify Old r a c.attempt
    else (if c.attempt == a then check_frames c else reply_to_new_check now r a text)

-- A Verify of a run above the last is of an unknown one; below it the files were overwritten.
abbrev pub reply_to_verify : Now → ℕ → ℕ → List ℕ → List Body
reply_to_verify now r a text =
    if nat_lt now.last r then refuse Verify Unknown r a now.last
    else (if nat_lt r now.last then refuse Verify Overwritten r a now.last
    else reply_to_attempt now r a text now.check)

-- A state that comes to a job that wants it is refused where it doesn't fit.
abbrev pub misfit_frame : Check → ℕ → Progress → Progress → List Body
misfit_frame c j Wanting (checks.Refused value) = progress_frame c j (checks.Refused value)
misfit_frame c j _ _ = []

-- What is replied to a state for its job, where the check has it.
abbrev pub reply_to_state_for : Check → ℕ → SavedState → Option Job → List Body
reply_to_state_for c a state None = []
reply_to_state_for c a state (Some job) =
    let p = progress_after c state.key.job job c.since in
    misfit_frame c state.key.job p (progress_by c state.key.job job (ToHold a state) p)

-- What is replied to a state: nothing where no check is open.
abbrev pub reply_to_state : ℕ → SavedState → Option Check → List Body
reply_to_state a state None = []
reply_to_state a state (Some c) = reply_to_state_for c a state (slice_get c.jobs state.key.job)

-- A report is kept and sent.
abbrev pub reply_to_report : ℕ → ReportParts → Option Check → List Body
reply_to_report j report None = []
reply_to_report j report (Some c) = progress_frame c j (checks.Done report)

-- What a server replies to each request.
abbrev pub replies : Now → Request → List Body
replies now (ToStage r text) = reply_to_jobs now r text
replies now (ToStart r) = reply_to_start now r (present r now.run)
replies now (ToTrigger r act) = reply_to_trigger now r (present r now.run)
replies now (ToMark r j) = []
replies now (ToStop r) = reply_to_stop now r (present r now.run)
replies now (ToVerify r a text) = reply_to_verify now r a text
replies now (ToHold a state) = reply_to_state a state now.check
replies now (ToPassFully a j) = []
replies now (ToIssue j) = []
replies now (ToEnd ticket end) = []
replies now (ToReport b a j report) = reply_to_report j report now.check
replies now ToNobody = []
