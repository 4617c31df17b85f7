-- The open check, and how far each of its jobs is.
use Rattle.std.specs.Prelude.{ℕ, Bool, true, not, ◌&&◌, ◌==◌, nat_lt, List, [], ◌∷◌, Option, Some, None, slice_get, Result, Ok, Err, if◌then◌else◌}
use Rattle.fc_base.specs.declared.fault.Fault.{Fault}
use Rattle.fc_base.specs.declared.report.ReportParts.{ReportParts}
use Rattle.fc_base.specs.Fault.{number_of}
use Rattle.job_file.specs.declared.job.Job.{Job}
use Rattle.job_file.specs.declared.job.Phase.TheVariants.{Read}
use Rattle.verify_state.specs.State.{State}
use Rattle.disk_model.specs.declared.save_outcome.SaveOutcome.{SaveOutcome}
use Rattle.disk_model.specs.declared.save_outcome.SaveOutcome.TheVariants.{NoSave, Saved, LostNew, LostOld}
use Rattle.server_core.specs.History.{Opening, Entry, Met, Cut, Restart}
use Rattle.server_core.specs.Request.{Request, ToVerify, ToHold, ToPassFully, ToReport, request_of}
use Rattle.server_core.specs.Texts.{jobs_for}
use Rattle.verify_state.specs.Misfit.{misfit}
use Rattle.server_core.specs.Run.{Work, is_open, is_unended}
use Rattle.server_core.specs.Words.{Staged, is_on, boot, last_run, work, due}

-- A check: the server and its boot, the run that is checked, the attempt and its jobs, and what was
-- asked since its Verify was accepted, the newest first.
pub record Check : Type 0 where
  pub server : ℕ
  pub boot : ℕ
  pub run : ℕ
  pub attempt : ℕ
  pub jobs : List Job
  pub since : List Request

-- How far the check of a job is.
pub data Progress : Type 0 where
  Wanting : Progress  -- it waits for its state
  Full : Progress  -- it is a full pass
  With : State → Progress  -- it is made with this state
  Refused : ℕ → Progress  -- the state that came didn't fit
  Done : ReportParts → Progress  -- it was made

-- A state that comes to a job that wants one is held where it fits.
abbrev pub progress_with_state : Option Fault → State → Progress → Progress
progress_with_state None state Wanting = With state
progress_with_state (Some fault) state Wanting = Refused (number_of fault)
progress_with_state fault state Full = Full
progress_with_state fault state (With s) = With s
progress_with_state fault state (Refused value) = Refused value
progress_with_state fault state (Done report) = Done report

-- A job that wants a state and gets none is a full pass.
abbrev pub progress_without_state : Progress → Progress
progress_without_state Wanting = Full
progress_without_state Full = Full
progress_without_state (With s) = With s
progress_without_state (Refused value) = Refused value
progress_without_state (Done report) = Done report

-- A check that is made is done.
abbrev pub progress_with_report : ReportParts → Progress → Progress
progress_with_report r Wanting = Wanting
progress_with_report r Full = Done r
progress_with_report r (With s) = Done r
progress_with_report r (Refused value) = Refused value
progress_with_report r (Done report) = Done report

-- How far job j is behind a request, where it was so far before.
abbrev pub progress_by : Check → ℕ → Job → Request → Progress → Progress
progress_by c j job (ToHold a state) p =
    if (a == c.attempt) && (state.key.job == j)
    then progress_with_state (misfit state
    (record { run = c.run; server = c.server; job = j }) job.rec) state p else p
progress_by c j job (ToPassFully a i) p =
    if (a == c.attempt) && (i == j) then progress_without_state p else p
progress_by c j job (ToReport b a i report) p =
    if (b == c.boot) && ((a == c.attempt) && (i == j)) then progress_with_report report p else p
progress_by c j job _ p = p

-- A job that loads its state wants it, and any other is a full pass.
abbrev pub progress_at_first : Bool → Progress
progress_at_first load = if load then Wanting else Full

-- How far job j is, behind these requests.
abbrev pub progress_after : Check → ℕ → Job → List Request → Progress
progress_after c j job [] = progress_at_first job.load
progress_after c j job (x ∷ since) = progress_by c j job x (progress_after c j job since)

-- How far job j of a check is, where it has that job.
abbrev pub progress_at : Check → ℕ → Option Job → Option Progress
progress_at c j None = None
progress_at c j (Some job) = Some (progress_after c j job c.since)

-- How far job j of the check is, where there is one.
abbrev pub progress_in : Option Check → ℕ → Option Progress
progress_in None j = None
progress_in (Some c) j = progress_at c j (slice_get c.jobs j)

-- An attempt is above that of the open check.
abbrev pub is_above : ℕ → Option Check → Bool
is_above a None = true
is_above a (Some c) = nat_lt c.attempt a

-- A check of these jobs that was just opened.
abbrev pub new_check : ℕ → ℕ → ℕ → ℕ → Result (List Job) ℕ → Option Check
new_check me now_boot r a (Ok js) =
    Some (record { server = me; boot = now_boot; run = r; attempt = a; jobs = js; since = [] })
new_check me now_boot r a (Err value) = None

-- The check that a request opens: a Verify of the last run in a new attempt, with a set of reading
-- jobs, where no write is open and no job of a writing run has yet to end.
abbrev pub opens : Bool → ℕ → ℕ → ℕ → Option Work → Option Check → Request → Option Check
opens on me now_boot last now check (ToVerify r a text) =
    if on && ((r == last) && (is_above a check && (not (is_open now) && not (is_unended now))))
    then new_check me now_boot r a (jobs_for Read text) else None
opens on me now_boot last now check _ = None

-- What is asked goes on with the check.
abbrev pub check_goes_on : Request → Option Check → Option Check
check_goes_on x None = None
check_goes_on x (Some c) = Some (record c { since = x ∷ c.since })

-- A new check takes the place of the open one.
abbrev pub or_opened : Option Check → Option Check → Option Check
or_opened None older = older
or_opened (Some new) older = Some new

-- The open check behind a request: a Start that is accepted closes it; a failed save ends the life.
abbrev pub check_after : SaveOutcome → Option Staged → Option Check → Request → Option Check → Option Check
check_after NoSave due new x older = or_opened new (check_goes_on x older)
check_after Saved None new x older = or_opened new (check_goes_on x older)
check_after Saved (Some s) new x older = None
check_after LostNew due new x older = None
check_after LostOld due new x older = None

-- The open check: that of the last accepted Verify of this life with no accepted Start since.
abbrev pub check : Opening → List Entry → Option Check
check opening [] = None
check opening (Met e left ∷ past) =
    check_after left (due opening past e)
    (opens (is_on past) opening.me (boot opening past) (last_run opening past) (work opening past)
    (check opening past)
    (request_of opening.me e))
    (request_of opening.me e) (check opening past)
check opening (Cut ∷ past) = None
check opening (Restart left ∷ past) = None

-- How far job j of the open check is.
abbrev pub progress : Opening → List Entry → ℕ → Option Progress
progress opening past j = progress_in (check opening past) j
