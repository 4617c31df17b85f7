-- The words behind what comes to a server.
use Rattle.std.specs.Prelude.{if◌then◌else◌, is_some, ◌≡◌, ℕ, true, not, ◌&&◌, List, Option, Some, None, Ok}
use Rattle.job_file.specs.declared.job.Phase.TheVariants.{Read}
use Rattle.job_file.specs.declared.job.Job.{Job}
use Rattle.job_file.specs.declared.job.Phase.{Phase}
use Rattle.server_core.specs.Texts.{jobs_for}
use Rattle.server_core.specs.Laws.{IsSet}
use Rattle.server_core.specs.Request.{Request, ToStart}
use Rattle.server_core.specs.Run.{Work, goes_on, is_open, is_unended}
use Rattle.server_core.specs.Words.{Staged, stages, greater, due_by}
use Rattle.server_core.specs.Check.{Check, new_check, opens, check_goes_on, or_opened}
use Rattle.server_core.specs.Replies.{Now}
use Rattle.server_core.specs.Kept.{new_work}

-- What is staged, with one more.
abbrev pub with_staged : ℕ → Option Staged → Option Staged → Option Staged
with_staged last None older = older
with_staged last (Some new) older = greater last new older

-- The words of a server that is on, behind a request that records no run.
abbrev pub words_after : Now → Request → Now
words_after now x = record {
  server = now.server;
  boot = now.boot;
  last = now.last;
  staged = with_staged now.last (stages true now.last now.run x) now.staged;
  run = goes_on x now.run;
  check = or_opened (opens true now.server now.boot now.last now.run now.check x)
      (check_goes_on x now.check);
}

-- The text gives these jobs to the phase, and they are a set.
abbrev pub GivesJobs : Phase → List ℕ → List Job → Type 0
GivesJobs phase text jobs = (jobs_for phase text ≡ Ok jobs) × IsSet jobs

-- The check that a Verify of the last run opens in a new attempt: one of reading jobs, where no
-- write is open and no job of a writing run has yet to end.
abbrev pub opened_anew : ℕ → ℕ → Option Work → ℕ → ℕ → List ℕ → Option Check
opened_anew me now_boot run r a text =
    if not (is_open run) && not (is_unended run) then new_check me now_boot r a (jobs_for Read text)
    else None

-- The words behind a Start that has recorded a staged run: the run begins, and any check is closed.
abbrev pub begun_by : Now → Staged → Now
begun_by now s = record {
  server = now.server;
  boot = now.boot;
  last = s.run;
  staged = None;
  run = Some (new_work now.server now.boot s);
  check = None;
}

-- The request is a Start of this run, which is due to be recorded; or none is due.
abbrev pub IsDueFor : Now → Request → Option ℕ → Type 0
IsDueFor now x None = due_by true now.last now.staged now.run x ≡ None
IsDueFor now x (Some run) =
    (x ≡ ToStart run) × (is_some (due_by true now.last now.staged now.run x) ≡ true)
