-- A run: when it ends, the history of each of its jobs, and what is open.
use Rattle.std.specs.Prelude.{ℕ, ◌+◌, Bool, false, not, ◌&&◌, ◌==◌, nat_lt, List, [], ◌∷◌, length, Option, Some, None, is_some, Result, Ok, Err, if◌then◌else◌}
use Rattle.std.specs.List.{list_all, list_any}
use Rattle.std.specs.Option.{option_or}
use Rattle.fc_base.specs.declared.fault.Fault.{Fault}
use Rattle.job_file.specs.declared.job.Job.{Job}
use Rattle.messages.specs.declared.refusal.Act.{Act}
use Rattle.engine.specs.History as window
use Rattle.engine.specs.declared.issue.Issue.{Issue}
use Rattle.engine.specs.declared.issue.Issue.TheVariants as issues
use Rattle.engine.specs.Running.{Origin}
use Rattle.engine.specs.Answers.{answer_to, ticket_answer, has_ended}
use Rattle.server_core.specs.declared.input.WriteEnd.{WriteEnd}
use Rattle.server_core.specs.declared.input.WriteEnd.TheVariants.{Done, Failed}
use Rattle.server_core.specs.Request.{Request, ToTrigger, ToStop, ToIssue, ToEnd}

-- A run at work: the server and its boot, the run and its jobs, and what was asked since its Start
-- was accepted, the newest first.
pub record Work : Type 0 where
  pub server : ℕ
  pub boot : ℕ
  pub run : ℕ
  pub jobs : List Job
  pub since : List Request

-- What ended a run's writing: a Trigger, with its act and the requests that came before it, or a
-- Stop.
pub data Halt : Type 0 where
  Triggered : Act → List Request → Halt
  Stopped : Halt

-- How this request, which came behind these, ends the writing of a run, if it does.
abbrev pub halt_by : ℕ → Request → List Request → Option Halt
halt_by run (ToTrigger r act) before = if r == run then Some (Triggered act before) else None
halt_by run (ToStop r) before = if r == run then Some Stopped else None
halt_by run _ before = None

-- The first Trigger or Stop of the run, if one came.
abbrev pub halt_of : ℕ → List Request → Option Halt
halt_of run [] = None
halt_of run (x ∷ since) = option_or (halt_of run since) (halt_by run x since)

-- Where the writes of job j come from.
abbrev pub origin_of : Work → ℕ → Job → Origin
origin_of w j job = record {
  boot = w.boot;
  key = record { run = w.run; server = w.server; job = j };
  job = job.rec;
}

-- A write that is issued is an event of its job's history.
abbrev pub with_issue : Issue → List window.Event → List window.Event
with_issue (issues.Write ticket) h = window.issue ticket.seq ∷ h
with_issue _ h = h

-- How a write ended is an event of its job's history.
abbrev pub with_end : WriteEnd → ℕ → List window.Event → List window.Event
with_end Done k h = window.done k ∷ h
with_end Failed k h = window.fail k ∷ h

-- How a write ended is an event of its job's history, where the ticket was accepted.
abbrev pub with_ticket : Result (Unit {0}) Fault → WriteEnd → ℕ → List window.Event
    → List window.Event
with_ticket (Ok _) end k h = with_end end k h
with_ticket (Err fault) end k h = h

-- What a request adds to the history of a job, which was stopped before it or not.
abbrev pub with_request : Origin → Bool → Request → List window.Event → List window.Event
with_request origin stopped (ToIssue job) h =
    if job == origin.key.job then with_issue (answer_to origin stopped h) h else h
with_request origin stopped (ToEnd ticket end) h =
    with_ticket (ticket_answer origin (window.open_writes h) ticket) end ticket.seq h
with_request origin stopped _ h = h

-- The history of a job: the writes issued to it and the completions accepted since the Start. The
-- first Trigger or Stop of its run stops it.
abbrev pub history : Origin → List Request → List window.Event
history origin [] = []
history origin (x ∷ since) =
    with_request origin (is_some (halt_of origin.key.run since)) x (history origin since)

-- The origins of jobs, numbered on from j.
abbrev pub origins_from : Work → ℕ → List Job → List Origin
origins_from w j [] = []
origins_from w j (job ∷ jobs) = origin_of w j job ∷ origins_from w (j + 1) jobs

-- The origins of a run's jobs.
abbrev pub origins : Work → List Origin
origins w = origins_from w 0 w.jobs

-- The run is stopped: a Trigger or Stop came.
abbrev pub is_halted : Work → Bool
is_halted w = is_some (halt_of w.run w.since)

-- Some write of the run is open.
unfoldable pub has_open : Work → Bool
has_open w =
    list_any (λ origin. nat_lt 0 (length (window.open_writes (history origin w.since)))) (origins w)

-- Every job of the run has ended: it has no open write, and issues none any more.
unfoldable pub have_ended : Work → Bool
have_ended w =
    list_all (λ origin. has_ended origin (is_halted w) (history origin w.since)) (origins w)

-- What is asked goes on with the run.
abbrev pub goes_on : Request → Option Work → Option Work
goes_on x None = None
goes_on x (Some w) = Some (record w { since = x ∷ w.since })

-- A write is open in the run, if there is one.
abbrev pub is_open : Option Work → Bool
is_open None = false
is_open (Some w) = has_open w

-- There is a run that writes, and a job of it has yet to end.
abbrev pub is_unended : Option Work → Bool
is_unended None = false
is_unended (Some w) = not (is_halted w) && not (have_ended w)
