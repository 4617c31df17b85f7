-- What a server answers to an input, sends and shows, read from the list.
use Rattle.std.specs.Prelude.{ℕ, Bool, true, false, not, ◌&&◌, ◌==◌, List, [], ◌∷◌, ◌++◌, length, map, Option, Some, None, is_some, slice_get, if◌then◌else◌}
use Rattle.std.specs.List.{list_all}
use Rattle.fc_base.specs.declared.fault.Fault.{Fault}
use Rattle.fc_base.specs.declared.fault.Fault.TheVariants.{Down, Misdirected, OldBoot, NotInFlight}
use Rattle.fc_base.specs.Counted.{has, numbers_below}
use Rattle.job_file.specs.declared.job.Job.{Job}
use Rattle.engine.specs.History as window
use Rattle.engine.specs.declared.issue.Ticket.{Ticket}
use Rattle.engine.specs.declared.issue.Issue.{Issue}
use Rattle.engine.specs.declared.issue.Issue.TheVariants as issues
use Rattle.engine.specs.Answers.{answer_to, names_one_of}
use Rattle.messages.specs.declared.body.Body.{Body}
use Rattle.messages.specs.declared.node.Node.TheVariants.{Server, Client}
use Rattle.messages.specs.declared.packet.PacketParts.{PacketParts}
use Rattle.messages.specs.declared.refusal.Act.{Act}
use Rattle.messages.specs.declared.refusal.Act.TheVariants as acts
use Rattle.server_core.specs.Inputs.{PacketInput}
use Rattle.server_core.specs.declared.status.Stage.{Stage}
use Rattle.server_core.specs.declared.status.Stage.TheVariants as stages
use Rattle.server_core.specs.declared.status.Status.{Status}
use Rattle.disk_model.specs.SaveOutcome.{is_lost}
use Rattle.server_core.specs.History.{Opening, Entry, Met, Cut, Restart}
use Rattle.server_core.specs.Request.{Request, ToMark, ToIssue, ToEnd, ToReport, ToNobody, request_of}
use Rattle.server_core.specs.Run.{Work, Halt, Triggered, Stopped, halt_of, is_halted, origin_of, history}
use Rattle.server_core.specs.Words.{is_on, boot, last_run, staged_run, work, due}
use Rattle.server_core.specs.Check.{Check, Progress, Wanting, Full, With, Refused, Done, check, progress_in}
use Rattle.server_core.specs.Replies.{Now, number_staged, replies}

-- The words of a server behind this list.
abbrev pub now : Opening → List Entry → Now
now opening past = record {
  server = opening.me;
  boot = boot opening past;
  last = last_run opening past;
  staged = staged_run opening past;
  run = work opening past;
  check = check opening past;
}

-- The ticket names an open write of this job.
abbrev pub names_open_of : Work → Ticket → Option Job → Bool
names_open_of w ticket None = false
names_open_of w ticket (Some job) =
    let origin = origin_of w ticket.key.job job in
    names_one_of origin (window.open_writes (history origin w.since)) ticket

-- The ticket names an open write of the run.
abbrev pub names_open : Option Work → Ticket → Bool
names_open None ticket = false
names_open (Some w) ticket = names_open_of w ticket (slice_get w.jobs ticket.key.job)

-- The check of a job may be made: it is a full pass, or has its state.
abbrev pub is_ready : Option Progress → Bool
is_ready None = false
is_ready (Some Wanting) = false
is_ready (Some Full) = true
is_ready (Some (With s)) = true
is_ready (Some (Refused value)) = false
is_ready (Some (Done report)) = false

-- The open check has this attempt.
abbrev pub is_open_attempt : ℕ → Option Check → Bool
is_open_attempt a None = false
is_open_attempt a (Some c) = c.attempt == a

-- Something of another boot is refused first, and then what isn't there.
abbrev pub refused_by : Bool → Bool → Option Fault
refused_by same_boot there =
    if not same_boot then Some OldBoot else (if there then None else Some NotInFlight)

-- Why a request is refused, if it is.
abbrev pub refusal_of : Now → Request → Option Fault
refusal_of now ToNobody = Some Misdirected
refusal_of now (ToEnd ticket end) = refused_by (ticket.boot == now.boot) (names_open now.run ticket)
refusal_of now (ToReport b a j report) =
    refused_by (b == now.boot) (is_open_attempt a now.check && is_ready (progress_in now.check j))
refusal_of now _ = None

-- Why an input is refused: the server is down, or the request is refused.
abbrev pub refusal : Opening → List Entry → PacketInput → Option Fault
refusal opening past e =
    if is_on past then refusal_of (now opening past) (request_of opening.me e) else Some Down

-- The packets that carry these bodies to the client.
abbrev pub to_client : ℕ → List Body → List PacketParts
to_client me bodies = map (λ b. record { from = Server me; to = Client; body = b }) bodies

-- A request that is refused, or whose save failed, sends nothing.
abbrev pub sent_by : Bool → Option Fault → List Body → List Body
sent_by lost None bodies = if lost then [] else bodies
sent_by lost (Some fault) bodies = []

-- The packets that an entry sends.
abbrev pub packets : Opening → List Entry → Entry → List PacketParts
packets opening past (Met e left) =
    to_client opening.me (sent_by (is_lost left) (refusal opening past e)
    (replies (now opening past) (request_of opening.me e)))
packets opening past Cut = []
packets opening past (Restart left) = []

-- What a job of the run answers to a request for a write, Stopped where there is no such job.
abbrev pub issue_of_job : Work → ℕ → Option Job → Issue
issue_of_job w j None = issues.Stopped
issue_of_job w j (Some job) =
    answer_to (origin_of w j job) (is_halted w) (history (origin_of w j job) w.since)

-- What job j of the run answers, Stopped where no run writes.
abbrev pub issue_of : ℕ → Option Work → Issue
issue_of j None = issues.Stopped
issue_of j (Some w) = issue_of_job w j (slice_get w.jobs j)

-- What is answered to a request for a write. Nothing else is answered so.
abbrev pub issue_for : Option Work → Request → Option Issue
issue_for now (ToIssue j) = Some (issue_of j now)
issue_for now _ = None

-- What an input answers of writes.
abbrev pub issue : Opening → List Entry → PacketInput → Option Issue
issue opening past e = issue_for (work opening past) (request_of opening.me e)

-- The job that this request marks: the client tells that its state is kept, behind the Trigger of
-- the run.
abbrev pub marks_by : Option Halt → ℕ → Request → List ℕ
marks_by (Some (Triggered act before)) run (ToMark r j) = if r == run then j ∷ [] else []
marks_by _ run _ = []

-- The jobs that are marked, the newest first.
abbrev pub marks : ℕ → List Request → List ℕ
marks run [] = []
marks run (x ∷ since) = marks_by (halt_of run since) run x ++ marks run since

-- Every job of the run is marked.
abbrev pub is_marked : Work → Bool
is_marked w = list_all (has (marks w.run w.since)) (numbers_below (length w.jobs))

-- The act is to cut.
abbrev pub is_cut_act : Act → Bool
is_cut_act acts.None = false
is_cut_act acts.Cut = true

-- The Trigger that took the run asked for a cut.
abbrev pub wants_cut : Option Halt → Bool
wants_cut (Some (Triggered act before)) = is_cut_act act
wants_cut (Some Stopped) = false
wants_cut None = false

-- The request marks the last job of a run that wants the cut.
abbrev pub completes : Work → Request → Bool
completes w x =
    wants_cut (halt_of w.run w.since)
    && (not (is_marked w) && is_marked (record w { since = x ∷ w.since }))

-- What a request makes the server ask of its caller: the mark of the last job asks for the cut.
abbrev pub act_of : Option Work → Request → Act
act_of None x = acts.None
act_of (Some w) x = if completes w x then acts.Cut else acts.None

-- What an input makes the server ask of its caller.
abbrev pub act : Opening → List Entry → PacketInput → Act
act opening past e = act_of (work opening past) (request_of opening.me e)

-- An input makes a save where it is due to record a run.
abbrev pub would_save : Opening → List Entry → PacketInput → Bool
would_save opening past e = is_some (due opening past e)

-- What the calls that only look answer from: all that came, but for what came from a failed save
-- on.
abbrev pub shown_entries : List Entry → List Entry
shown_entries [] = []
shown_entries (Met e left ∷ past) =
    if is_on past then (if is_lost left then past else Met e left ∷ past) else shown_entries past
shown_entries (Cut ∷ past) = []
shown_entries (Restart left ∷ past) = Restart left ∷ past

-- How far a run is.
abbrev pub stage_by : Option Halt → Stage
stage_by None = stages.Writing
stage_by (Some (Triggered act before)) = stages.Taken
stage_by (Some Stopped) = stages.Stopped

-- How far the present run is, Idle where there is none.
abbrev pub stage_of : Option Work → Stage
stage_of None = stages.Idle
stage_of (Some w) = stage_by (halt_of w.run w.since)

-- The number of a run, 0 where there is none.
abbrev pub number_of_run : Option Work → ℕ
number_of_run None = 0
number_of_run (Some w) = w.run

-- The attempt of a check, 0 where there is none.
abbrev pub number_of_check : Option Check → ℕ
number_of_check None = 0
number_of_check (Some c) = c.attempt

-- What a server with these words shows of itself.
abbrev pub status_of : Now → Status
status_of n = record {
  boot = n.boot;
  last_run = n.last;
  staged = number_staged n.staged;
  run = number_of_run n.run;
  stage = stage_of n.run;
  attempt = number_of_check n.check;
}

-- What a server shows of itself.
abbrev pub status : Opening → List Entry → Status
status opening past = status_of (now opening past)

-- Job j of a run, where there is one.
abbrev pub job_of_run : Option Work → ℕ → Option Job
job_of_run None j = None
job_of_run (Some w) j = slice_get w.jobs j

-- Job j of the present run.
abbrev pub run_job : Opening → List Entry → ℕ → Option Job
run_job opening past j = job_of_run (work opening past) j

-- Job j of a check, where there is one.
abbrev pub job_of_check : Option Check → ℕ → Option Job
job_of_check None j = None
job_of_check (Some c) j = slice_get c.jobs j

-- Job j of the open check.
abbrev pub check_job : Opening → List Entry → ℕ → Option Job
check_job opening past j = job_of_check (check opening past) j
