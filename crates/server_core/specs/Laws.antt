-- What holds of every list of what came to a server.
use Rattle.std.specs.Prelude.{◌≡◌, ℕ, ◌<◌, ◌≤◌, Bool, true, false, List, [], ◌∷◌, ◌++◌, length, Contains, Option, Some, None, Ok, IsTrue}
use Rattle.std.specs.List.{AllByRecursion}
use Rattle.fc_base.specs.declared.limits.TheConstants.{MAX_JOBS}
use Rattle.fc_base.specs.JobParts.{is_within_limits}
use Rattle.job_file.specs.declared.job.Job.{Job}
use Rattle.job_file.specs.declared.job.Phase.{Phase}
use Rattle.job_file.specs.Laws.{AreWithinLimits, FitsItsWidths}
use Rattle.disk_model.specs.declared.save_outcome.SaveOutcome.{SaveOutcome}
use Rattle.disk_model.specs.SaveOutcome.{has_new}
use Rattle.verify_state.specs.State.{State}
use Rattle.engine.specs.declared.issue.Issue.{Issue}
use Rattle.engine.specs.Answers.{is_write}
use Rattle.engine.specs.Legal.{IsLegal}
use Rattle.engine.specs.Running.{Origin}
use Rattle.messages.specs.declared.body.Body.TheVariants as bodies
use Rattle.messages.specs.declared.packet.PacketParts.{PacketParts}
use Rattle.messages.specs.Laws.{IsPacket}
use Rattle.messages.specs.declared.refusal.Act.TheVariants as acts
use Rattle.server_core.specs.Inputs.{PacketInput}
use Rattle.server_core.specs.History.{Opening, Entry, Met}
use Rattle.server_core.specs.Request.{Request, request_of}
use Rattle.server_core.specs.Texts.{jobs_for}
use Rattle.server_core.specs.Run.{Work, is_halted, history}
use Rattle.server_core.specs.Words.{Staged, is_on, boot, last_run, staged_run, work, due}
use Rattle.server_core.specs.Taken.{state_taken, takes, takings}
use Rattle.server_core.specs.Check.{Check, With, check, progress}
use Rattle.server_core.specs.Answers.{packets, issue, act, shown_entries}
use Rattle.server_core.specs.Accepted.{IsTaking}
use Rattle.server_core.specs.Heard.{IsHeard, AreStatesKept}
use Rattle.server_core.specs.Ranges.{CameInRange, OpensInRange}

-- The last run and the boot never fall.
abbrev pub NumbersGrow : Type 0
NumbersGrow =
    (opening : Opening) (e : Entry) (past : List Entry) →
    (last_run opening past ≤ last_run opening (e ∷ past))
    × (boot opening past ≤ boot opening (e ∷ past))

-- A Start that is recorded is of a lower run than each that is due later: so each run is started
-- once.
abbrev pub StartsOnce : Type 0
StartsOnce =
    (opening : Opening) (older between : List Entry) (e f : PacketInput) (left : SaveOutcome) (s t : Staged) →
    has_new left ≡ true → due opening older e ≡ Some s
    → due opening (between ++ Met e left ∷ older) f ≡ Some t → s.run < t.run

-- A run at work is the last run, of this server and boot.
pub record IsPresent (me now_boot last : ℕ) (w : Work) : Type 0 where
  pub server : w.server ≡ me
  pub boot_is : w.boot ≡ now_boot
  pub run : w.run ≡ last

-- The present run is the last run, of this server and boot.
abbrev pub PresentIsLast : Type 0
PresentIsLast =
    (opening : Opening) (past : List Entry) (w : Work) →
    work opening past ≡ Some w → IsPresent opening.me (boot opening past) (last_run opening past) w

-- A run's job is taken at most once.
abbrev pub TakenAtMostOnce : Type 0
TakenAtMostOnce = (opening : Opening) (run j : ℕ) (past : List Entry) →
    length (takings opening run j past) ≤ 1

-- A server that is on shows all that came to it.
abbrev pub LooksAtAll : Type 0
LooksAtAll = (past : List Entry) → is_on past ≡ true → shown_entries past ≡ past

-- A taken state has the key of the last run, and is the one that was ever taken of it.
pub record IsTheTaken (opening : Opening) (past : List Entry) (j : ℕ) (state : State) : Type 0 where
  pub key : state.key ≡ record { run = last_run opening past; server = opening.me; job = j }
  pub one : takings opening (last_run opening past) j past ≡ state ∷ []

-- Each state that a server holds is the one that was taken.
abbrev pub HoldsTheTaken : Type 0
HoldsTheTaken =
    (opening : Opening) (past : List Entry) (j : ℕ) (state : State) →
    state_taken opening past j ≡ Some state → IsTheTaken opening past j state

-- Each state that a server sends is the one that was taken.
abbrev pub SendsTheTaken : Type 0
SendsTheTaken =
    (opening : Opening) (past : List Entry) (e : Entry) (p : PacketParts) (jobs : ℕ)
    (state : State) →
    Contains (packets opening past e) p → p.body ≡ bodies.State jobs state
    → (j : ℕ) × IsTheTaken opening (e ∷ past) j state

-- The present run has so many jobs.
pub record HasJobs (opening : Opening) (list : List Entry) (jobs : ℕ) : Type 0 where
  pub now : Work
  pub works : work opening list ≡ Some now
  pub number : jobs ≡ length now.jobs

-- A State tells how many jobs the present run has.
abbrev pub StatesTellJobs : Type 0
StatesTellJobs =
    (opening : Opening) (past : List Entry) (e : Entry) (p : PacketParts) (jobs : ℕ)
    (state : State) →
    Contains (packets opening past e) p → p.body ≡ bodies.State jobs state →
    HasJobs opening (e ∷ past) jobs

-- This run is the present one and has come to its end, has so many jobs, and no state of this one
-- was ever taken.
pub record IsUntaken (opening : Opening) (list : List Entry) (run j jobs : ℕ) : Type 0 where
  pub now : Work
  pub works : work opening list ≡ Some now
  pub run_is : run ≡ now.run
  pub number : jobs ≡ length now.jobs
  pub over : is_halted now ≡ true
  pub none : takings opening run j list ≡ []

-- A NoState is of a job of the present run of which no state was taken.
abbrev pub NoStateIsUntaken : Type 0
NoStateIsUntaken =
    (opening : Opening) (past : List Entry) (e : Entry) (p : PacketParts) (run j jobs : ℕ) →
    Contains (packets opening past e) p → p.body ≡ bodies.NoState run j jobs
    → IsUntaken opening (e ∷ past) run j jobs

-- The run isn't worked on, or has come to its end.
abbrev pub IsOver : ℕ → Option Work → Type 0
IsOver run None = Unit {0}
IsOver run (Some w) = w.run ≡ run → is_halted w ≡ true

-- Once a run has come to its end, no state of it is taken any more.
abbrev pub TakingsStay : Type 0
TakingsStay =
    (opening : Opening) (run j : ℕ) (newer list : List Entry) →
    run ≤ last_run opening list → IsOver run (work opening list)
    → takings opening run j (newer ++ list) ≡ takings opening run j list

-- A set of jobs: 1 to 16, each within its limits, and its seed and pattern within their widths.
pub record IsSet (jobs : List Job) : Type 0 where
  pub within : AreWithinLimits jobs
  pub widths : AllByRecursion FitsItsWidths jobs

-- The jobs that a text gives are a set.
abbrev pub TextsGiveSets : Type 0
TextsGiveSets =
    (phase : Phase) (text : List ℕ) (jobs : List Job) → jobs_for phase text ≡ Ok jobs → IsSet jobs

-- The jobs that are staged are a set.
abbrev pub StagingsHaveSets : Type 0
StagingsHaveSets =
    (opening : Opening) (past : List Entry) (s : Staged) → staged_run opening past ≡ Some s →
    IsSet s.jobs

-- The jobs of the present run are a set.
abbrev pub RunsHaveSets : Type 0
RunsHaveSets = (opening : Opening) (past : List Entry) (w : Work) → work opening past ≡ Some w →
    IsSet w.jobs

-- The jobs of the open check are a set.
abbrev pub ChecksHaveSets : Type 0
ChecksHaveSets =
    (opening : Opening) (past : List Entry) (c : Check) → check opening past ≡ Some c → IsSet c.jobs

-- The history of a job that is within its limits is legal, so that an engine can stand for it.
abbrev pub HistoriesAreLegal : Type 0
HistoriesAreLegal =
    (origin : Origin) (since : List Request) →
    IsTrue (is_within_limits origin.job) → IsLegal origin.job (history origin since)

-- A state that was ever taken was taken once its run was started, and counts exactly the writes
-- that were completed between.
abbrev pub CountsTheDone : Type 0
CountsTheDone =
    (opening : Opening) (run j : ℕ) (list : List Entry) (state : State) →
    Contains (takings opening run j list) state → IsTaking opening run j list state

-- The answer gives a write.
abbrev pub gives_write : Option Issue → Bool
gives_write None = false
gives_write (Some answer) = is_write answer

-- Behind a taking of a run no write is issued, of any job or run, for as long as the last run is
-- that one.
abbrev pub QuietWhileLast : Type 0
QuietWhileLast =
    (opening : Opening) (older between : List Entry) (trigger e : PacketInput) (was : SaveOutcome) (run j : ℕ)
    (state : State) →
    takes run j (request_of opening.me trigger) (work opening older) ≡ Some state
    → last_run opening (between ++ Met trigger was ∷ older) ≡ run
    → gives_write (issue opening (between ++ Met trigger was ∷ older) e) ≡ false

-- Between a taking of a run and any moment at which a job is checked with a state of that run, no
-- write is issued, of any job or run.
abbrev pub QuietUntilChecked : Type 0
QuietUntilChecked =
    (opening : Opening) (older between newer : List Entry) (trigger e : PacketInput) (was left : SaveOutcome)
    (run j i : ℕ) (state with_it : State) →
    takes run j (request_of opening.me trigger) (work opening older) ≡ Some state
    → progress opening (newer ++ Met e left ∷ (between ++ Met trigger was ∷ older)) i
    ≡ Some (With with_it)
    → with_it.key.run ≡ run
    → gives_write (issue opening (between ++ Met trigger was ∷ older) e) ≡ false

-- A state that a job is checked with is of the last run and fits the job, and the client sent it in
-- this life.
abbrev pub WithWasHeard : Type 0
WithWasHeard =
    (opening : Opening) (past : List Entry) (j : ℕ) (state : State) →
    progress opening past j ≡ Some (With state) → IsHeard opening past j state

-- A server asks for the cut only once the client has told of each job of the run that its state is
-- kept.
abbrev pub CutsWhenKept : Type 0
CutsWhenKept = (opening : Opening) (past : List Entry) (e : PacketInput) → act opening past e ≡ acts.Cut
    → AreStatesKept opening past e

-- A server sends at most 16 packets in answer to one input.
abbrev pub PacketsAreFew : Type 0
PacketsAreFew = (opening : Opening) (past : List Entry) (e : Entry) →
    length (packets opening past e) ≤ MAX_JOBS

-- The packets that a server sends are within the ranges of packets, where what came is within its.
abbrev pub PacketsAreInRange : Type 0
PacketsAreInRange =
    (opening : Opening) (past : List Entry) (e : Entry) →
    OpensInRange opening → CameInRange (e ∷ past) → AllByRecursion IsPacket (packets opening past e)
