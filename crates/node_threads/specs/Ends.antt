-- The ends of a fleet's checks, by server and job.
use Rattle.std.specs.Prelude.{◌≡◌, ℕ, ◌+◌, ◌≤◌, ◌==◌, ◌&&◌, min, List, [], ◌∷◌, ◌++◌, length, map, Option, Some, IfNone, All, slice_get}
use Rattle.std.specs.List.{find}
use Rattle.std.specs.Option.{option_map, option_map_or}
use Rattle.fc_base.specs.declared.limits.TheConstants.{MAX_JOBS}
use Rattle.fc_base.specs.declared.report.ReportParts.{ReportParts}
use Rattle.fc_base.specs.Counted.{numbers_below}
use Rattle.job_file.specs.declared.job.Job.{Job}
use Rattle.server_core.specs.Answers.{shown_entries, status}
use Rattle.server_core.specs.Check.{check, progress, Refused}
use Rattle.server_core.specs.Hearing.{FrameEntry, packets_heard}
use Rattle.server_core.specs.History.{Opening, Entry}
use Rattle.cells.specs.ServerCells.{ServerLog, IsReplay}
use Rattle.client_core.specs.declared.received.Received.{Received}
use Rattle.node_threads.specs.declared.ends.CheckEnd.{CheckEnd}

-- The place of an end: its server and its job.
abbrev pub place_of : CheckEnd → ℕ × ℕ
place_of end = (end.server, end.job)

-- The places of this many jobs of a server, from the first on.
abbrev pub jobs_of : ℕ → ℕ → List (ℕ × ℕ)
jobs_of server count = map (λ job. (server, job)) (numbers_below count)

-- The jobs of the servers from a number on, where each has so many.
abbrev pub jobs_by_server : ℕ → List ℕ → List (ℕ × ℕ)
jobs_by_server first [] = []
jobs_by_server first (count ∷ counts) = jobs_of first count ++ jobs_by_server (first + 1) counts

-- Of the reports that came, that of this attempt, server and job, if it came.
abbrev pub report_of : List Received → ℕ → ℕ → ℕ → Option ReportParts
report_of came attempt server job =
    option_map (λ r. r.report) (find
    (λ r. (r.attempt == attempt) && ((r.server == server) && (r.job == job))) came)

-- The jobs of a server's open check, none where there is no check.
abbrev pub jobs_checked : Opening → List Entry → List Job
jobs_checked opening past = option_map_or (λ c. c.jobs) (check opening past) []

-- There is a server of this number, and this holds of it.
abbrev pub IsAt : List ServerLog → ℕ → (ServerLog → Type 0) → Type 0
IsAt cells server Holds = (cell : ServerLog) × (slice_get cells server ≡ Some cell) × Holds cell

-- By its history, a server has an open check of this attempt, of so many jobs, 16 at most.
pub record Checks (attempt count : ℕ) (cell : ServerLog) : Type 0 where
  pub past : List FrameEntry
  pub replay : IsReplay cell past
  pub attempt_is : (status cell.opening (shown_entries (packets_heard cell.opening past))).attempt
      ≡ attempt
  pub jobs_are : min MAX_JOBS (length
      (jobs_checked cell.opening (shown_entries (packets_heard cell.opening past)))) ≡ count
  pub some : 1 ≤ count

-- By its history, a server has refused the state that came for a job of its open check.
pub record Refuses (job : ℕ) (cell : ServerLog) : Type 0 where
  pub past : List FrameEntry
  pub replay : IsReplay cell past
  pub fault : ℕ
  pub is_refused : progress cell.opening (shown_entries (packets_heard cell.opening past)) job
      ≡ Some (Refused fault)

-- The end of a server's job has the report that came of it in this attempt; where none came, the
-- server has refused its state.
pub record IsEndAt (cell : ServerLog) (came : List Received) (attempt : ℕ)
    (end : CheckEnd) : Type 0 where
  pub report_is : end.report ≡ report_of came attempt end.server end.job
  pub none_is : IfNone end.report (Refuses end.job cell)

-- An end has the report that came of its job in this attempt; where none came, the server that it
-- names has refused the job's state.
abbrev pub IsEnd : List ServerLog → List Received → ℕ → CheckEnd → Type 0
IsEnd cells came attempt end = IsAt cells end.server (λ cell. IsEndAt cell came attempt end)

-- The ends are those of so many of these servers, server by server: of each job that a server
-- checks in this attempt.
pub record AreEnds (cells : List ServerLog) (came : List Received) (attempt servers : ℕ)
    (ends : List CheckEnd) : Type 0 where
  pub counts : List ℕ
  pub servers_are : length counts ≡ servers
  pub jobs_are : (server count : ℕ) → slice_get counts server ≡ Some count
      → IsAt cells server (Checks attempt count)
  pub places : map place_of ends ≡ jobs_by_server 0 counts
  pub ends_are : All (IsEnd cells came attempt) ends

-- The ends of one server more were added.
pub record AddsEnds (cells : List ServerLog) (came : List Received) (attempt server : ℕ)
    (before after : List CheckEnd) : Type 0 where
  pub count : ℕ
  pub jobs_are : IsAt cells server (Checks attempt count)
  pub places : map place_of after ≡ map place_of before ++ jobs_of server count
  pub ends_are : All (IsEnd cells came attempt) before → All (IsEnd cells came attempt) after
