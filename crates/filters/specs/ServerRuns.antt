-- The steps of a server's filter. Only the proofs go by these.
use Rattle.std.specs.Prelude.{◌≡◌, ◌<◌, ◌≤◌, ◌+◌, ℕ, Bool, true, false, List, ◌++◌, Option, Some, None, Result, Ok, Err, slice_get}
use Rattle.fc_base.specs.declared.fault.Fault.{Fault}
use Rattle.fc_base.specs.declared.limits.TheConstants.{MAX_WRITES}
use Rattle.job_file.specs.declared.job.Job.{Job}
use Rattle.engine.specs.History.{issued}
use Rattle.server_core.specs.History.{Opening}
use Rattle.server_core.specs.Hearing.{FrameEntry, packets_heard}
use Rattle.server_core.specs.Run.{Work, history, origin_of}
use Rattle.server_core.specs.Words.{work}
use Rattle.server_core.specs.FrameEnds.{note_in}
use Rattle.filters.specs.declared.server_filter.ServerFilter.{ServerFilter}
use Rattle.filters.specs.declared.node_step.NodeStep.{NodeStep}
use Rattle.filters.specs.Written.{Written, Puts}
use Rattle.filters.specs.Kept.{note_kept}
use Rattle.filters.specs.Records.{end_bytes}
use Rattle.filters.specs.NodeTells.{answer_bytes}
use Rattle.filters.specs.ServerOrders.{GivesNone, AreAllGiven}
use Rattle.filters.specs.ServerAt.{ServerAt}
use Rattle.filters.specs.ServerTurns.{Turns}
use Rattle.filters.specs.CheckRuns.{IsHere}

-- Some turns were taken, and this holds of where the server was and is.
abbrev pub TurnsTo : (Opening → ServerAt → ServerAt → Type 0) → Opening → ServerAt → ServerAt
    → List ℕ → Type 0
TurnsTo P opening at now written = Turns opening at now written × P opening at now

-- How many writes of job j of a run were issued.
abbrev pub issued_of_job : Work → ℕ → Option Job → ℕ
issued_of_job w j None = 0
issued_of_job w j (Some job) = issued (history (origin_of w j job) w.since)

-- How many writes of job j of a run were issued, none where there is no run.
abbrev pub issued_by : Option Work → ℕ → ℕ
issued_by None j = 0
issued_by (Some w) j = issued_of_job w j (slice_get w.jobs j)

-- How many writes of job j of the present run were issued, by the list of what came.
abbrev pub issued_at : Opening → List FrameEntry → ℕ → ℕ
issued_at opening past j = issued_by (work opening (packets_heard opening past)) j

-- Job j was asked for a write: it gave one more; or it would give none.
abbrev pub Asked : ℕ → Bool → Opening → ServerAt → ServerAt → Type 0
Asked j true opening at now =
    (issued_at opening now.list j ≡ issued_at opening at.list j + 1)
    × (issued_at opening now.list j ≤ MAX_WRITES)
Asked j false opening at now = GivesNone opening now.list j

-- Job j gave so many writes.
abbrev pub Gave : ℕ → ℕ → Opening → ServerAt → ServerAt → Type 0
Gave j n opening at now =
    (n ≤ issued_at opening now.list j) × (0 < n → issued_at opening now.list j ≤ MAX_WRITES)

-- An answer is written, with what follows from it and the end; or just the fault, and the filter
-- stays as it was.
abbrev pub WritesAnswer : Result NodeStep Fault → ServerFilter → ServerFilter → Written
    → Written → Type 0
WritesAnswer (Ok a) filter after old new =
    (written : List ℕ)
    × Puts old new (answer_bytes (note_in note_kept filter.server).bytes a
    ++ (written ++ end_bytes (Ok tt)))
    × ((opening : Opening) (at : ServerAt) → IsHere filter opening at →
    (now : ServerAt) × IsHere after opening now
    × TurnsTo (λ opening at now. AreAllGiven opening now.list) opening at now written)
WritesAnswer (Err fault) filter after old new =
    Puts old new (end_bytes (Err fault)) × (after ≡ filter)
