-- What a trigger takes of a run, and all that was ever taken.
use Rattle.std.specs.Prelude.{ℕ, Bool, false, ◌&&◌, ◌==◌, List, [], ◌∷◌, Option, Some, None, slice_get, if◌then◌else◌}
use Rattle.job_file.specs.declared.job.Job.{Job}
use Rattle.verify_state.specs.State.{State}
use Rattle.engine.specs.Running.{Origin}
use Rattle.engine.specs.Taken.{state_after}
use Rattle.server_core.specs.History.{Opening, Entry, Met, Cut, Restart}
use Rattle.server_core.specs.Request.{Request, ToTrigger, request_of}
use Rattle.server_core.specs.Run.{Work, Halt, Triggered, Stopped, halt_of, origin_of, history}
use Rattle.server_core.specs.Words.{work}

-- The state of a job behind these requests.
unfoldable pub job_state : Origin → List Request → State
job_state origin before = state_after origin (history origin before)

-- The state of a job behind these requests, where the run has such a job j and it saves its state.
abbrev pub saved_state : Work → ℕ → Option Job → List Request → Option State
saved_state w j None before = None
saved_state w j (Some job) before =
    if job.save then Some (job_state (origin_of w j job) before) else None

-- The state of job j of a run behind these requests, where it saves one.
abbrev pub state_of_job : Work → ℕ → List Request → Option State
state_of_job w j before = saved_state w j (slice_get w.jobs j) before

-- The state that a halt has taken.
abbrev pub taken_by_halt : Work → ℕ → Option Halt → Option State
taken_by_halt w j None = None
taken_by_halt w j (Some (Triggered act before)) = state_of_job w j before
taken_by_halt w j (Some Stopped) = None

-- The state of job j that the trigger of the present run took.
abbrev pub taken_in : Option Work → ℕ → Option State
taken_in None j = None
taken_in (Some w) j = taken_by_halt w j (halt_of w.run w.since)

-- The state of job j that was taken in the present run.
abbrev pub state_taken : Opening → List Entry → ℕ → Option State
state_taken opening past j = taken_in (work opening past) j

-- The run that a request triggers.
abbrev pub triggers : ℕ → Request → Bool
triggers run (ToTrigger r act) = r == run
triggers run _ = false

-- The state of job j that a Trigger takes of a run: the one that finds it writing takes, and no
-- later.
abbrev pub takes_now : Bool → Work → ℕ → Option Halt → Option State
takes_now hits w j (Some halt) = None
takes_now hits w j None = if hits then state_of_job w j w.since else None

-- The state that a request takes of this run's job, where that is the present run.
abbrev pub takes : ℕ → ℕ → Request → Option Work → Option State
takes run j x None = None
takes run j x (Some w) =
    takes_now (triggers run x && (w.run == run)) w j (halt_of w.run w.since)

-- A state that is taken, before those that were.
abbrev pub and_those : Option State → List State → List State
and_those None states = states
and_those (Some state) states = state ∷ states

-- Every state that was ever taken of a run's job, the newest first.
abbrev pub takings : Opening → ℕ → ℕ → List Entry → List State
takings opening run j [] = []
takings opening run j (Met e left ∷ past) =
    and_those (takes run j (request_of opening.me e) (work opening past))
    (takings opening run j past)
takings opening run j (Cut ∷ past) = takings opening run j past
takings opening run j (Restart left ∷ past) = takings opening run j past
