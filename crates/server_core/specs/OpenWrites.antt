-- The open writes of a run: where they come from, and their tickets.
use Rattle.std.specs.Prelude.{◌≡◌, ℕ, List, Option, Some, None, slice_get, if◌then◌else◌}
use Rattle.std.specs.Option.{option_map}
use Rattle.fc_base.specs.Counted.{has}
use Rattle.job_file.specs.declared.job.Job.{Job}
use Rattle.engine.specs.History.{open_writes}
use Rattle.engine.specs.declared.issue.Ticket.{Ticket}
use Rattle.engine.specs.Running.{Origin}
use Rattle.engine.specs.Answers.{ticket_of}
use Rattle.server_core.specs.History.{Opening, Entry}
use Rattle.server_core.specs.Run.{Work, origin_of, history}
use Rattle.server_core.specs.Words.{work}
use Rattle.server_core.specs.Answers.{job_of_run}

-- Where write k of this job comes from, if it is open.
abbrev pub open_origin_of : Work → ℕ → ℕ → Option Job → Option Origin
open_origin_of w j k None = None
open_origin_of w j k (Some job) =
    let origin = origin_of w j job in
    if has (open_writes (history origin w.since)) k then Some origin else None

-- Where write k of job j of a run comes from, if it is open.
abbrev pub open_origin : Option Work → ℕ → ℕ → Option Origin
open_origin None j k = None
open_origin (Some w) j k = open_origin_of w j k (slice_get w.jobs j)

-- The ticket of write k of job j of a run, if it is open.
abbrev pub open_ticket : Option Work → ℕ → ℕ → Option Ticket
open_ticket now j k = option_map (λ origin. ticket_of origin k) (open_origin now j k)

-- The ticket of write k of job j of the present run, if it is open.
abbrev pub open_write : Opening → List Entry → ℕ → ℕ → Option Ticket
open_write opening past j k = open_ticket (work opening past) j k

-- Where a write comes from, as its ticket and its job tell.
abbrev pub origin_told : Option Ticket → Option Job → Option Origin
origin_told (Some ticket) (Some job) =
    Some (record { boot = ticket.boot; key = ticket.key; job = job.rec })
origin_told (Some ticket) None = None
origin_told None job = None

-- The ticket of an open write and its job tell where it comes from, and there is no ticket of any
-- other.
abbrev pub TicketsTellOrigins : Type 0
TicketsTellOrigins =
    (now : Option Work) (j k : ℕ) →
    open_origin now j k ≡ origin_told (open_ticket now j k) (job_of_run now j)
