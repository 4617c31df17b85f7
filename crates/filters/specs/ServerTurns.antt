-- What a server's filter does of itself: it orders writes, and makes checks.
use Rattle.std.specs.Prelude.{◌≡◌, ◌⊎◌, ℕ, ◌==◌, ◌&&◌, Bool, false, List, [], ◌++◌, Option, Some, None, Result, Ok, Err, IsTrue}
use Rattle.std.specs.Int.{w32, w64}
use Rattle.fc_base.specs.Layouts.{bytes_of}
use Rattle.fc_base.specs.Fault.{sort_of}
use Rattle.fc_base.specs.declared.fault.Fault.{Fault}
use Rattle.fc_base.specs.declared.fault.FaultSort.TheVariants.{Memory}
use Rattle.fc_base.specs.declared.numbers.Key.{Key}
use Rattle.fc_base.specs.declared.record.JobParts.{JobParts}
use Rattle.fc_base.specs.declared.report.ReportParts.{ReportParts}
use Rattle.fc_base.specs.Report.{is_report}
use Rattle.write_order.specs.Stamps.{written_bytes}
use Rattle.engine.specs.declared.issue.Ticket.{Ticket}
use Rattle.engine.specs.declared.issue.Issue.{Issue as Answer}
use Rattle.engine.specs.declared.issue.Issue.TheVariants.{Write}
use Rattle.job_file.specs.declared.job.Job.{Job}
use Rattle.verify_state.specs.State.{State}
use Rattle.recheck.specs.Expected.{expected_by}
use Rattle.server_core.specs.Inputs.{FrameInput}
use Rattle.server_core.specs.declared.input.Input.TheVariants.{Issue, CheckDone}
use Rattle.server_core.specs.declared.status.Status.{Status}
use Rattle.server_core.specs.History.{Opening}
use Rattle.server_core.specs.Check.{Progress, Full, With, progress}
use Rattle.server_core.specs.Answers.{shown_entries, run_job, check_job, status}
use Rattle.server_core.specs.Hearing.{FrameEntry, packets_heard}
use Rattle.server_core.specs.FrameAnswers.{refusal, issue}
use Rattle.filters.specs.declared.kinds.OutRecordKind.TheVariants.{Order, Want}
use Rattle.filters.specs.Kinds.{said_number}
use Rattle.filters.specs.Records.{record_bytes}
use Rattle.filters.specs.UnderWay.{UnderWay, IsOver, WantsMore}
use Rattle.filters.specs.ServerAt.{ServerAt, Leaves, at_by, taken_bytes, with_check}
use Rattle.filters.specs.Lives.{Lives}

-- Which write is ordered: its run, its job, its number, and the block that it goes to.
abbrev pub order_name : Key → ℕ → ℕ → List ℕ
order_name key k b =
    bytes_of w64 key.run ++ (bytes_of w32 key.job ++ (bytes_of w64 k ++ bytes_of w32 b))

-- The order of a write: which it is and where it goes, and the bytes of its block.
abbrev pub order_bytes : Ticket → JobParts → List ℕ
order_bytes ticket job =
    record_bytes (said_number Order) (order_name ticket.key ticket.seq ticket.block
    ++ written_bytes ticket.key job ticket.seq ticket.block)

-- The order of a write, where that is what was answered.
abbrev pub order_if : Answer → JobParts → List ℕ
order_if (Write ticket) job = order_bytes ticket job
order_if _ job = []

-- What is ordered for an answer to a request for a write of a job of the present run.
abbrev pub ordered : Option Answer → Option Job → List ℕ
ordered (Some answer) (Some job) = order_if answer job.rec
ordered (Some answer) None = []
ordered None job = []

-- What is ordered, by why the request is refused, if it is.
abbrev pub ordered_by : Option Fault → Opening → List FrameEntry → ℕ → List ℕ
ordered_by None opening past j =
    ordered (issue opening past (Issue j))
    (run_job opening (shown_entries (packets_heard opening past)) j)
ordered_by (Some fault) opening past j = []

-- Which blocks are wanted: attempt, job, the first one, how many, and how many bytes one has.
abbrev pub want_bytes : ℕ → ℕ → ℕ → ℕ → ℕ → List ℕ
want_bytes a j first count size =
    record_bytes (said_number Want)
    (bytes_of w64 a ++ (bytes_of w32 j ++ (bytes_of w32 first ++ (bytes_of w32 count
    ++ bytes_of w32 size))))

-- What is told to the server is taken, as the list says, by why it is refused, if it is.
abbrev pub TellsBy : Option Fault → Opening → ServerAt → FrameInput → Result (Unit {0}) Fault
    → ServerAt → List ℕ → Type 0
TellsBy None opening at e end now answer =
    (end ≡ Ok tt) × Leaves (at_by None opening at e) (taken_bytes opening at.list e) now answer
TellsBy (Some fault) opening at e end now answer =
    (end ≡ Err fault) × Leaves (at_by (Some fault) opening at e) [] now answer

-- What is told to the server is taken as the list says; or memory is wanting for that.
abbrev pub TellsIt : Opening → ServerAt → FrameInput → Result (Unit {0}) Fault → ServerAt → List ℕ
    → Type 0
TellsIt opening at e end now answer =
    TellsBy (refusal opening at.list e) opening at e end now answer
    ⊎ ((fault : Fault) × (sort_of fault ≡ Memory) × (end ≡ Err fault) × Leaves at [] now answer)

-- A check of job j is no longer under way, and its report, whose numbers fit together, is told.
abbrev pub TellsReport : Opening → ServerAt → ℕ → UnderWay → ReportParts
    → Result (Unit {0}) Fault → ServerAt → List ℕ → Type 0
TellsReport opening at j u r end now answer =
    IsTrue (is_report r)
    × TellsIt opening (with_check j None at) (CheckDone u.boot u.attempt j r) end now answer

-- A check of job j goes on: the next blocks are wanted; or it is over, and its report is told.
abbrev pub GoesOn : Opening → ServerAt → ℕ → UnderWay → Result (Unit {0}) Fault → ServerAt
    → List ℕ → Type 0
GoesOn opening at j u end now answer =
    ((first count : ℕ) × WantsMore u first count × (end ≡ Ok tt)
    × Leaves (with_check j (Some (record u { first = first; count = count })) at)
    (want_bytes u.attempt j first count u.expected.job.bs) now answer)
    ⊎ ((r : ReportParts) × IsOver u r × TellsReport opening at j u r end now answer)

-- The state that a check is made with, where it may be made: none for a full pass.
abbrev pub ready_by : Option Progress → Option (Option State)
ready_by (Some Full) = Some None
ready_by (Some (With state)) = Some (Some state)
ready_by _ = None

-- A check of this attempt and boot is under way.
abbrev pub is_under_way : ℕ → ℕ → Option UnderWay → Bool
is_under_way boot attempt None = false
is_under_way boot attempt (Some u) = (u.attempt == attempt) && (u.boot == boot)

-- A check of job j that begins: the server's words say that it may be made, and by which state and
-- which job; it isn't under way; and no block came yet.
pub record IsNew (opening : Opening) (at : ServerAt) (j : ℕ) (u : UnderWay) : Type 0 where
  pub shown : Status
  pub job : Job
  pub state : Option State
  pub shown_is : shown ≡ status opening (shown_entries (packets_heard opening at.list))
  pub is_job : check_job opening (shown_entries (packets_heard opening at.list)) j ≡ Some job
  pub ready : ready_by (progress opening (shown_entries (packets_heard opening at.list)) j)
      ≡ Some state
  pub other : is_under_way shown.boot shown.attempt (at.checks j) ≡ false
  pub boot_is : u.boot ≡ shown.boot
  pub attempt_is : u.attempt ≡ shown.attempt
  pub expected_is : u.expected
      ≡ expected_by (record { run = shown.last_run; server = opening.me; job = j }) job.rec state
  pub fatal_is : u.fatal ≡ job.fatal
  pub none_came : u.came ≡ []

-- A check of job j begins, and goes on.
pub record BeginsCheck (opening : Opening) (at : ServerAt) (j : ℕ) (now : ServerAt)
    (answer : List ℕ) : Type 0 where
  pub check : UnderWay
  pub end : Result (Unit {0}) Fault
  pub new : IsNew opening at j check
  pub goes : GoesOn opening at j check end now answer

-- A turn: a job is asked for its next write; the check of one begins.
pub data Turn : Type 0 where
  Asks : ℕ → Turn
  Begins : ℕ → Turn

-- What a turn leaves and writes.
abbrev pub TakesTurn : Opening → ServerAt → Turn → ServerAt → List ℕ → Type 0
TakesTurn opening at (Asks j) now answer =
    Leaves (at_by (refusal opening at.list (Issue j)) opening at (Issue j))
    (ordered_by (refusal opening at.list (Issue j)) opening at.list j) now answer
TakesTurn opening at (Begins j) now answer = BeginsCheck opening at j now answer

-- Some turns were taken.
abbrev pub Turns : Opening → ServerAt → ServerAt → List ℕ → Type 0
Turns opening at now written = (turns : List Turn) × Lives (TakesTurn opening) at turns now written
