-- The history of a job is legal, so that an engine can stand for it.
use Rattle.std.proofs.Common.{◌≡◌, refl, ◌≤◌, arith, Bool, true, false, ◌&&◌, ◌==◌, List, [], ◌∷◌}
use Rattle.std.specs.Prelude.{if◌then◌else◌, nat_le, is_some, Result, Ok, Err}
use Rattle.std.proofs.lemmas.Bool.{and_parts, leb-true}
use Rattle.fc_base.specs.declared.limits.TheConstants.{MAX_DEPTH, MAX_WINDOW}
use Rattle.fc_base.specs.declared.fault.Fault.{Fault}
use Rattle.fc_base.specs.declared.record.JobParts.{JobParts}
use Rattle.fc_base.specs.JobParts.{is_within_limits, has_block_size, has_region, has_queue, has_pattern}
use Rattle.engine.specs.History as window
use Rattle.engine.specs.declared.issue.Ticket.{Ticket}
use Rattle.engine.specs.declared.issue.Issue.{Issue}
use Rattle.engine.specs.declared.issue.Issue.TheVariants as issues
use Rattle.engine.specs.Legal.{IsLegal}
use Rattle.engine.specs.Running.{Origin}
use Rattle.engine.specs.Answers.{answer_to, ticket_answer}
use Rattle.engine.specs.Laws.{WritesAreLegal, EndsAreLegal}
use Rattle.server_core.specs.declared.input.WriteEnd.{WriteEnd}
use Rattle.server_core.specs.declared.input.WriteEnd.TheVariants.{Done, Failed}
use Rattle.server_core.specs.Request.{Request, ToStage, ToStart, ToTrigger, ToMark, ToStop, ToVerify, ToHold, ToPassFully, ToIssue, ToEnd, ToReport, ToNobody}
use Rattle.server_core.specs.Run.{halt_of, with_issue, with_ticket, with_request, history}

answer_legal : WritesAreLegal → (origin : Origin) (stopped : Bool) (h : List window.Event) (answer : Issue) → 1 ≤ origin.job.window → IsLegal origin.job h
    → answer_to origin stopped h ≡ answer → IsLegal origin.job (with_issue answer h)
answer_legal writes origin stopped h (issues.Write ticket) some legal e = (writes origin stopped h ticket some legal e).1
answer_legal writes origin stopped h issues.Full some legal e = legal
answer_legal writes origin stopped h issues.Held some legal e = legal
answer_legal writes origin stopped h issues.Overlap some legal e = legal
answer_legal writes origin stopped h issues.Finished some legal e = legal
answer_legal writes origin stopped h issues.Stopped some legal e = legal

ticket_legal : EndsAreLegal → (origin : Origin) (h : List window.Event) (ticket : Ticket) (end : WriteEnd) (answer : Result (Unit {0}) Fault)
    → IsLegal origin.job h → ticket_answer origin (window.open_writes h) ticket ≡ answer
    → IsLegal origin.job (with_ticket answer end ticket.seq h)
ticket_legal ends origin h ticket Done (Ok u) legal e = (ends origin h ticket legal e).1
ticket_legal ends origin h ticket Failed (Ok u) legal e = (ends origin h ticket legal e).2
ticket_legal ends origin h ticket end (Err fault) legal e = legal

if_legal : (t : Bool) (job : JobParts) (new old : List window.Event) → IsLegal job new → IsLegal job old → IsLegal job (if t then new else old)
if_legal true job new old h k = h
if_legal false job new old h k = k

request_legal : WritesAreLegal → EndsAreLegal → (origin : Origin) (stopped : Bool) (x : Request) (h : List window.Event) → 1 ≤ origin.job.window
    → IsLegal origin.job h → IsLegal origin.job (with_request origin stopped x h)
request_legal writes ends origin stopped (ToIssue j) h some legal =
    if_legal (j == origin.key.job) origin.job (with_issue (answer_to origin stopped h) h) h
    (answer_legal writes origin stopped h (answer_to origin stopped h) some legal refl) legal
request_legal writes ends origin stopped (ToEnd ticket end) h some legal =
    ticket_legal ends origin h ticket end (ticket_answer origin (window.open_writes h) ticket) legal refl
request_legal writes ends origin stopped (ToStage r text) h some legal = legal
request_legal writes ends origin stopped (ToStart r) h some legal = legal
request_legal writes ends origin stopped (ToTrigger r act) h some legal = legal
request_legal writes ends origin stopped (ToMark r j) h some legal = legal
request_legal writes ends origin stopped (ToStop r) h some legal = legal
request_legal writes ends origin stopped (ToVerify r a text) h some legal = legal
request_legal writes ends origin stopped (ToHold a state) h some legal = legal
request_legal writes ends origin stopped (ToPassFully a j) h some legal = legal
request_legal writes ends origin stopped (ToReport b a j report) h some legal = legal
request_legal writes ends origin stopped ToNobody h some legal = legal

pub history_legal : WritesAreLegal → EndsAreLegal → (origin : Origin) (since : List Request) → 1 ≤ origin.job.window → IsLegal origin.job (history origin since)
history_legal writes ends origin [] some = record { by_window = tt; by_job = tt }
history_legal writes ends origin (x ∷ since) some =
    request_legal writes ends origin (is_some (halt_of origin.key.run since)) x (history origin since) some (history_legal writes ends origin since some)

pub some_window : (job : JobParts) → is_within_limits job ≡ true → 1 ≤ job.window
some_window job h =
    let most = and_parts (has_block_size job && has_region job && has_queue job) (has_pattern job) h in
    let queue = and_parts (has_block_size job && has_region job) (has_queue job) most.0 in
    let parts = and_parts (nat_le 1 job.depth && nat_le job.depth MAX_DEPTH) (nat_le job.depth job.window && nat_le job.window MAX_WINDOW) queue.1 in
    let one = leb-true 1 job.depth (and_parts (nat_le 1 job.depth) (nat_le job.depth MAX_DEPTH) parts.0).0 in
    let wide = leb-true job.depth job.window (and_parts (nat_le job.depth job.window) (nat_le job.window MAX_WINDOW) parts.1).0 in
    omega arith
