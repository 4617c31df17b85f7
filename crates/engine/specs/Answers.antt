-- The answers of an engine, read from the history of its job and from whether it was stopped.
use Rattle.std.specs.Prelude.{◌≡◌, ℕ, ◌==◌, Bool, true, false, not, ◌&&◌, ◌||◌, nat_le, List, length, if◌then◌else◌, Option, Some, None, Result, Ok, Err}
use Rattle.fc_base.specs.Counted.{has}
use Rattle.fc_base.specs.Keys.{is_same_key}
use Rattle.fc_base.specs.declared.fault.Fault.{Fault}
use Rattle.fc_base.specs.declared.fault.Fault.TheVariants.{OldBoot, NotInFlight}
use Rattle.write_order.specs.Blocks.{block_of}
use Rattle.engine.specs.History.{Event, issue, issued, in_flight, open_writes}
use Rattle.engine.specs.Kept.{is_held, after_issue}
use Rattle.engine.specs.declared.issue.Ticket.{Ticket}
use Rattle.engine.specs.declared.issue.Issue.{Issue}
use Rattle.engine.specs.declared.issue.Issue.TheVariants.{Write, Full, Held, Overlap, Finished, Stopped}
use Rattle.engine.specs.Legal.{has_failed, any_goes_to}
use Rattle.engine.specs.Running.{Origin, Running, Adds}

-- The ticket of write k.
abbrev pub ticket_of : Origin → ℕ → Ticket
ticket_of origin k = record {
  boot = origin.boot;
  key = origin.key;
  seq = k;
  block = block_of origin.job k;
}

-- The first that applies: the job was stopped or a write has failed; all writes were issued; depth
-- writes are in flight; one of them lies a window or more below the next write; one of them goes to
-- the next write's block. Else the next write.
abbrev pub answer_by : Origin → Bool → Bool → ℕ → List ℕ → Issue
answer_by origin stopped failed next writes =
    if stopped || failed then Stopped
    else (if nat_le origin.job.total next then Finished
    else (if nat_le origin.job.depth (length writes) then Full
    else (if is_held origin.job.window next writes then Held
    else (if any_goes_to origin.job (block_of origin.job next) writes then Overlap
    else Write (ticket_of origin next)))))

-- What `issue` answers, by the history.
abbrev pub answer_to : Origin → Bool → List Event → Issue
answer_to origin stopped h = answer_by origin stopped (has_failed h) (issued h) (in_flight h)

-- What `issue` answers, by what the engine keeps.
abbrev pub answer_of : Running → Issue
answer_of running =
    let kept = running.kept in
    answer_by running.origin running.stopped running.failed kept.issued kept.in_flight

-- What an answer to `issue` leaves.
abbrev pub after_answer : Running → Issue → Running
after_answer running (Write ticket) = record running { kept = after_issue running.kept }
after_answer running _ = running

-- A write that is issued is added to each history that the engine stood for; any other answer
-- changes nothing.
abbrev pub AddsAnswer : Running → Running → Issue → Type 0
AddsAnswer old new (Write ticket) = Adds old new (issue ticket.seq)
AddsAnswer old new _ = new ≡ old

-- The answer is a write.
abbrev pub is_write : Issue → Bool
is_write (Write ticket) = true
is_write _ = false

-- No write is open, and none can be issued: so no event can come that would change this.
abbrev pub has_ended : Origin → Bool → List Event → Bool
has_ended origin stopped h =
    (length (open_writes h) == 0) && not (is_write (answer_to origin stopped h))

-- No write is open, and none can be issued, by what the engine keeps.
abbrev pub ended_of : Running → Bool
ended_of running = (length running.kept.open_writes == 0) && not (is_write (answer_of running))

-- A ticket names one of these writes by its key, number and block.
abbrev pub names_one_of : Origin → List ℕ → Ticket → Bool
names_one_of origin writes ticket =
    is_same_key ticket.key origin.key
    && (has writes ticket.seq && (block_of origin.job ticket.seq == ticket.block))

-- What `done` and `failed` answer to a ticket: one of another boot is refused, and then one that
-- names none of the open writes.
abbrev pub ticket_answer : Origin → List ℕ → Ticket → Result Unit Fault
ticket_answer origin open_writes ticket =
    if not (ticket.boot == origin.boot) then Err OldBoot
    else (if names_one_of origin open_writes ticket then Ok tt else Err NotInFlight)

-- The ticket of write k, where it is one of the open writes.
abbrev pub open_ticket : Origin → List ℕ → ℕ → Option Ticket
open_ticket origin open_writes k = if has open_writes k then Some (ticket_of origin k) else None
