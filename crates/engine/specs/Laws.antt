-- What holds of every legal history of a job.
use Rattle.std.specs.Prelude.{◌≡◌, ℕ, ◌<◌, ◌≤◌, Bool, true, false, IsTrue, List, [], ◌∷◌, Ok}
use Rattle.fc_base.specs.Counted.{has}
use Rattle.fc_base.specs.declared.record.JobParts.{JobParts}
use Rattle.write_order.specs.Blocks.{block_of}
use Rattle.engine.specs.History.{Event, issue, done, fail, issued, is_done, in_flight, open_writes}
use Rattle.engine.specs.declared.issue.Ticket.{Ticket}
use Rattle.engine.specs.declared.issue.Issue.TheVariants.{Write, Finished, Stopped}
use Rattle.engine.specs.Legal.{IsLegal, has_failed}
use Rattle.engine.specs.Running.{Origin}
use Rattle.engine.specs.Answers.{ticket_of, answer_to, ticket_answer}
use Rattle.engine.specs.Taken.{state_after, CountsTheDone}

-- With no open write, a job that was not stopped, has not failed and has a write left issues it.
abbrev pub AlwaysGoesOn : Type 0
AlwaysGoesOn =
    (origin : Origin) (h : List Event) →
    IsLegal origin.job h → 1 ≤ origin.job.depth
    → open_writes h ≡ [] → has_failed h ≡ false → issued h < origin.job.total
    → answer_to origin false h ≡ Write (ticket_of origin (issued h))

-- A write that is answered is the next one, and its issue may be added.
abbrev pub WritesAreLegal : Type 0
WritesAreLegal =
    (origin : Origin) (stopped : Bool) (h : List Event) (ticket : Ticket) →
    1 ≤ origin.job.window → IsLegal origin.job h → answer_to origin stopped h ≡ Write ticket
    → (ticket ≡ ticket_of origin (issued h)) × IsLegal origin.job (issue ticket.seq ∷ h)

-- A write whose ticket is accepted is open, and its completion or failure may be added.
abbrev pub EndsAreLegal : Type 0
EndsAreLegal =
    (origin : Origin) (h : List Event) (ticket : Ticket) →
    IsLegal origin.job h → ticket_answer origin (open_writes h) ticket ≡ Ok tt
    → IsTrue (has (open_writes h) ticket.seq)
    × IsLegal origin.job (done ticket.seq ∷ h)
    × IsLegal origin.job (fail ticket.seq ∷ h)

-- The state after a history counts exactly its completions.
abbrev pub StatesCountTheDone : Type 0
StatesCountTheDone =
    (origin : Origin) (h : List Event) → IsLegal origin.job h
    → CountsTheDone (state_after origin h) h

-- A write waits for each earlier one to its block.
abbrev pub LaterWaits : Type 0
LaterWaits =
    (job : JobParts) (h : List Event) (j k : ℕ) →
    IsLegal job h → j < k → k < issued h → block_of job j ≡ block_of job k → is_done h j ≡ true

-- No two writes in flight go to one block.
abbrev pub FlyApart : Type 0
FlyApart =
    (job : JobParts) (h : List Event) (j k : ℕ) →
    IsLegal job h → IsTrue (has (in_flight h) j) → IsTrue (has (in_flight h) k)
    → block_of job j ≡ block_of job k → j ≡ k

-- A job that was stopped, or has failed, stays so, whatever is added.
abbrev pub StaysStopped : Type 0
StaysStopped =
    (origin : Origin) (stopped : Bool) (event : Event) (h : List Event) →
    answer_to origin stopped h ≡ Stopped → answer_to origin stopped (event ∷ h) ≡ Stopped

-- A job that has issued all its writes stays so. Only the failure of one changes the answer, to
-- Stopped.
abbrev pub StaysFinished : Type 0
StaysFinished =
    (origin : Origin) (stopped : Bool) (event : Event) (h : List Event) →
    IsLegal origin.job (event ∷ h) → answer_to origin stopped h ≡ Finished
    → has_failed (event ∷ h) ≡ false → answer_to origin stopped (event ∷ h) ≡ Finished
