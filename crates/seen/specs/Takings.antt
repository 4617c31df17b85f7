-- Where a verify state was taken, as far as it is seen.
use Rattle.std.specs.Prelude.{◌≡◌, ℕ, ◌<◌, true, List, ◌∷◌, ◌++◌, Some, Ok, is_ok, Contains}
use Rattle.fc_base.specs.Counted.{has}
use Rattle.fc_base.specs.declared.report.ReportParts.{ReportParts}
use Rattle.job_file.specs.declared.job.Job.{Job}
use Rattle.verify_state.specs.State.{State}
use Rattle.engine.specs.declared.issue.Issue.TheVariants.{Write}
use Rattle.engine.specs.declared.issue.Ticket.{Ticket}
use Rattle.messages.specs.declared.body.Body.TheVariants.{Report, Start, Started, Trigger, State as StateBody}
use Rattle.messages.specs.declared.refusal.Act.{Act}
use Rattle.net_world.specs.Happenings.{Done, Issue}
use Rattle.net_world.specs.declared.told.Told.{Told}
use Rattle.net_world.specs.declared.told.WorldAnswer.TheVariants.{Issued}
use Rattle.seen.specs.Observations.{Observation, frames_in}
use Rattle.seen.specs.Sightings.{Comes, IsAmong, IsSeen, from_server, to_server}
use Rattle.seen.specs.Texts.{job_of}

-- Among these, write k of job j was told done to its server, which didn't refuse that.
pub record IsDone (among : List Observation) (s j k : ℕ) : Type 0 where
  pub done : Observation
  pub there : Contains among done
  pub event : done.event ≡ Done s j k
  pub accepted : is_ok done.told ≡ true

-- Among these, a worker that asked server s for a write of job j was given write k.
pub record IsGiven (among : List Observation) (s j k : ℕ) : Type 0 where
  pub given : Observation
  pub there : Contains among given
  pub event : given.event ≡ Issue s j
  pub answer : Told
  pub told : given.told ≡ Ok answer
  pub ticket : Ticket
  pub write : answer.answer ≡ Issued (Write ticket)
  pub number : ticket.seq ≡ k

-- The server reports of a check of the run, with this.
pub record IsReported (o : Observation) (s run : ℕ) : Type 0 where
  pub attempt : ℕ
  pub job : ℕ
  pub jobs : ℕ
  pub report : ReportParts
  pub sent : IsAmong o.frames (from_server s (Report run attempt job jobs report))

-- No write is given by the server from these on up to a report of a check of the run.
abbrev pub IsQuiet : List Observation → ℕ → ℕ → Type 0
IsQuiet newer s run =
    (later between : List Observation) (o : Observation) → newer ≡ later ++ o ∷ between
    → IsReported o s run → (job write : ℕ) → IsGiven between s job write → ⊥

-- Where a state was taken: a Start came to the server of its key, which then said for the first
-- time that the run has started; then a Trigger of that run came, with which the server sent the
-- state. No state of its key was seen before. It has the settings of that job of the run's job
-- file, tells how many writes were given between the two, and counts exactly those that were done.
-- From then on the server gives no write before a report of a check of that run.
pub record IsTaken (seen : List Observation) (state : State) : Type 0 where
  pub newer : List Observation
  pub trigger : Observation
  pub between : List Observation
  pub start : Observation
  pub older : List Observation
  pub split : seen ≡ newer ++ trigger ∷ (between ++ start ∷ older)
  pub starts : Comes older start (to_server state.key.server (Start state.key.run))
  pub started : IsAmong start.frames (from_server state.key.server (Started state.key.run))
  pub started_first : IsAmong (frames_in older)
      (from_server state.key.server (Started state.key.run)) → ⊥
  pub act : Act
  pub triggers : Comes (between ++ start ∷ older) trigger
      (to_server state.key.server (Trigger state.key.run act))
  pub jobs : ℕ
  pub sent : IsAmong trigger.frames (from_server state.key.server (StateBody jobs state))
  pub seen_first :
      (other : State) → other.key ≡ state.key → IsSeen (between ++ start ∷ older) other → ⊥
  pub job : Job
  pub has_job : job_of state.key (between ++ start ∷ older) ≡ Some job
  pub settings : state.job ≡ job.rec
  pub issues :
      (k : ℕ) → k < state.issued → IsGiven between state.key.server state.key.job k
  pub issues_all :
      (k : ℕ) → IsGiven between state.key.server state.key.job k → k < state.issued
  pub counts :
      (k : ℕ) → has state.counted k ≡ true → IsDone between state.key.server state.key.job k
  pub counts_all :
      (k : ℕ) → IsDone between state.key.server state.key.job k → has state.counted k ≡ true
  pub quiet : IsQuiet newer state.key.server state.key.run
