-- The state that is taken of a job.
use Rattle.std.specs.Prelude.{◌≡◌, ℕ, List}
use Rattle.fc_base.specs.Counted.{has}
use Rattle.write_order.specs.Places.{place}
use Rattle.engine.specs.History.{Event, issued, is_done, recent}
use Rattle.verify_state.specs.State.{State, state_of}
use Rattle.engine.specs.Running.{Origin, Running}

-- The state of a history: its key and job, the number of writes issued, the generator's place after
-- as many writes, and the last two windows of completions.
abbrev pub state_after : Origin → List Event → State
state_after origin h =
    let job = origin.job in
    state_of origin.key job (issued h) (place job (issued h)) (recent job.window h)

-- The state of a job, by what its engine keeps.
abbrev pub state_now : Running → State
state_now running =
    let job = running.origin.job in
    let kept = running.kept in
    state_of running.origin.key job kept.issued (place job kept.issued) kept.recent

-- A write counts exactly where it has completed.
abbrev pub CountsTheDone : State → List Event → Type 0
CountsTheDone state h = (k : ℕ) → has state.counted k ≡ is_done h k
