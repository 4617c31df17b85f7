-- What an engine shows of itself, and the histories that it stands for.
use Rattle.std.specs.Prelude.{◌≡◌, ℕ, Bool, true, List, ◌∷◌}
use Rattle.fc_base.specs.declared.numbers.Key.{Key}
use Rattle.fc_base.specs.declared.record.JobParts.{JobParts}
use Rattle.engine.specs.History.{Event}
use Rattle.engine.specs.Kept.{Kept, kept_of}
use Rattle.engine.specs.Kept as window
use Rattle.engine.specs.Legal.{IsLegal, has_failed}

-- Where an engine's writes come from: the boot of its server, the key of the job, and its settings.
pub record Origin : Type 0 where
  pub boot : ℕ
  pub key : Key
  pub job : JobParts

-- The origin of the writes, whether `stop` was called, whether a write has failed, and what the
-- window keeps.
pub record Running : Type 0 where
  pub origin : Origin
  pub stopped : Bool
  pub failed : Bool
  pub kept : Kept

-- All that an engine keeps of a history. That it was stopped is no event of the history.
abbrev pub running_of : Origin → Bool → List Event → Running
running_of origin stopped h = record {
  origin = origin;
  stopped = stopped;
  failed = has_failed h;
  kept = kept_of origin.job.depth origin.job.window h;
}

-- An engine stands for a history that is legal for its job, and of which it keeps just that.
pub record StandsFor (running : Running) (h : List Event) : Type 0 where
  pub legal : IsLegal running.origin.job h
  pub running_is : running ≡ running_of running.origin running.stopped h

-- P holds of each history that the engine stands for.
abbrev pub EachHistory : Running → (List Event → Type 0) → Type 0
EachHistory running P = (h : List Event) → StandsFor running h → P h

-- For each history that the old engine stands for, the new one stands for it with the event added.
abbrev pub Adds : Running → Running → Event → Type 0
Adds old new event = EachHistory old (λ h. StandsFor new (event ∷ h))

-- What the completion of a write leaves.
abbrev pub after_done : Running → ℕ → Running
after_done running k = record running { kept = window.after_done running.kept k }

-- What the failure of a write leaves.
abbrev pub after_fail : Running → ℕ → Running
after_fail running k = record running { failed = true; kept = window.after_fail running.kept k }
