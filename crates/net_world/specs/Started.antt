-- Which Starts a server has accepted.
use Rattle.std.specs.Prelude.{ℕ, List, [], ◌∷◌, ◌++◌, Option, Some}
use Rattle.disk_model.specs.declared.save_outcome.SaveOutcome.{SaveOutcome}
use Rattle.disk_model.specs.declared.save_outcome.SaveOutcome.TheVariants.{Saved}
use Rattle.server_core.specs.History.{Opening, Entry, Met, Cut, Restart}
use Rattle.server_core.specs.Words.{Staged, due}

-- The run that an event starts: one that was due, where its save answered Ok.
abbrev pub started_by : SaveOutcome → Option Staged → List ℕ
started_by Saved (Some s) = s.run ∷ []
started_by _ _ = []

-- The runs of which a server has accepted a Start, over all its lives, the newest first.
abbrev pub started_runs : Opening → List Entry → List ℕ
started_runs opening [] = []
started_runs opening (Met e left ∷ past) =
    started_by left (due opening past e) ++ started_runs opening past
started_runs opening (Cut ∷ past) = started_runs opening past
started_runs opening (Restart left ∷ past) = started_runs opening past
