-- How a run and a check are kept. No public contract cites this.
use Rattle.server_core.specs.declared.run.Run.TheInside.{Inside}
use Rattle.server_core.specs.Run.{Work}
use Rattle.server_core.specs.Kept.{Kept, RunIs}

-- What the fields of a run show.
abbrev pub kept_in : Inside → Kept
kept_in run = record { number = run.number; end = run.end; jobs = run.jobs; kept = run.kept.items }

-- There is a run of which this is kept.
abbrev pub IsSomeRun : Inside → Type 0
IsSomeRun run = ∥ ((w : Work) × RunIs (kept_in run) w) ∥₁
