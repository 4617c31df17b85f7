-- What the bodies of servers are about.
use Rattle.std.specs.Prelude.{ℕ}
use Rattle.messages.specs.declared.body.Body.{Body}
use Rattle.messages.specs.declared.body.Body.TheVariants as bodies

-- The run whose requests a server answers by this, 0 where it answers none.
abbrev pub run_told : Body → ℕ
run_told (bodies.JobsOk run jobs) = run
run_told (bodies.Started run) = run
run_told (bodies.State jobs state) = state.key.run
run_told (bodies.NoState run job jobs) = run
run_told (bodies.Stopped run) = run
run_told (bodies.Refused r) = r.run
run_told _ = 0

-- The attempt that a server answers by this, 0 where it answers none.
abbrev pub attempt_told : Body → ℕ
attempt_told (bodies.Report run attempt job jobs report) = attempt
attempt_told (bodies.Refused r) = r.attempt
attempt_told _ = 0

-- A body is no report.
abbrev pub IsNoReport : Body → Type 0
IsNoReport (bodies.Report run attempt job jobs report) = ⊥
IsNoReport _ = Unit {0}
