use Rattle.std.proofs.Common.{ℕ, ◌<◌}
use Rattle.filters.specs.ServerOrders.{GivesNone}
use Rattle.filters.specs.CheckRuns.{IsHere}
use Rattle.filters.specs.ServerTurns.{Turns}
use Rattle.filters.specs.ServerRuns.{TurnsTo}
use Rattle.filters.specs.Steps.{AnswersBy}
use Rattle.filters.proofs.server_filter.ServerFilter.go_on.Given as goal

-- So many jobs would be given no write any more.
abbrev pub invariant-loop-job : goal.invariant-loop-job
invariant-loop-job g l =
    AnswersBy (TurnsTo (λ o at now. (j : ℕ) → j < l.job → GivesNone o now.list j))
    (IsHere l.initial.self) (IsHere l.self) (g.W.Output.written l.initial.writer) (g.W.Output.written l.writer)

-- Some checks were begun.
abbrev pub invariant-loop-job-2 : goal.invariant-loop-job-2
invariant-loop-job-2 g l =
    AnswersBy Turns (IsHere l.initial.self) (IsHere l.self) (g.W.Output.written l.initial.writer) (g.W.Output.written l.writer)
