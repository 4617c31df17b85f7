use Rattle.filters.specs.CheckRuns.{IsHere}
use Rattle.filters.specs.ServerRuns.{Gave, TurnsTo}
use Rattle.filters.specs.Steps.{AnswersBy}
use Rattle.filters.proofs.server_filter.ServerFilter.order_all.Given as goal

-- As many writes as turns were given, and ordered.
abbrev pub invariant-loop : goal.invariant-loop
invariant-loop g l =
    AnswersBy (TurnsTo (Gave l.fn.job l.counter)) (IsHere l.initial.self) (IsHere l.self) (g.W.Output.written l.initial.writer)
    (g.W.Output.written l.writer)
