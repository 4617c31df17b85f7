use Rattle.std.proofs.Common.{◌≡◌, length}
use Rattle.filters.specs.ServerAt.{no_checks as none_under_way}
use Rattle.filters.specs.CheckRuns.{AreChecks}
use Rattle.filters.proofs.server_filter.ServerFilter.no_checks.Given as goal

-- So many jobs have none.
abbrev pub invariant-loop : goal.invariant-loop
invariant-loop l = record { wide : length l.checks.items ≡ l.counter; none : AreChecks l.checks.items none_under_way }
