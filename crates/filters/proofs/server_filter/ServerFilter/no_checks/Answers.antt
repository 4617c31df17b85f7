use Rattle.std.proofs.Common.{List, Option, sym, subst, arith}
use Rattle.filters.specs.declared.checking.Checking.{Checking}
use Rattle.filters.specs.ServerAt.{no_checks as none_under_way}
use Rattle.filters.specs.CheckRuns.{AreChecks}
use Rattle.filters.proofs.KeptLemmas.{push_none}
use Rattle.filters.proofs.server_filter.ServerFilter.no_checks.Goals as goal

pub loop-preserved : goal.loop-preserved
loop-preserved c = record {
  wide = omega (arith, c.in_ok-push.ensures.len, c.loop.invariant.wide);
  none = subst (λ (l : List (Option Checking)). AreChecks l none_under_way) (sym c.in_ok-push.ensures.items)
      (push_none c.loop.checks.items c.loop.invariant.none);
}
