use Rattle.std.proofs.Common.{◌≡◌, ◌<◌, ◌≤◌, ◌+◌, ℕ, true}
use Rattle.recheck.specs.Faults.{is_checked}
use Rattle.filters.proofs.checking.wanted_from.Given as goal

-- All have to be checked of so many.
abbrev pub invariant-loop-count : goal.invariant-loop-count
invariant-loop-count l = (b : ℕ) → l.first ≤ b → b < l.first + l.count → is_checked l.check.expected b ≡ true
