use Rattle.std.proofs.Common.{◌≡◌, ◌<◌, ◌≤◌, ℕ, false}
use Rattle.recheck.specs.Faults.{is_checked}
use Rattle.filters.proofs.checking.first_wanted.Given as goal

-- None has to be checked of those before this one.
abbrev pub invariant-loop-block : goal.invariant-loop-block
invariant-loop-block l = (b : ℕ) → l.fn.from ≤ b → b < l.block → is_checked l.check.expected b ≡ false
