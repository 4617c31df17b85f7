use Rattle.std.proofs.Common.{ℕ, ◌<◌}
use Rattle.diagnosis.specs.Extents.{GoesWith}
use Rattle.diagnosis.proofs.extent.end_of_extent.Given as goal

abbrev pub invariant-loop-end : goal.invariant-loop-end
invariant-loop-end l =
    (number : ℕ) → l.from < number → number < l.end → GoesWith l.expected l.bytes l.from number
