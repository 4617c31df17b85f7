use Rattle.std.proofs.Common.{◌≡◌, ◌≤◌, ◌*◌, take}
use Rattle.std.specs.Prelude.{sum_by}
use Rattle.attempt_ends.specs.PlaceEnds.{counts_by_state}
use Rattle.attempt_ends.proofs.conclusion.sums_of.Given as goal

abbrev pub invariant-loop-at : goal.invariant-loop-at
invariant-loop-at l = record {
  checked : l.checked ≡ sum_by (λ at. (counts_by_state at.end).checked) (take l.at-index l.ends);
  faults : l.faults ≡ sum_by (λ at. (counts_by_state at.end).faults) (take l.at-index l.ends);
  most : l.checked ≤ l.at-index * 4294967295;
  fewest : l.faults ≤ l.at-index * 4294967295;
}
