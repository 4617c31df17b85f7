use Rattle.std.proofs.Common.{◌≡◌, ◌≤◌}
use Rattle.diagnosis.specs.Pieces.{unknown_below}
use Rattle.diagnosis.proofs.pieces.count_unknown.Given as goal

abbrev pub invariant-loop-number : goal.invariant-loop-number
invariant-loop-number l = record {
  count : l.count ≡ unknown_below l.expected l.bytes l.number;
  few : l.count ≤ l.number;
}
