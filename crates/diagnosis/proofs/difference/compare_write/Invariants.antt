use Rattle.std.proofs.Common.{◌≡◌, ◌*◌, ◌≤◌}
use Rattle.write_order.specs.Stamps.{written_bytes}
use Rattle.diagnosis.specs.Differences.{difference_at, differing_below}
use Rattle.diagnosis.proofs.difference.compare_write.Given as goal

abbrev pub invariant-loop-number : goal.invariant-loop-number
invariant-loop-number l = record {
  value : l.found ≡ difference_at l.bytes (written_bytes l.key l.rec l.seq l.block) (differing_below l.bytes (written_bytes l.key l.rec l.seq l.block) (l.number * 512));
  few : l.found.bytes ≤ l.number * 512;
  bits : l.found.bits ≤ 8 * (l.number * 512);
}
