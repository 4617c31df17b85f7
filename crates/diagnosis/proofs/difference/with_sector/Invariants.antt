use Rattle.std.proofs.Common.{◌≡◌, ℕ, ◌+◌, ◌*◌, ◌≤◌, List, take, drop}
use Rattle.diagnosis.specs.Differences.{difference_at, differing_below}
use Rattle.diagnosis.proofs.difference.with_sector.Given as goal

abbrev pub invariant-loop-i : goal.invariant-loop-i
invariant-loop-i l = record {
  value : (others : List ℕ) → take 512 (drop (l.number * 512) others) ≡ l.sector → l.fn.found ≡ difference_at l.bytes others (differing_below l.bytes others (l.number * 512))
      → l.sum ≡ difference_at l.bytes others (differing_below l.bytes others (l.number * 512 + l.i));
  few : l.sum.bytes ≤ l.number * 512 + l.i;
  bits : l.sum.bits ≤ 8 * (l.number * 512 + l.i);
}
