use Rattle.std.proofs.Common.{◌≡◌, ℕ, ◌+◌, ◌%◌, ◌<◌, get_or}
use Rattle.write_order.proofs.stamp.count_up.Given as goal

abbrev pub invariant-loop-byte : goal.invariant-loop-byte
invariant-loop-byte l = record {
  next : l.next ≡ (l.fn.from + l.byte-index) % 256;
  filled : (k : ℕ) → k < l.byte-index → get_or l.bytes k 0 ≡ (l.fn.from + k) % 256;
}
