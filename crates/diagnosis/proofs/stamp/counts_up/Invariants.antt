use Rattle.std.proofs.Common.{◌≡◌, ℕ, ◌+◌, ◌%◌, ◌<◌, get_or}
use Rattle.diagnosis.proofs.stamp.counts_up.Given as goal

abbrev pub invariant-loop-byte : goal.invariant-loop-byte
invariant-loop-byte l = record {
  next : l.next ≡ (l.from + l.byte-index) % 256;
  counts : (k : ℕ) → k < l.byte-index → get_or l.bytes k 0 ≡ (l.from + k) % 256;
}
