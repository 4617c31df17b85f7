use Rattle.std.proofs.Common.{◌≡◌, ℕ, ◌+◌, ◌*◌, ◌<◌, get_or}
use Rattle.std.specs.Int.{w64}
use Rattle.verify_state.specs.Reading.{field}
use Rattle.verify_state.proofs.layouts.read_completions.Given as goal

abbrev pub invariant-loop-i : goal.invariant-loop-i
invariant-loop-i l = record {
  filled : (k : ℕ) → k < l.i → get_or l.completions k 0 ≡ field w64 (100 + 8 * k) l.bytes;
}
