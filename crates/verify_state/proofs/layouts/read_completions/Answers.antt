use Rattle.std.proofs.Common.{ℕ, ◌<◌, ◌+◌, ◌*◌, length, arith}
use Rattle.std.specs.Int.{w64}
use Rattle.std.proofs.lemmas.List.FromFn.{fill_by_all}
use Rattle.verify_state.specs.Reading.{field}
use Rattle.verify_state.proofs.layouts.read_completions.Goals as goal

pub returns : goal.returns
returns c =
    let n = length c.args.completions.now in
    fill_by_all (λ k. field w64 (100 + 8 * k) c.args.bytes.now) c.loop-i.completions n 0 (omega arith)
    (λ (k : ℕ) (h : k < n). c.loop-i.invariant.filled k (omega arith))
