use Rattle.std.proofs.Common.{ℕ, ◌<◌, length, arith}
use Rattle.write_order.proofs.StampSteps.{counting_bytes-from}
use Rattle.write_order.proofs.stamp.count_up.Goals as goal

pub returns : goal.returns
returns c =
    let n = length c.args.bytes.now in
    counting_bytes-from c.args.from c.loop-byte.bytes n (omega arith) (λ (k : ℕ) (h : k < n). c.loop-byte.invariant.filled k (omega arith))
