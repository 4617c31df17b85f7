use Rattle.std.proofs.Common.{ℕ, ◌<◌, length, refl, arith}
use Rattle.diagnosis.proofs.SectorLemmas.{stops_at, counts_at_all}
use Rattle.diagnosis.proofs.stamp.counts_up.Goals as goal

pub returns-then-byte-next : goal.returns-then-byte-next
returns-then-byte-next c =
    let bytes = c.args.bytes.now in
    let i = c.loop-byte.byte-index in
    stops_at c.args.from (length bytes) i bytes _ c.loop-byte.next (omega arith) refl c.loop-byte.invariant.next c.if-byte-next.true

pub returns : goal.returns
returns c =
    let bytes = c.args.bytes.now in
    counts_at_all c.args.from (length bytes) bytes refl (λ (k : ℕ) (lt : k < length bytes). c.loop-byte.invariant.counts k (omega arith))
