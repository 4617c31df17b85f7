use Rattle.std.proofs.Common.{◌≡◌, length, sym, ap, ◌∙◌, arith}
use Rattle.diagnosis.specs.Damage.{is_near}
use Rattle.diagnosis.proofs.DamageLemmas.{found_at, none_found}
use Rattle.diagnosis.proofs.damage.is_near_in_flight.Goals as goal

pub returns-then-is_near : goal.returns-then-is_near
returns-then-is_near c =
    let same : c.in_flight-write-items.result.now ≡ c.args.expected.now.in_flight = c.in_flight-write-items.ensures in
    sym (found_at (is_near c.args.expected.now c.args.block c.args.bytes.now) c.args.block c.args.expected.now.in_flight c.loop-write.write-index c.write-item.result
    (omega (arith, c.loop-write-test.true, ap length same))
    (rw (← same) c.write-item.is) c.if-write-block.true (sym c.is_near.ensures ∙ c.if-is_near.true))

pub returns : goal.returns
returns c =
    let same : c.in_flight-write-items.result.now ≡ c.args.expected.now.in_flight = c.in_flight-write-items.ensures in
    sym (none_found (is_near c.args.expected.now c.args.block c.args.bytes.now) c.args.block c.args.expected.now.in_flight c.loop-write.write-index
    (omega (arith, c.loop-write-test.false, ap length same)) c.loop-write.invariant)
