use Rattle.std.proofs.Common.{arith}
use Rattle.write_order.specs.Filling.{with_number}
use Rattle.write_order.proofs.StampSteps.{length-with_number}
use Rattle.write_order.proofs.HoldSteps.{differs, alike_more, alike_in_all}
use Rattle.write_order.proofs.holding.holds_stamps.Goals as goal

pub returns-then-not-has_sector : goal.returns-then-not-has_sector
returns-then-not-has_sector c =
    differs (with_number c.args.stamp.now) c.args.sectors c.loop-number.number c.args.bytes.now _ _
    (λ k. length-with_number c.args.stamp.now k c.told-stamp)
    c.loop-number-test.true c.fill_sector.ensures c.has_sector.ensures c.if-not-has_sector.true

pub loop-number-preserved : goal.loop-number-preserved
loop-number-preserved c =
    alike_more (with_number c.args.stamp.now) c.loop-number.number c.args.bytes.now _ _
    c.loop-number.invariant c.fill_sector.ensures c.has_sector.ensures c.if-not-has_sector.false

pub returns : goal.returns
returns c =
    alike_in_all (with_number c.args.stamp.now) c.args.sectors c.loop-number.number c.args.bytes.now
    (omega arith) c.requires c.loop-number.invariant
