use Rattle.std.proofs.Common.{sym, ◌∙◌, arith}
use Rattle.targets.specs.Units.{is_unit_of}
use Rattle.targets.proofs.UnitLemmas.{found_at, none_found}
use Rattle.targets.proofs.units.is_unit_in_flight.Goals as goal

pub returns-then-is_unit_of-clause-value : goal.returns-then-is_unit_of-clause-value
returns-then-is_unit_of-clause-value c =
    sym (found_at (is_unit_of c.args.expected.now c.args.unit c.args.block c.args.bytes.now c.args.number) c.args.block c.args.writes.now
    c.loop-write.write-index c.write-item.result c.loop-write-test.true c.write-item.is c.if-write-block.true
    (sym c.is_unit_of.ensures.value ∙ c.if-is_unit_of.true))

pub returns-clause-value : goal.returns-clause-value
returns-clause-value c =
    sym (none_found (is_unit_of c.args.expected.now c.args.unit c.args.block c.args.bytes.now c.args.number) c.args.block c.args.writes.now
    c.loop-write.write-index (omega (arith, c.loop-write-test.false)) c.loop-write.invariant.none)
