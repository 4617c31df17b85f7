use Rattle.std.proofs.Common.{◌≡◌, ◌*◌, ◌≤◌, length, sym, ap, ◌∙◌, arith}
use Rattle.std.specs.List.{flat_map, range_with_len}
use Rattle.std.proofs.lemmas.List.{take_all}
use Rattle.write_order.specs.Filling.{with_number}
use Rattle.write_order.proofs.StampSteps.{sectors-more, length-with_number}
use Rattle.write_order.proofs.stamp.fill_stamps.Goals as goal

pub loop-number-preserved : goal.loop-number-preserved
loop-number-preserved c =
    let within : c.loop-number.number * 512 ≤ length c.loop-number.bytes = omega arith in
    let len = ap length c.fill_sector.ensures ∙ length-with_number c.args.stamp.now c.loop-number.number c.told-stamp in
    sectors-more (with_number c.args.stamp.now) c.loop-number.number _ c.loop-number.bytes c.fill_sector.new.sector c.loop-number.invariant
    c.fill_sector.ensures len within

pub returns : goal.returns
returns c =
    let whole = take_all (c.loop-number.number * 512) c.loop-number.bytes (omega arith) in
    let last : c.loop-number.number ≡ c.args.sectors = omega arith in
    sym whole ∙ c.loop-number.invariant ∙ ap (λ n. flat_map (with_number c.args.stamp.now) (range_with_len 0 n)) last
