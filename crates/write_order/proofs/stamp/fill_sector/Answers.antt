use Rattle.std.proofs.Common.{◌∙◌}
use Rattle.write_order.proofs.StampSteps.{with_number-from}
use Rattle.write_order.proofs.stamp.fill_sector.Goals as goal

pub returns : goal.returns
returns c =
    with_number-from _ _ c.args.stamp.now c.args.number c.copy_from_slice.ensures.after (c.copy_from_slice-2.ensures.after ∙ c.to_be_bytes.ensures)
