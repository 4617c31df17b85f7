use Rattle.std.proofs.Common.{◌/◌, sym, ap, ◌∙◌}
use Rattle.write_order.specs.Stamps.{written_bytes}
use Rattle.write_order.proofs.StampSteps.{stamps_are-bytes}
use Rattle.write_order.proofs.stamp.fill_block.Goals as goal

pub returns-in-Stamp-clause-bytes : goal.returns-in-Stamp-clause-bytes
returns-in-Stamp-clause-bytes c =
    stamps_are-bytes c.args.key c.args.rec.now c.args.seq c.args.block _ _ _ (sym c.in-Stamp.ensures) c.stamp.ensures
    (ap (λ n. n / 512) c.bs.ensures.value) c.fill_stamps.ensures

pub returns-in-Stamp-clause-of_write : goal.returns-in-Stamp-clause-of_write
returns-in-Stamp-clause-of_write c own =
    returns-in-Stamp-clause-bytes c ∙ ap (written_bytes c.args.key c.args.rec.now c.args.seq) own
