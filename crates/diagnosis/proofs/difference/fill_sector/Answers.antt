use Rattle.std.proofs.Common.{sym, ◌∙◌}
use Rattle.diagnosis.proofs.DifferenceLemmas.{pattern_sector, stamp_sector}
use Rattle.diagnosis.proofs.difference.fill_sector.Goals as goal

pub returns-in-Pattern : goal.returns-in-Pattern
returns-in-Pattern c =
    pattern_sector c.args.key.now c.args.rec.now c.one_sector.result c.args.seq c.args.block c.args.number _ (sym c.in-Pattern.ensures) c.requires c.one_sector.ensures c.fill_block.ensures.bytes

pub returns-in-Stamp : goal.returns-in-Stamp
returns-in-Stamp c =
    stamp_sector c.args.key.now c.args.rec.now c.one_sector.result c.args.seq c.args.block c.args.number _ _ (sym c.in-Stamp.ensures) c.requires c.one_sector.ensures c.fill_block.ensures.bytes
    (c.copy_from_slice.ensures.after ∙ c.to_be_bytes.ensures)
