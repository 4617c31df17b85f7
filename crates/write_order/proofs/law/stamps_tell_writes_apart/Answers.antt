use Rattle.std.proofs.Common.{sym, ap, ◌∙◌, take}
use Rattle.write_order.proofs.LawLemmas.{block_limits, same_stamps, first_sector_is}
use Rattle.write_order.proofs.law.stamps_tell_writes_apart.Goals as goal

pub returns-clause-sectors : goal.returns-clause-sectors
returns-clause-sectors c = same_stamps

pub returns-clause-blocks : goal.returns-clause-blocks
returns-clause-blocks c job other limits bounds stamps stamped key owner k l block at room space same =
    same_stamps _ _ room space
    (sym (first_sector_is key job k block (block_limits job limits).size stamps)
    ∙ ap (take 512) same ∙ first_sector_is owner other l at (block_limits other bounds).size stamped)
