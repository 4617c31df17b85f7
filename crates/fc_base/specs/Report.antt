-- What a report of a check may say.
use Rattle.std.specs.Prelude.{Bool, true, ◌&&◌, ◌==◌, nat_le, min, length}
use Rattle.std.specs.List.{list_all}
use Rattle.fc_base.specs.Ascending.{is_block, ascends}
use Rattle.fc_base.specs.declared.limits.TheConstants.{MAX_BLOCKS, MAX_LISTED}
use Rattle.fc_base.specs.declared.report.ReportParts.{ReportParts}
use Rattle.fc_base.specs.declared.report.ReportEnd.{ReportEnd}
use Rattle.fc_base.specs.declared.report.ReportEnd.TheVariants.{Whole, AtFault, ReadFault}

-- At most 65,536 blocks were checked, and no more were faulty than checked.
abbrev pub has_counts : ReportParts → Bool
has_counts r = nat_le r.faults r.checked && nat_le r.checked MAX_BLOCKS

-- The first 32 faulty blocks are listed, ascending.
abbrev pub has_list : ReportParts → Bool
has_list r = (length r.first == min r.faults MAX_LISTED) && list_all is_block r.first
    && ascends r.first

-- A check that ends at a fault has found one, and a read fault is at a block.
abbrev pub has_end : ReportParts → Bool
has_end r = fits r.end
  where
    fits : ReportEnd → Bool
    fits Whole = true
    fits AtFault = r.faults == 1
    fits (ReadFault b) = is_block b

-- The numbers of a report fit together.
abbrev pub is_report : ReportParts → Bool
is_report r = has_counts r && has_list r && has_end r
