-- The words of a report.
use Rattle.std.specs.Prelude.{ℕ, List, [], ◌∷◌, ◌++◌, map, codes, decimal}
use Rattle.fc_base.specs.declared.report.ReportEnd.{ReportEnd}
use Rattle.fc_base.specs.declared.report.ReportEnd.TheVariants.{Whole, AtFault, ReadFault}
use Rattle.fc_base.specs.declared.report.ReportParts.{ReportParts}

-- The blocks of a report, or `-`.
abbrev pub block_words : List ℕ → List (List ℕ)
block_words [] = codes "-" ∷ []
block_words blocks = map decimal blocks

-- How a check ended.
abbrev pub end_words : ReportEnd → List (List ℕ)
end_words Whole = codes "whole" ∷ []
end_words AtFault = codes "fault" ∷ []
end_words (ReadFault block) = codes "read" ∷ decimal block ∷ []

-- The words of a report.
abbrev pub report_words : ReportParts → List (List ℕ)
report_words report =
    (codes "checked" ∷ decimal report.checked ∷ codes "faults" ∷ decimal report.faults ∷ codes "end"
    ∷ [])
    ++ (end_words report.end ++ (codes "first" ∷ block_words report.first))
