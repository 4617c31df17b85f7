-- That a check's report is one.
use Rattle.std.specs.Prelude.{◌≤◌, ℕ, Bool, List, IsTrue}
use Rattle.std.specs.List.{range_with_len}
use Rattle.fc_base.specs.declared.limits.TheConstants.{MAX_BLOCKS}
use Rattle.fc_base.specs.Report.{is_report}
use Rattle.recheck.specs.Expected.{Expected}
use Rattle.recheck.specs.Report.{report}

-- The numbers of the report of a file's first blocks fit together, whatever they hold.
abbrev pub ReportsFit : Type 0
ReportsFit =
    (fatal : Bool) (e : Expected) (held : ℕ → List ℕ) (n : ℕ) → n ≤ MAX_BLOCKS →
    IsTrue (is_report (report fatal e held (range_with_len 0 n)))
