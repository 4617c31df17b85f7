-- How the reports are held: in their order, beside a set of what names each. No public contract
-- cites this.
use Rattle.std.specs.Prelude.{◌≡◌, Bool, ◌==◌, ◌&&◌, List}
use Rattle.client_core.specs.declared.received.Received.{Received}
use Rattle.client_core.specs.declared.reports.ReportKey.{ReportKey}
use Rattle.client_core.specs.Reports.{has_report}

-- Both are of one attempt, server and job.
abbrev pub is_same_report : ReportKey → ReportKey → Bool
is_same_report a b = (a.attempt == b.attempt) && ((a.server == b.server) && (a.job == b.job))

-- The keys are those of which there is a report.
abbrev pub AreKeysOf : List Received → (ReportKey → Bool) → Type 0
AreKeysOf reports has_key =
    (key : ReportKey) → has_key key ≡ has_report key.attempt key.server key.job reports
