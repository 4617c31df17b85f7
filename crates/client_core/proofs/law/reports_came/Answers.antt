use Rattle.client_core.proofs.ReportLemmas.{reports_came, one_report_each}
use Rattle.client_core.proofs.law.reports_came.Goals as goal

pub returns-clause-came : goal.returns-clause-came
returns-clause-came c = reports_came

pub returns-clause-one_each : goal.returns-clause-one_each
returns-clause-one_each c = one_report_each
