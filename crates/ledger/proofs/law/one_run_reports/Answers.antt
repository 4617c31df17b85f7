use Rattle.ledger.proofs.CheckLemmas.{one_run_reports}
use Rattle.ledger.proofs.law.one_run_reports.Goals as goal

pub returns : goal.returns
returns c = one_run_reports
