use Rattle.ledger.proofs.ReportStoryLemmas.{place_entry, no_report}
use Rattle.ledger.proofs.law.place_law.Goals as goal

pub returns-clause-entries : goal.returns-clause-entries
returns-clause-entries c = place_entry

pub returns-clause-reports : goal.returns-clause-reports
returns-clause-reports c = no_report
