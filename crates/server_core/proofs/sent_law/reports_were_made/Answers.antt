use Rattle.server_core.proofs.ReportedLemmas as lemmas
use Rattle.server_core.proofs.sent_law.reports_were_made.Goals as goal

pub returns : goal.returns
returns c = lemmas.reports_were_made
