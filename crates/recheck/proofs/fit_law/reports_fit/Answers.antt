use Rattle.recheck.proofs.FitReports as lemmas
use Rattle.recheck.proofs.fit_law.reports_fit.Goals as goal

pub returns : goal.returns
returns c = lemmas.reports_fit
