use Rattle.server_core.proofs.SetLemmas.{text_set, staged_set, run_set, check_set}
use Rattle.server_core.proofs.LegalLemmas.{history_legal, some_window}
use Rattle.server_core.proofs.law.legal_histories.Goals as goal

pub returns-clause-texts : goal.returns-clause-texts
returns-clause-texts c = text_set c.jobs_are_within_limits.ensures c.jobs_fit.ensures

pub returns-clause-stagings : goal.returns-clause-stagings
returns-clause-stagings c = staged_set (text_set c.jobs_are_within_limits.ensures c.jobs_fit.ensures)

pub returns-clause-runs : goal.returns-clause-runs
returns-clause-runs c = run_set (text_set c.jobs_are_within_limits.ensures c.jobs_fit.ensures)

pub returns-clause-checks : goal.returns-clause-checks
returns-clause-checks c = check_set (text_set c.jobs_are_within_limits.ensures c.jobs_fit.ensures)

pub returns-clause-histories : goal.returns-clause-histories
returns-clause-histories c origin since h =
    history_legal c.legal_law.ensures.writes c.legal_law.ensures.ends origin since (some_window origin.job h)
