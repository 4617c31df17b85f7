use Rattle.client_core.proofs.TextLemmas.{one_text_of_a_run, one_text_of_an_attempt}
use Rattle.client_core.proofs.law.one_text.Goals as goal

pub returns-clause-runs : goal.returns-clause-runs
returns-clause-runs c = one_text_of_a_run

pub returns-clause-attempts : goal.returns-clause-attempts
returns-clause-attempts c = one_text_of_an_attempt
