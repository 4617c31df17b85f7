use Rattle.client_core.proofs.FreshLemmas.{runs_are_fresh, attempts_are_fresh}
use Rattle.client_core.proofs.law.numbers_are_fresh.Goals as goal

pub returns-clause-runs : goal.returns-clause-runs
returns-clause-runs c = runs_are_fresh

pub returns-clause-attempts : goal.returns-clause-attempts
returns-clause-attempts c = attempts_are_fresh
