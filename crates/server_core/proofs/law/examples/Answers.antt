use Rattle.server_core.proofs.ExampleLemmas.{starts_and_issues, takes_once, forgets_by_a_cut, saves_before_it_starts}
use Rattle.server_core.proofs.ExampleLemmas.{stops_for_good, checks_the_last_run, refuses_a_misfit}
use Rattle.server_core.proofs.law.examples.Goals as goal

pub returns-clause-starts : goal.returns-clause-starts
returns-clause-starts c = starts_and_issues

pub returns-clause-takes : goal.returns-clause-takes
returns-clause-takes c = takes_once

pub returns-clause-forgets : goal.returns-clause-forgets
returns-clause-forgets c = forgets_by_a_cut

pub returns-clause-saves : goal.returns-clause-saves
returns-clause-saves c = saves_before_it_starts

pub returns-clause-stops : goal.returns-clause-stops
returns-clause-stops c = stops_for_good

pub returns-clause-checks : goal.returns-clause-checks
returns-clause-checks c = checks_the_last_run

pub returns-clause-misfits : goal.returns-clause-misfits
returns-clause-misfits c = refuses_a_misfit
