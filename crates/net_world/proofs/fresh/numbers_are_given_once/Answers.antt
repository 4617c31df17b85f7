use Rattle.net_world.proofs.TraceLemmas.{keeps_apart}
use Rattle.net_world.proofs.StartLemmas.{starts_are_accepted_once}
use Rattle.net_world.proofs.fresh.numbers_are_given_once.Goals as goal
use Rattle.net_world.specs.Trace.{client_opening, of_client}

pub returns-clause-runs : goal.returns-clause-runs
returns-clause-runs c w t trace = (c.numbers_are_given_once.ensures (client_opening w) (of_client w t) (keeps_apart w t trace)).runs

pub returns-clause-attempts : goal.returns-clause-attempts
returns-clause-attempts c w t trace = (c.numbers_are_given_once.ensures (client_opening w) (of_client w t) (keeps_apart w t trace)).attempts

pub returns-clause-starts : goal.returns-clause-starts
returns-clause-starts c = starts_are_accepted_once c.numbers_grow.ensures
