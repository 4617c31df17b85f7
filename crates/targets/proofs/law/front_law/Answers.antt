use Rattle.targets.proofs.FrontLemmas.{histories_are_one, histories_go_on, orders_go_on, ordered_are_issued, told_are_counted, ordered_are_open}
use Rattle.targets.proofs.FrontBytes.{fronts_are_behind}
use Rattle.targets.proofs.law.front_law.Goals as goal

pub returns-clause-one : goal.returns-clause-one
returns-clause-one c = histories_are_one

pub returns-clause-behind : goal.returns-clause-behind
returns-clause-behind c = fronts_are_behind c.sets_law.ensures.in_flight c.sets_law.ensures.open_writes

pub returns-clause-history : goal.returns-clause-history
returns-clause-history c = histories_go_on

pub returns-clause-orders : goal.returns-clause-orders
returns-clause-orders c = orders_go_on

pub returns-clause-issued : goal.returns-clause-issued
returns-clause-issued c = ordered_are_issued

pub returns-clause-counted : goal.returns-clause-counted
returns-clause-counted c = told_are_counted c.taken_law.ensures

pub returns-clause-open_writes : goal.returns-clause-open_writes
returns-clause-open_writes c = ordered_are_open c.sets_law.ensures.in_flight c.sets_law.ensures.open_writes
