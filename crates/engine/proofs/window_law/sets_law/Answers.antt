use Rattle.std.proofs.Common.{not}
use Rattle.fc_base.specs.Counted.{has}
use Rattle.fc_base.specs.NumberLaws.{has_filter}
use Rattle.engine.specs.History.{failures, in_flight}
use Rattle.engine.proofs.HistoryLemmas.{has_in_flight, done_issued}
use Rattle.engine.proofs.window_law.sets_law.Goals as goal

pub returns-clause-in_flight : goal.returns-clause-in_flight
returns-clause-in_flight c = has_in_flight

pub returns-clause-open_writes : goal.returns-clause-open_writes
returns-clause-open_writes c h k = has_filter (λ j. not (has (failures h) j)) (in_flight h) k

pub returns-clause-completed : goal.returns-clause-completed
returns-clause-completed c = done_issued
