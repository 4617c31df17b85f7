use Rattle.engine.proofs.HistoryLemmas.{stays_in_one_window}
use Rattle.engine.proofs.window_law.in_flight_law.Goals as goal

pub returns : goal.returns
returns c = stays_in_one_window
