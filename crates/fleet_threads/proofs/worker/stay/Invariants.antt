use Rattle.fleet_threads.specs.Seats.{IsSeatOf}
use Rattle.fleet_threads.proofs.worker.stay.Given as goal

abbrev pub invariant-loop-turn : goal.invariant-loop-turn
invariant-loop-turn g l = IsSeatOf l.fn.seat l.seat
