use Rattle.fleet_threads.specs.Seats.{IsSeatOf}
use Rattle.fleet_threads.proofs.turn.wait.Given as goal

abbrev pub invariant-loop : goal.invariant-loop
invariant-loop g l = IsSeatOf l.fn.seat l.seat

abbrev pub invariant-loop-order : goal.invariant-loop-order
invariant-loop-order g l = IsSeatOf l.fn.seat l.seat
