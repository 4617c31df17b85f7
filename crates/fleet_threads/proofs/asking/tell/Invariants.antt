use Rattle.std.specs.Prelude.{◌≡◌}
use Rattle.fleet_threads.specs.Seats.{IsSeatOf}
use Rattle.fleet_threads.proofs.asking.tell.Given as goal

abbrev pub invariant-loop : goal.invariant-loop
invariant-loop g l = record {
  seat : IsSeatOf l.fn.seat l.seat;
  none : l.seat.applied ≡ l.fn.seat.applied;
}
