use Rattle.fleet_threads.specs.Seats.{IsSeatOf}
use Rattle.fleet_threads.proofs.worker.work.Given as goal

abbrev pub invariant-loop : goal.invariant-loop
invariant-loop g l = record {
  forever : (goal.iterator-loop g).can_next l.iterator' × (goal.iterator-loop g).is_finite l.iterator';
  seat : IsSeatOf l.fn.seat l.seat;
}
