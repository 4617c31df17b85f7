use Rattle.std.specs.Prelude.{◌≡◌, ◌+◌, length}
use Rattle.fleet_threads.specs.Seats.{IsSeatOf}
use Rattle.fleet_threads.proofs.asking.tell_and_ask.Given as goal

abbrev pub invariant-loop-at : goal.invariant-loop-at
invariant-loop-at g l = record {
  seat : IsSeatOf l.fn.seat l.seat;
  told : l.told ≡ l.at;
  each : l.seat.applied + l.fn.told ≡ l.fn.seat.applied + l.at;
  given : length l.given.items ≡ length l.fn.given.items;
}
