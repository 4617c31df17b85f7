use Rattle.std.specs.Prelude.{◌≡◌, ◌+◌, nat_lt, true, Ok, length}
use Rattle.fleet_threads.specs.declared.asking.NextWrite.TheVariants.{Later}
use Rattle.fleet_threads.specs.declared.asking.TheConstants.{HAND}
use Rattle.fleet_threads.specs.Counts.{is_write}
use Rattle.fleet_threads.specs.Turns.{HasAsked}
use Rattle.fleet_threads.proofs.asking.ask_for_some.Given as goal

abbrev pub invariant-loop-count : goal.invariant-loop-count
invariant-loop-count g l = record {
  seat : HasAsked l.fn.seat l.seat (Ok l.last);
  each : l.seat.applied + length l.fn.given.items ≡ l.fn.seat.applied + length l.given.items;
  writes : is_write l.last ≡ nat_lt 0 l.count;
  first : l.count ≡ 0 → l.last ≡ Later;
  share : l.count ≡ 0 → l.share ≡ HAND;
  none : l.count ≡ 0 → length l.given.items ≡ length l.fn.given.items;
  place : nat_lt 0 l.count ≡ true → nat_lt (length l.fn.given.items) HAND ≡ true;
}
