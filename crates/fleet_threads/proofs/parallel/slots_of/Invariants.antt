use Rattle.std.proofs.Common.{◌≡◌, map}
use Rattle.fleet_threads.proofs.parallel.slots_of.Given as goal

abbrev pub invariant-loop-task : goal.invariant-loop-task
invariant-loop-task g l = map (λ slot. slot.task) l.slots.items ≡ l.yielded
