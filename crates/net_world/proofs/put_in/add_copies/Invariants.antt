use Rattle.std.proofs.Common.{◌≡◌, ◌++◌, take}
use Rattle.std.specs.Prelude.{map}
use Rattle.net_world.specs.Events.{happening}
use Rattle.net_world.proofs.put_in.add_copies.Given as goal

abbrev pub invariant-loop-event : goal.invariant-loop-event
invariant-loop-event l = map happening l.all.items ≡ map happening l.initial.all.items ++ map happening (take l.event-index l.fn.events)
