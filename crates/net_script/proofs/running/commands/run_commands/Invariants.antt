use Rattle.std.proofs.Common.{◌≤◌, ◌+◌, ◌-◌, ◌^◌, List, length}
use Rattle.net_world.specs.Setup.{Setup}
use Rattle.net_world.specs.Happenings.{Happening}
use Rattle.net_world.specs.Stands.{StandsFor}
use Rattle.net_world.specs.World.{world}
use Rattle.net_script.specs.Left.{orders_left}
use Rattle.net_script.proofs.RunLemmas.{RunSoFar}
use Rattle.net_script.proofs.running.commands.run_commands.Given as goal

abbrev pub invariant-loop-order : goal.invariant-loop-order
invariant-loop-order g l =
    ((setup : Setup) (before : List Happening) → StandsFor setup (world setup before) l.initial.world
    → RunSoFar setup before (orders_left l.initial.orders) (orders_left l.orders) l.world (g.W.Write.contents l.initial.writer)
    (g.W.Write.contents l.writer) l.faults)
    × (l.orders.number + length l.orders.rest.now ≤ 2 ^ 64 - 1)

abbrev pub decreases-loop-order : goal.decreases-loop-order
decreases-loop-order g l = length l.orders.rest.now
