use Rattle.net_world.specs.Opened.{AreBlank}
use Rattle.net_world.proofs.world.open.open_files.Given as goal

abbrev pub invariant-loop : goal.invariant-loop
invariant-loop l = AreBlank l.counter l.disks.items
