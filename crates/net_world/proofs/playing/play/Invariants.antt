use Rattle.std.proofs.Common.{take, reverse}
use Rattle.std.specs.Prelude.{map}
use Rattle.net_world.specs.Events.{happening}
use Rattle.net_world.specs.Setup.{setup_of}
use Rattle.net_world.specs.World.{world}
use Rattle.net_world.specs.Stands.{StandsFor}
use Rattle.net_world.proofs.playing.play.Given as goal

abbrev pub invariant-loop-event : goal.invariant-loop-event
invariant-loop-event l = StandsFor (setup_of l.fn.config) (world (setup_of l.fn.config) (map happening (reverse (take l.event-index l.events)))) l.world
