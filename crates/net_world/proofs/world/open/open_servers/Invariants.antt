use Rattle.net_world.specs.Opened.{AreOpened}
use Rattle.net_world.proofs.world.open.open_servers.Given as goal

abbrev pub invariant-loop-me : goal.invariant-loop-me
invariant-loop-me l = AreOpened l.me l.nodes.items
