use Rattle.net_world.proofs.OpenedLemmas.{opened}
use Rattle.net_world.proofs.world.World.new.Goals as goal

pub returns : goal.returns
returns c = opened c.args.config _ c.requires.some c.requires.few c.in_ok-servers.ensures c.in_ok-client.ensures c.in_ok-mirror.ensures c.in_ok-files.ensures
    c.new.ensures
