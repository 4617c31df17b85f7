use Rattle.net_world.specs.ServerNodes.{server_nodes}
use Rattle.net_world.proofs.NodeLemmas.{weak}
use Rattle.net_world.proofs.PowerLemmas.{restarted}
use Rattle.net_world.proofs.server_node.restart.Goals as goal

pub returns : goal.returns
returns c o past me s =
    restarted o past c.args.me c.args.node.now c.restart.new.self c.restart.result me s (c.restart.ensures o past (weak (server_nodes o) past c.args.node.now s))
