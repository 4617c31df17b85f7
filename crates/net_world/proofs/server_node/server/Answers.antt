use Rattle.net_world.specs.ServerNodes.{server_nodes}
use Rattle.net_world.proofs.NodeLemmas.{weak}
use Rattle.net_world.proofs.server_node.server.Goals as goal

pub returns : goal.returns
returns c o past s = c.core.ensures o past (weak (server_nodes o) past c.args.node.now s)
