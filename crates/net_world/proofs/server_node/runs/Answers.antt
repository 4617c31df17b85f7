use Rattle.std.proofs.Common.{◌∙◌}
use Rattle.node.proofs.PowerLemmas.{shown}
use Rattle.net_world.specs.ServerNodes.{server_nodes}
use Rattle.net_world.proofs.NodeLemmas.{weak}
use Rattle.net_world.proofs.server_node.runs.Goals as goal

pub returns : goal.returns
returns c o past s =
    let k = server_nodes o in
    let node = c.args.node.now in
    c.is_some.ensures ∙ shown k past node c.core.result (c.core.ensures o past (weak k past node s))
