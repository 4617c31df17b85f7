use Rattle.net_world.specs.MirrorNodes.{mirror_nodes}
use Rattle.net_world.proofs.NodeLemmas.{weak}
use Rattle.net_world.proofs.MirrorNodeLemmas.{restarted}
use Rattle.net_world.proofs.mirror_node.restart.Goals as goal

pub returns : goal.returns
returns c o past s =
    let node = c.args.node.now in
    restarted o past node c.restart.new.self c.restart.result s (c.restart.ensures o past (weak (mirror_nodes o) past node s))
