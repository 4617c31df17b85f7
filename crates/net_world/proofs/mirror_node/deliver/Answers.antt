use Rattle.net_world.specs.MirrorNodes.{mirror_nodes}
use Rattle.net_world.proofs.NodeLemmas.{weak, took}
use Rattle.net_world.proofs.MirrorNodeLemmas.{laws}
use Rattle.net_world.proofs.mirror_node.deliver.Goals as goal

pub returns : goal.returns
returns c o past s =
    let k = mirror_nodes o in
    let node = c.args.node.now in
    took k (laws o) past c.args.frame node c.step.new.self c.step.result s (c.step.ensures o past (weak k past node s))
