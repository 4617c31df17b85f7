use Rattle.mirror_core.specs.History.{Cut}
use Rattle.net_world.specs.MirrorNodes.{mirror_nodes}
use Rattle.net_world.proofs.NodeLemmas.{weak, cut_stands}
use Rattle.net_world.proofs.MirrorNodeLemmas.{laws}
use Rattle.net_world.proofs.mirror_node.cut.Goals as goal

pub returns : goal.returns
returns c o past s =
    let k = mirror_nodes o in
    cut_stands k Cut (laws o) past c.args.node.now c.cut-was_on.new.self c.cut-was_on.result s (c.cut-was_on.ensures o past (weak k past c.args.node.now s))
