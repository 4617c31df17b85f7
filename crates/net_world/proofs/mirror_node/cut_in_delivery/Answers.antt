use Rattle.std.proofs.Common.{refl}
use Rattle.net_world.specs.MirrorNodes.{mirror_nodes}
use Rattle.net_world.proofs.NodeLemmas.{weak, cut_within}
use Rattle.net_world.proofs.mirror_node.cut_in_delivery.Goals as goal

pub returns : goal.returns
returns c o past s =
    let k = mirror_nodes o in
    let node = c.args.node.now in
    cut_within k (record { core = λ core. refl; notes = λ notes. refl }) past c.args.landed c.args.frame node c.cut_in.new.self c.cut_in.result s
    (c.cut_in.ensures o past (weak k past node s))
