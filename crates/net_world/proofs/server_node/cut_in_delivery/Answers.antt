use Rattle.std.proofs.Common.{refl}
use Rattle.server_core.specs.declared.input.Input.TheVariants.{Deliver}
use Rattle.net_world.specs.ServerNodes.{server_nodes}
use Rattle.net_world.proofs.NodeLemmas.{weak, cut_within}
use Rattle.net_world.proofs.server_node.cut_in_delivery.Goals as goal

pub returns : goal.returns
returns c o past s =
    let k = server_nodes o in
    let node = c.args.node.now in
    cut_within k (record { core = λ core. refl; notes = λ notes. refl }) past c.args.landed (Deliver c.args.frame) node c.cut_in.new.self c.cut_in.result s
    (c.cut_in.ensures o past (weak k past node s))
