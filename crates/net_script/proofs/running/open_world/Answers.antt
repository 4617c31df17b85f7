use Rattle.std.proofs.Common.{◌∷◌}
use Rattle.net_world.specs.Setup.{setup_of}
use Rattle.net_script.specs.Left.{orders_left}
use Rattle.net_script.specs.Orders.{Opens}
use Rattle.net_script.specs.Script.{lines_of_orders, reads_well, status_of_orders}
use Rattle.net_script.specs.Runs.{RunOrders}
use Rattle.net_script.proofs.ScriptLemmas.{no_world, if_ok_is}
use Rattle.net_script.proofs.running.open_world.Goals as goal

pub returns-in-Err : goal.returns-in-Err
returns-in-Err g c line =
    let orders = orders_left c.args.orders.now in
    let old = g.W.Write.contents c.args.writer.now in
    let new = g.W.Write.contents c.refuse_world.new.writer in
    if_ok_is (RunOrders lines_of_orders reads_well status_of_orders (Opens line (setup_of c.args.config) ∷ orders) old new) c.refuse_world.result 2
    (λ wrote. no_world line (setup_of c.args.config) orders old new wrote) c.refuse_world.ensures.text c.refuse_world.ensures.status
