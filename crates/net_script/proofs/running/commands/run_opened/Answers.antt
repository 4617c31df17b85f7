use Rattle.std.proofs.Common.{[], ◌∷◌}
use Rattle.net_script.specs.Left.{orders_left}
use Rattle.net_script.specs.Orders.{Opens}
use Rattle.net_script.specs.Script.{are_commands, lines_in, lines_of_orders, reads_well, status_in, status_of_orders}
use Rattle.net_script.specs.Runs.{RunOrders}
use Rattle.net_script.proofs.ScriptLemmas.{opened, if_ok}
use Rattle.net_script.proofs.running.commands.run_opened.Goals as goal

pub returns : goal.returns
returns g c setup stands line =
    let orders = orders_left c.args.orders.now in
    let old = g.W.Write.contents c.args.writer.now in
    let mid = g.W.Write.contents c.writeln.new.self in
    let new = g.W.Write.contents c.run_commands.new.writer in
    if_ok (RunOrders (lines_in setup []) are_commands (status_in setup []) orders mid new)
    (RunOrders lines_of_orders reads_well status_of_orders (Opens line setup ∷ orders) old new) c.run_commands.result
    (λ status ran. opened line setup orders old mid new status c.in_ok-writeln.ensures.bytes ran)
    (c.run_commands.ensures setup [] stands)
