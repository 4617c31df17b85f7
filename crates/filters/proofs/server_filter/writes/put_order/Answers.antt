use Rattle.std.proofs.Common.{arith}
use Rattle.filters.proofs.ServerTakeLemmas.{order_written}
use Rattle.filters.proofs.server_filter.writes.put_order.Goals as goal

pub returns-clause-order : goal.returns-clause-order
returns-clause-order g c =
    let wrote = c.put.ensures in
    order_written c.args.ticket.now c.args.rec.now c.fill_block.new.bytes _ (g.W.Output.written c.args.writer.now) (g.W.Output.written c.put_head.new.writer)
    (g.W.Output.written c.put_order_name.new.writer) (g.W.Output.written c.put.new.self) (omega (arith, c.fill_block.auto.bytes))
    c.put_head.ensures c.put_order_name.ensures wrote c.fill_block.ensures.bytes
