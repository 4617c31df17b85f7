use Rattle.filters.proofs.ServerTakeLemmas.{want_written}
use Rattle.filters.proofs.server_filter.checks.want.Goals as goal

pub returns : goal.returns
returns g c =
    let text = g.W.Output.written in
    rw (← c.checking.view_is)
    (let last = c.put_u32-4.ensures in
    want_written _ _ _ _ _ (text c.args.writer.now) (text c.put_head.new.writer)
    (text c.put_u64.new.writer) (text c.put_u32.new.writer) (text c.put_u32-2.new.writer) (text c.put_u32-3.new.writer) (text c.put_u32-4.new.writer)
    c.put_head.ensures c.put_u64.ensures c.put_u32.ensures c.put_u32-2.ensures c.put_u32-3.ensures last)
