use Rattle.std.proofs.Common.{ap, length, subst, ◌+◌, ◌*◌}
use Rattle.filters.specs.Written.{Puts}
use Rattle.fc_base.specs.Layouts.{spelled_blocks}
use Rattle.filters.proofs.TakeLemmas.{report_written}
use Rattle.filters.proofs.telling.put_report.Goals as goal

pub returns : goal.returns
returns g c =
    let now = g.W.Output.written c.put_blocks.new.writer in
    let behind = g.W.Output.written c.put_counts.new.writer in
    let blocks = c.put_blocks.ensures in
    report_written c.args.received.now (g.W.Output.written c.args.writer.now) (g.W.Output.written c.put_head.new.writer)
    (g.W.Output.written c.put_names.new.writer) behind now (40 + 4 * length c.first-blocks.result.now)
    (ap (λ l. 40 + 4 * length l) c.first-blocks.ensures.value)
    c.put_head.ensures c.put_names.ensures c.put_counts.ensures
    (subst (λ l. Puts behind now (spelled_blocks l)) c.first-blocks.ensures.value blocks)
