use Rattle.std.proofs.Common.{subst, ◌∙◌, []}
use Rattle.std.specs.Io.Buffered.{reader_remaining}
use Rattle.targets.specs.Writing.{OrdersAll}
use Rattle.targets.proofs.OrderLemmas.{begun, run_all}
use Rattle.targets.proofs.writing.write_blocks.Goals as goal

pub returns : goal.returns
returns g c =
    let mid = c.order_all.new.self.engine in
    let text = g.W.Write.contents c.order_all.new.writer in
    let first = g.W.Write.contents c.args.writer.now in
    let all = subst (λ o. OrdersAll [] o [] mid first text) c.in-Ok.ensures.origin (c.in_ok-order_all.ensures.orders [] c.in-Ok.ensures.history) in
    let same = c.in_ok-order_all.ensures.origin ∙ c.in-Ok.ensures.origin in
    run_all _ mid c.run.result (reader_remaining g.R.Read.remaining c.args.reader.now) first text _ c.run.ensures
    (begun _ mid (reader_remaining g.R.Read.remaining c.args.reader.now) first text all same) same
