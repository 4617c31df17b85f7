use Rattle.std.proofs.Common.{subst}
use Rattle.filters.specs.Written.{Puts}
use Rattle.filters.specs.EndTells.{end_counts}
use Rattle.filters.proofs.EndingLemmas.{place_written}
use Rattle.filters.proofs.ending.put_place.Goals as goal

pub returns : goal.returns
returns g c =
    let now = g.W.Output.written c.put_counts.new.writer in
    let behind = g.W.Output.written c.put_names.new.writer in
    let counts = c.put_counts.ensures in
    place_written c.args.asked.now c.args.end.now (g.W.Output.written c.args.writer.now) (g.W.Output.written c.put_head.new.writer) behind now
    c.put_head.ensures c.put_names.ensures
    (subst (λ n. Puts behind now (end_counts n)) c.numbers_of.ensures counts)
