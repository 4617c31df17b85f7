use Rattle.std.proofs.Common.{arith, subst}
use Rattle.filters.specs.EndTells.{place_bytes}
use Rattle.filters.specs.Written.{Puts}
use Rattle.filters.proofs.WriteLemmas.{element_more}
use Rattle.filters.proofs.ending.put_places.Goals as goal

pub loop-end-preserved : goal.loop-end-preserved
loop-end-preserved g c =
    let mid = g.W.Output.written c.loop-end.writer in
    let new = g.W.Output.written c.put_place.new.writer in
    element_more (g.W.Output.written c.args.writer.now) mid new (place_bytes c.args.asked.now) c.args.ends.now c.loop-end.end-index c.end-item.result
    (omega (arith, c.loop-end-test.true)) c.loop-end.invariant (subst (λ e. Puts mid new (place_bytes c.args.asked.now e)) c.end-item.is c.put_place.ensures)
