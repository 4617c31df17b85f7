use Rattle.std.proofs.Common.{◌<◌, arith}
use Rattle.ledger.proofs.TouchedLemmas.{next_is, advanced, touched_none, touched_more}
use Rattle.ledger.proofs.touched.blocks_touched.Goals as goal

pub loop-init : goal.loop-init
loop-init c = record {
  order = c.in_ok-order.ensures.start;
  touched = touched_none c.args.rec.now c.args.blocks _ (c.in_ok-touched.ensures.items_if_clones_equal (λ y is. is));
}

pub loop-preserved : goal.loop-preserved
loop-preserved c =
    let job = c.args.rec.now in
    let k = c.loop.counter in
    let lt : k < job.total = omega (arith, c.loop-test.true, c.total-end.ensures.value) in
    let block = next_is c.loop.order job k c.in-Some.block c.loop.invariant.order lt c.in-Some.ensures.value in
    record {
      order = advanced c.loop.order c.advance.new.self job k c.loop.invariant.order c.advance.ensures;
      touched = touched_more job k c.args.blocks c.in-Some.block c.loop.touched.items _ block c.mark.ensures c.loop.invariant.touched;
    }
