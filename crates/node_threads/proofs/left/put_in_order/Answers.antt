use Rattle.std.proofs.Common.{length, subst}
use Rattle.std.specs.Prelude.{reverse}
use Rattle.assembly.specs.Names.{IsOrder}
use Rattle.assembly.specs.Ran.{ran_of, history_of}
use Rattle.assembly.specs.Verdict.{HoldOneStateEach}
use Rattle.node_threads.proofs.left.put_in_order.Goals as goal

pub returns : goal.returns
returns c = record {
  order =
      subst (λ servers. IsOrder (length servers) c.args.hub.net (history_of (ran_of c.args.client servers)) (reverse c.in-Ok.field-0.order.items))
      c.deref.ensures.value c.in-Ok.ensures.trace;
  state = subst (λ servers. HoldOneStateEach (ran_of c.args.client servers) c.args.hub.net) c.deref.ensures.value c.in-Ok.ensures.state;
}
