use Rattle.std.proofs.Common.{◌∙◌, refl, sym, ap, subst, inl, List, length}
use Rattle.std.specs.Prelude.{reverse}
use Rattle.std.proofs.lemmas.List.{reverse-reverse}
use Rattle.std.proofs.lemmas.Result.{err_from_is_err_and}
use Rattle.assembly.specs.declared.place.Place.{Place}
use Rattle.assembly.specs.Orders.{merged_order}
use Rattle.assembly.specs.Names.{IsOrder}
use Rattle.assembly.specs.Ran.{ran_of, history_of}
use Rattle.assembly.proofs.WhyLemmas.{differs_why}
use Rattle.assembly.proofs.list.assemble.Goals as goal

pub returns-in-Some-clause-why : goal.returns-in-Some-clause-why
returns-in-Some-clause-why g c = (λ agrees. c.in-Some.ensures.some agrees.opened, inl (refl, c.in-Some.ensures.some))

pub returns-in_err-order-clause-why : goal.returns-in_err-order-clause-why
returns-in_err-order-clause-why g c =
    let p = err_from_is_err_and c.from_residual.result c.from_residual.ensures.1 in
    rw (p.1, p.2) (differs_why (ran_of c.args.client.now c.args.servers.now) c.args.hub.now.net c.args.seats.now c.in_err-order.field-0.0
    c.in_err-order.ensures.differs)

pub returns-clause-agrees : goal.returns-clause-agrees
returns-clause-agrees g c = λ node. record {
  opened = c.in_default.ensures.none node;
  seated = (c.in_default-wrongly_seated).ensures.none node;
  marked = c.in_ok-order.ensures.agree.marked node;
}

pub returns-clause-trace : goal.returns-clause-trace
returns-clause-trace g c =
    let order = ap (λ (ps : List Place). reverse ps) c.in_ok-order.ensures.merged
    ∙ reverse-reverse (merged_order (length c.args.servers.now) (history_of (ran_of c.args.client.now c.args.servers.now)) c.args.hub.now.net.journal) in
    subst (λ (ps : List Place). IsOrder (length c.args.servers.now) c.args.hub.now.net (history_of (ran_of c.args.client.now c.args.servers.now)) ps)
    (sym order)
    (c.agreeing_nodes_are_a_trace.ensures (length c.args.servers.now) c.args.hub.now.net
    (history_of (ran_of c.args.client.now c.args.servers.now)) c.in_ok-order.ensures.agree)

pub returns-clause-state : goal.returns-clause-state
returns-clause-state g c = λ lists trace is.
    c.assembled_nodes_hold_one_state.ensures.state (length c.args.servers.now) c.args.hub.now.net.frames lists.servers lists.client trace is
