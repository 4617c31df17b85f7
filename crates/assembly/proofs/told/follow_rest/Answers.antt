use Rattle.std.proofs.Common.{◌<◌, arith, length}
use Rattle.std.proofs.lemmas.Result.{err_from_is_err_and}
use Rattle.messages.specs.declared.node.Node.TheVariants.{Server, Client}
use Rattle.assembly.specs.Ran.{ran_of, history_of}
use Rattle.assembly.proofs.RestLemmas.{cell_history, rest_rises, rest_differs, added_none, added_more, ok_marked, ok_merged, err_differs}
use Rattle.assembly.proofs.told.follow_rest.Goals as goal

pub offset_bounds-servers-number : goal.offset_bounds-servers-number
offset_bounds-servers-number g c = omega (arith, c.loop-number-test.true, c.servers-number-end.ensures, (c.requires.opened Client).1)

pub bounds-servers-number : goal.bounds-servers-number
bounds-servers-number g c = omega (arith, c.loop-number-test.true, c.servers-number-end.ensures, (c.requires.opened Client).1)

pub loop-number-init : goal.loop-number-init
loop-number-init g c = added_none (ran_of c.args.client.now c.args.servers.now) c.args.hub.now.net c.args.order.now c.requires.followed

pub pass-requires-clause-rises : goal.pass-requires-clause-rises
pass-requires-clause-rises g c =
    let low : c.loop-number.number < length c.args.servers.now =
    omega (arith, c.loop-number-test.true, c.servers-number-end.ensures, (c.requires.opened Client).1) in
    rw c.len.ensures
    (rest_rises (ran_of c.args.client.now c.args.servers.now) c.args.hub.now.net
    (Server c.loop-number.number) c.args.order.now c.loop-number.order.next c.history-history.result.now.items c.requires.followed c.loop-number.invariant.2
    (cell_history (ran_of c.args.client.now c.args.servers.now) c.loop-number.number c.index-servers-number.result c.history-history.result.now.items low
    c.index-servers-number.is c.history-history.ensures.entries))

pub returns-in_err-pass-clause-differs : goal.returns-in_err-pass-clause-differs
returns-in_err-pass-clause-differs g c =
    let p = err_from_is_err_and c.from_residual.result c.from_residual.ensures.1 in
    let low : c.loop-number.number < length c.args.servers.now =
    omega (arith, c.loop-number-test.true, c.servers-number-end.ensures, (c.requires.opened Client).1) in
    rw (p.1, p.2) (rest_differs (ran_of c.args.client.now c.args.servers.now) c.args.hub.now.net
    (Server c.loop-number.number) c.args.order.now c.loop-number.order.next
    (length c.history-history.result.now.items) c.in_err-pass.field-0.0 c.requires.followed c.loop-number.invariant.2
    (rw c.len.ensures at (c.in_err-pass.ensures.stopped (history_of (ran_of c.args.client.now c.args.servers.now) (Server c.loop-number.number))
    (cell_history (ran_of c.args.client.now c.args.servers.now) c.loop-number.number c.index-servers-number.result c.history-history.result.now.items low
    c.index-servers-number.is c.history-history.ensures.entries))))

pub loop-number-preserved : goal.loop-number-preserved
loop-number-preserved g c =
    let low : c.loop-number.number < length c.args.servers.now =
    omega (arith, c.loop-number-test.true, c.servers-number-end.ensures, (c.requires.opened Client).1) in
    let list = cell_history (ran_of c.args.client.now c.args.servers.now) c.loop-number.number c.index-servers-number.result c.history-history.result.now.items
    low c.index-servers-number.is c.history-history.ensures.entries in
    added_more c.histories_rise.ensures (ran_of c.args.client.now c.args.servers.now) c.args.hub.now.net c.args.order.now c.loop-number.number
    c.loop-number.order c.pass.new.self c.history-history.result.now.items c.requires.followed c.loop-number.invariant list
    (rw c.len.ensures at (c.in_ok-pass.ensures.passed (history_of (ran_of c.args.client.now c.args.servers.now) (Server c.loop-number.number)) list))
    c.pass.ensures.next

pub pass-requires-2-clause-rises : goal.pass-requires-2-clause-rises
pass-requires-2-clause-rises g c =
    rw c.len-2.ensures
    (rest_rises (ran_of c.args.client.now c.args.servers.now) c.args.hub.now.net Client c.args.order.now c.loop-number.order.next
    c.history-history-2.result.now.items c.requires.followed c.loop-number.invariant.2 c.history-history-2.ensures.entries)

pub returns-clause-marked : goal.returns-clause-marked
returns-clause-marked g c =
    ok_marked c.histories_rise.ensures (ran_of c.args.client.now c.args.servers.now) c.args.hub.now.net c.args.order.now c.loop-number.number
    c.loop-number.order c.pass-2.new.self.places c.history-history-2.result.now.items c.pass-2.result
    c.requires.followed c.loop-number.invariant (omega (arith, c.loop-number-test.false, c.servers-number-end.ensures, (c.requires.opened Client).1))
    c.history-history-2.ensures.entries
    (rw c.len-2.ensures at (c.pass-2.ensures.passed (history_of (ran_of c.args.client.now c.args.servers.now) Client) c.history-history-2.ensures.entries))

pub returns-clause-merged : goal.returns-clause-merged
returns-clause-merged g c =
    ok_merged (ran_of c.args.client.now c.args.servers.now) c.args.hub.now.net c.args.order.now c.loop-number.number c.loop-number.order
    c.pass-2.new.self.places c.history-history-2.result.now.items c.pass-2.result
    c.requires.followed c.loop-number.invariant (omega (
      arith,
      c.loop-number-test.false,
      c.loop-number.auto.number-end,
      c.servers-number-end.ensures,
      (c.requires.opened Client).1,
    )) c.history-history-2.ensures.entries
    (rw c.len-2.ensures at (c.pass-2.ensures.passed (history_of (ran_of c.args.client.now c.args.servers.now) Client) c.history-history-2.ensures.entries))

pub returns-clause-differs : goal.returns-clause-differs
returns-clause-differs g c =
    err_differs (ran_of c.args.client.now c.args.servers.now) c.args.hub.now.net c.args.order.now c.loop-number.order.next
    (length c.history-history-2.result.now.items) c.pass-2.result c.requires.followed c.loop-number.invariant.2
    (rw c.len-2.ensures at (c.pass-2.ensures.stopped (history_of (ran_of c.args.client.now c.args.servers.now) Client) c.history-history-2.ensures.entries))
