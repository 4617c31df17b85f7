use Rattle.std.proofs.Common.{refl, arith}
use Rattle.std.specs.Prelude.{reverse}
use Rattle.std.proofs.lemmas.Result.{err_from_is_err_and}
use Rattle.assembly.specs.Ran.{ran_of, history_of}
use Rattle.assembly.proofs.JournalLemmas.{line_there, frames_there, followed_none, followed_line, next_within, told_of, differs_there}
use Rattle.assembly.proofs.told.follow_journal.Goals as goal

pub loop-line-init : goal.loop-line-init
loop-line-init g c = rw c.requires.new (followed_none c.histories_rise.ensures (ran_of c.args.client.now c.args.servers.now) c.args.hub.now.net, refl)

pub tell-requires-clause-within : goal.tell-requires-clause-within
tell-requires-clause-within g c =
    next_within (ran_of c.args.client.now c.args.servers.now) c.args.hub.now.net
    (told_of (reverse c.args.hub.now.net.journal) c.loop-line.line-index) c.loop-line.order c.line-item.result.node c.history_of-history.result.now.items
    c.loop-line.invariant.0 c.history_of-history.ensures

pub tell-requires-clause-there : goal.tell-requires-clause-there
tell-requires-clause-there g c =
    let is = line_there c.journal-line-items.result.now c.args.hub.now.net.journal c.loop-line.line-index c.line-item.result
    c.journal-line-items.ensures.entries c.loop-line-test.true c.line-item.is in
    omega (
      arith,
      c.loop-line.invariant.1,
      frames_there c.args.hub.now.net (reverse
          c.args.hub.now.net.journal) c.loop-line.line-index c.line-item.result refl is c.journal-line-items.ensures.legal.all_sent,
    )

pub returns-in_err-tell-clause-differs : goal.returns-in_err-tell-clause-differs
returns-in_err-tell-clause-differs g c =
    let p = err_from_is_err_and c.from_residual.result c.from_residual.ensures.1 in
    let is = line_there c.journal-line-items.result.now c.args.hub.now.net.journal c.loop-line.line-index c.line-item.result
    c.journal-line-items.ensures.entries c.loop-line-test.true c.line-item.is in
    rw (p.1, p.2) (differs_there (ran_of c.args.client.now c.args.servers.now) c.args.hub.now.net
    (reverse c.args.hub.now.net.journal) c.loop-line.line-index c.line-item.result c.loop-line.sent c.loop-line.order c.in_err-tell.field-0.0
    refl is c.loop-line.invariant.1 c.loop-line.invariant.0
    (c.in_err-tell.ensures.untold (history_of (ran_of c.args.client.now c.args.servers.now) c.line-item.result.node) c.history_of-history.ensures))

pub overflow_add-sent : goal.overflow_add-sent
overflow_add-sent g c =
    let is = line_there c.journal-line-items.result.now c.args.hub.now.net.journal c.loop-line.line-index c.line-item.result
    c.journal-line-items.ensures.entries c.loop-line-test.true c.line-item.is in
    omega (
      arith,
      c.loop-line.invariant.1,
      frames_there c.args.hub.now.net (reverse
          c.args.hub.now.net.journal) c.loop-line.line-index c.line-item.result refl is c.journal-line-items.ensures.legal.all_sent,
      c.len-frames.ensures,
      c.len-frames.type_inv,
    )

pub loop-line-preserved : goal.loop-line-preserved
loop-line-preserved g c =
    let is = line_there c.journal-line-items.result.now c.args.hub.now.net.journal c.loop-line.line-index c.line-item.result
    c.journal-line-items.ensures.entries c.loop-line-test.true c.line-item.is in
    followed_line (ran_of c.args.client.now c.args.servers.now) c.args.hub.now.net c.loop-line.line-index c.line-item.result c.loop-line.sent c.loop-line.order
    c.tell.new.self
    c.requires.few is c.loop-line.invariant.0 c.loop-line.invariant.1
    (c.in_ok-tell.ensures.told (history_of (ran_of c.args.client.now c.args.servers.now) c.line-item.result.node) c.history_of-history.ensures)
