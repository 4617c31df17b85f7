use Rattle.std.proofs.Common.{arith}
use Rattle.filters.specs.CheckRuns.{IsHere}
use Rattle.filters.proofs.TurnLemmas.{asked_last, asked_more, asked_none, asked_out}
use Rattle.filters.proofs.server_filter.ServerFilter.order_all.Goals as goal

pub loop-init : goal.loop-init
loop-init g c = asked_none c.args.job (IsHere c.args.self.now) (g.W.Output.written c.args.writer.now)

pub loop-preserved : goal.loop-preserved
loop-preserved g c =
    asked_more c.args.job c.loop.counter c.order_next-more.result (IsHere c.args.self.now) (IsHere c.loop.self)
    (IsHere c.order_next-more.new.self)
    (g.W.Output.written c.args.writer.now) (g.W.Output.written c.loop.writer) (g.W.Output.written c.order_next-more.new.writer) c.if-not-more.false c.loop.invariant
    c.order_next-more.ensures

pub returns-then-not-more : goal.returns-then-not-more
returns-then-not-more g c =
    asked_last c.args.job c.loop.counter c.order_next-more.result (IsHere c.args.self.now) (IsHere c.loop.self)
    (IsHere c.order_next-more.new.self)
    (g.W.Output.written c.args.writer.now) (g.W.Output.written c.loop.writer) (g.W.Output.written c.order_next-more.new.writer) c.if-not-more.true c.loop.invariant
    c.order_next-more.ensures

pub returns : goal.returns
returns g c =
    asked_out c.args.job c.loop.counter (IsHere c.args.self.now) (IsHere c.loop.self) (g.W.Output.written c.args.writer.now)
    (g.W.Output.written c.loop.writer) (omega (arith, c.loop-test.false)) c.loop.invariant
