use Rattle.std.proofs.Common.{arith}
use Rattle.filters.specs.CheckRuns.{IsHere}
use Rattle.filters.proofs.TurnLemmas.{jobs_asked, jobs_none, jobs_all, ordered_then, takes_more, takes_none}
use Rattle.filters.proofs.server_filter.ServerFilter.go_on.Goals as goal

pub loop-job-init : goal.loop-job-init
loop-job-init g c = jobs_none (IsHere c.args.self.now) (g.W.Output.written c.args.writer.now)

pub loop-job-preserved : goal.loop-job-preserved
loop-job-preserved g c =
    jobs_asked c.loop-job.job (IsHere c.args.self.now) (IsHere c.loop-job.self) (IsHere c.order_all.new.self)
    (g.W.Output.written c.args.writer.now) (g.W.Output.written c.loop-job.writer) (g.W.Output.written c.order_all.new.writer) c.loop-job.invariant
    c.order_all.ensures

pub loop-job-2-init : goal.loop-job-2-init
loop-job-2-init g c = takes_none (IsHere c.loop-job.self) (g.W.Output.written c.loop-job.writer)

pub loop-job-2-preserved : goal.loop-job-2-preserved
loop-job-2-preserved g c =
    takes_more (IsHere c.loop-job.self) (IsHere c.loop-job-2.self) (IsHere c.begin_check.new.self)
    (g.W.Output.written c.loop-job.writer) (g.W.Output.written c.loop-job-2.writer) (g.W.Output.written c.begin_check.new.writer) c.loop-job-2.invariant
    c.begin_check.ensures

pub returns : goal.returns
returns g c =
    ordered_then (IsHere c.args.self.now) (IsHere c.loop-job.self) (IsHere c.loop-job-2.self)
    (g.W.Output.written c.args.writer.now) (g.W.Output.written c.loop-job.writer) (g.W.Output.written c.loop-job-2.writer)
    (jobs_all c.loop-job.job (IsHere c.args.self.now) (IsHere c.loop-job.self) (g.W.Output.written c.args.writer.now)
    (g.W.Output.written c.loop-job.writer) (omega (arith, c.loop-job-test.false)) c.loop-job.invariant)
    c.loop-job-2.invariant
