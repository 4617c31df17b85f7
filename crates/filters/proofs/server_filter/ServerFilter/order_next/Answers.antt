use Rattle.std.proofs.Common.{Ok, Err, [], false, refl, arith}
use Rattle.filters.proofs.OutputLemmas.{puts_none}
use Rattle.filters.specs.CheckRuns.{IsHere}
use Rattle.filters.specs.ServerTurns.{Asks, order_if}
use Rattle.filters.specs.ServerRuns.{Asked}
use Rattle.engine.specs.Answers.{is_write}
use Rattle.filters.proofs.OrderLemmas.{no_job}
use Rattle.filters.proofs.ServerTakeLemmas.{asked_here}
use Rattle.filters.proofs.TurnLemmas.{takes_none_to, takes_one_to, asked_so}
use Rattle.filters.proofs.server_filter.ServerFilter.order_next.Goals as goal

pub returns-in_default : goal.returns-in_default
returns-in_default g c =
    takes_none_to (Asked c.args.job false) (IsHere c.args.self.now) (g.W.Output.written c.args.writer.now)
    (λ o at h. no_job c.looks_at_all.ensures o at.list c.args.job (c.in_default.ensures o at.list h.0.0))

pub returns-in-Ok : goal.returns-in-Ok
returns-in-Ok g c =
    let old = c.args.self.now in
    let new = record c.args.self.now { server = c.issue.new.self } in
    let job = c.in-Some.found.now in
    asked_so c.args.job (is_write c.in-Ok.issue) (IsHere old) (IsHere new) (Asks c.args.job) (g.W.Output.written c.args.writer.now)
    (g.W.Output.written c.put_issue.new.writer)
    (order_if c.in-Ok.issue job.rec) c.put_issue.result c.put_issue.ensures.order c.put_issue.ensures.more
    (λ o at h. asked_here c.looks_at_all.ensures o at c.args.job job old new (Ok c.in-Ok.issue) refl h (c.in-Ok.ensures.ends o at.list h.0.0) c.in-Ok.ensures.memory
    (c.in-Some.ensures o at.list h.0.0) (omega (arith, c.total-in_range.ensures.value, c.total-in_range.ensures.range.1)))

pub returns-in-Err : goal.returns-in-Err
returns-in-Err g c =
    let old = c.args.self.now in
    let new = record c.args.self.now { server = c.issue.new.self } in
    let text = g.W.Output.written c.args.writer.now in
    takes_one_to (Asked c.args.job false) (IsHere old) (IsHere new) (Asks c.args.job) text text [] (puts_none text)
    (λ o at h. asked_here c.looks_at_all.ensures o at c.args.job c.in-Some.found.now old new (Err c.in-Err.field-0) refl h (c.in-Err.ensures.ends o at.list h.0.0)
    c.in-Err.ensures.memory (c.in-Some.ensures o at.list h.0.0) (omega (arith, c.total-in_range.ensures.value, c.total-in_range.ensures.range.1)))
