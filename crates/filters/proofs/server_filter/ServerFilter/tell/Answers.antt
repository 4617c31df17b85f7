use Rattle.std.proofs.Common.{Ok, Err, arith}
use Rattle.filters.proofs.OutputLemmas.{puts_none}
use Rattle.filters.proofs.TellLemmas.{told_so}
use Rattle.filters.proofs.server_filter.ServerFilter.tell.Goals as goal

pub returns-in-Ok : goal.returns-in-Ok
returns-in-Ok g c =
    let new = c.report.new.self in
    told_so c.args.self.now c.put.new.self new c.args.boot c.args.attempt c.args.job c.args.report (Ok c.in-Ok.told) (g.W.Output.written c.args.writer.now)
    (g.W.Output.written c.put_answered.new.writer) c.put_answered.ensures c.put.ensures.server c.put.ensures.checks (omega arith) c.in-Ok.ensures.ends
    c.in-Ok.ensures.checks c.in-Ok.ensures.fits

pub returns-in-Err : goal.returns-in-Err
returns-in-Err g c =
    let text = g.W.Output.written c.args.writer.now in
    told_so c.args.self.now c.put.new.self c.report.new.self c.args.boot c.args.attempt c.args.job c.args.report (Err c.in-Err.fault) text text
    (puts_none text) c.put.ensures.server c.put.ensures.checks (omega arith) c.in-Err.ensures.ends c.in-Err.ensures.checks
    c.in-Err.ensures.fits
