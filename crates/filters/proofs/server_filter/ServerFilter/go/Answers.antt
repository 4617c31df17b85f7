use Rattle.std.proofs.Common.{Ok, arith, sym, subst}
use Rattle.filters.specs.declared.checking.CheckTurn.{CheckTurn}
use Rattle.filters.specs.CheckRuns.{GoesSo}
use Rattle.filters.proofs.KeptLemmas.{went_on, went_over}
use Rattle.filters.proofs.server_filter.ServerFilter.go.Goals as goal

pub returns-in-On : goal.returns-in-On
returns-in-On g c =
    let text = g.W.Output.written c.args.writer.now in
    let new = g.W.Output.written c.want.new.writer in
    subst (λ (w : CheckTurn). GoesSo c.args.self.now c.args.boot c.args.attempt c.args.job w (Ok tt) c.put.new.self text new) (sym c.in-On.is)
    (went_on c.args.self.now c.put.new.self c.args.boot c.args.attempt c.args.job c.in-On.checking text new c.put.ensures.server c.put.ensures.checks (omega arith)
    c.in-On.checking.size_is c.want.ensures)

pub returns-in-Ended : goal.returns-in-Ended
returns-in-Ended g c =
    let text = g.W.Output.written c.args.writer.now in
    let new = g.W.Output.written c.tell.new.writer in
    subst (λ (w : CheckTurn). GoesSo c.args.self.now c.args.boot c.args.attempt c.args.job w c.tell.result c.tell.new.self text new) (sym c.in-Ended.is)
    (went_over c.args.self.now c.tell.new.self c.args.boot c.args.attempt c.args.job c.in-Ended.report c.tell.result text new c.tell.ensures)
