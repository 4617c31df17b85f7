use Rattle.std.proofs.Common.{Result, [], sym, subst}
use Rattle.fc_base.specs.declared.fault.Fault.{Fault}
use Rattle.filters.specs.ServerLives.{EndsBy}
use Rattle.filters.specs.CheckRuns.{IsHere}
use Rattle.filters.specs.Steps.{AnswersBy}
use Rattle.filters.proofs.TurnLemmas.{takes_end, takes_fault}
use Rattle.filters.proofs.server_filter.ServerFilter.write_end.Goals as goal

pub returns-in-Ok : goal.returns-in-Ok
returns-in-Ok g c =
    let text = g.W.Output.written c.args.writer.now in
    let new = g.W.Output.written c.put_end.new.writer in
    let wrote = c.put_end.ensures in
    subst (λ (r : Result (Unit {0}) Fault). AnswersBy (λ o at now written. EndsBy r o at [] now written) (IsHere c.args.self.now) (IsHere c.go_on.new.self)
    text new) (sym c.in-Ok.is)
    (takes_end (IsHere c.args.self.now) (IsHere c.go_on.new.self) text (g.W.Output.written c.go_on.new.writer) new c.go_on.ensures wrote)

pub returns-in-Err : goal.returns-in-Err
returns-in-Err g c =
    let text = g.W.Output.written c.args.writer.now in
    let new = g.W.Output.written c.put_end-in-Err.new.writer in
    let wrote = c.put_end-in-Err.ensures in
    subst (λ (r : Result (Unit {0}) Fault). AnswersBy (λ o at now written. EndsBy r o at [] now written) (IsHere c.args.self.now) (IsHere c.args.self.now)
    text new) (sym c.in-Err.is) (takes_fault (IsHere c.args.self.now) text new c.in-Err.fault wrote)
