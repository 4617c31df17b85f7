use Rattle.filters.specs.ServerChecks.{GivesUp}
use Rattle.filters.specs.CheckRuns.{IsHere}
use Rattle.filters.proofs.TurnLemmas.{takes_then}
use Rattle.filters.proofs.server_filter.ServerFilter.answer_unread.Goals as goal

pub returns : goal.returns
returns g c =
    let more = c.write_end.ensures in
    takes_then (λ o at end now answer. GivesUp o at c.args.body.now end now answer) c.unread-answer.result (IsHere c.args.self.now) (IsHere c.unread-answer.new.self) (IsHere c.write_end.new.self)
    (g.W.Output.written c.args.writer.now) (g.W.Output.written c.unread-answer.new.writer) (g.W.Output.written c.write_end.new.writer) c.unread-answer.ensures more
