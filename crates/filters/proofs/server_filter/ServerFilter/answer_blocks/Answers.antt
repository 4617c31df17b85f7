use Rattle.filters.specs.ServerChecks.{Feeds}
use Rattle.filters.specs.CheckRuns.{IsHere}
use Rattle.filters.proofs.TurnLemmas.{takes_then}
use Rattle.filters.proofs.server_filter.ServerFilter.answer_blocks.Goals as goal

pub returns : goal.returns
returns g c =
    let more = c.write_end.ensures in
    takes_then (λ o at end now answer. Feeds o at c.args.body.now end now answer) c.blocks-answer.result (IsHere c.args.self.now) (IsHere c.blocks-answer.new.self) (IsHere c.write_end.new.self)
    (g.W.Output.written c.args.writer.now) (g.W.Output.written c.blocks-answer.new.writer) (g.W.Output.written c.write_end.new.writer) c.blocks-answer.ensures more
