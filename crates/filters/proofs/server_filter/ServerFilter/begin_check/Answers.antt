use Rattle.filters.proofs.KeptLemmas.{begins_so}
use Rattle.filters.proofs.server_filter.ServerFilter.begin_check.Goals as goal

pub returns : goal.returns
returns g c =
    begins_so c.args.self.now c.go-answer.new.self c.args.job c.in-Some.checking c.seek-went.result c.go-answer.result (g.W.Output.written c.args.writer.now)
    (g.W.Output.written c.go-answer.new.writer) c.in-Some.ensures c.seek-went.ensures c.go-answer.ensures
