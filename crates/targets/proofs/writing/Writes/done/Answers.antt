use Rattle.std.proofs.Common.{sym, ◌∙◌}
use Rattle.std.specs.Result.{is_ok}
use Rattle.targets.proofs.RunLemmas.{open_is, less_by_done}
use Rattle.targets.proofs.writing.Writes.done.Goals as goal

pub returns-in-Some-clause-less : goal.returns-in-Some-clause-less
returns-in-Some-clause-less c ok =
    let opened = open_is c.args.self.now.engine.origin c.args.self.now.engine.kept.open_writes c.args.seq c.in-Some.ticket
    (sym c.open_write.ensures.value ∙ c.in-Some.is) in
    less_by_done c.args.self.now.engine c.done.new.self c.args.seq c.in-Some.ticket.seq (is_ok c.done.result)
    (sym c.is_ok.ensures.value ∙ ok) c.done.ensures.left opened.1 opened.0
