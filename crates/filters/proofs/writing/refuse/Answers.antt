use Rattle.std.proofs.Common.{Err}
use Rattle.filters.specs.Records.{end_bytes}
use Rattle.filters.proofs.OutputLemmas.{puts_kept}
use Rattle.filters.proofs.writing.refuse.Goals as goal

pub returns-clause-written : goal.returns-clause-written
returns-clause-written g c =
    puts_kept (g.W.Output.written c.args.writer.now) (g.W.Output.written c.put_end.new.writer) (g.W.Output.written c.flush.new.self)
    (end_bytes (Err c.args.fault)) c.put_end.ensures c.flush.ensures
