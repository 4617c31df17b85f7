use Rattle.std.proofs.Common.{length}
use Rattle.filters.specs.Kinds.{said_number}
use Rattle.filters.specs.Records.{head_bytes}
use Rattle.filters.proofs.OutputLemmas.{puts_both}
use Rattle.filters.proofs.writing.put_record.Goals as goal

pub returns : goal.returns
returns g c =
    puts_both (g.W.Output.written c.args.writer.now) (g.W.Output.written c.put_head.new.writer) (g.W.Output.written c.put.new.self)
    (head_bytes (said_number c.args.kind) (length c.args.body.now)) c.args.body.now c.put_head.ensures c.put.ensures
