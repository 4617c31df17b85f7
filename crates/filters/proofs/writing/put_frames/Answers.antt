use Rattle.filters.specs.Records.{record_bytes}
use Rattle.filters.specs.Kinds.{said_number}
use Rattle.filters.specs.declared.kinds.OutRecordKind.TheVariants.{Send}
use Rattle.filters.proofs.WriteLemmas.{one_more}
use Rattle.filters.proofs.writing.put_frames.Goals as goal

pub loop-index-preserved : goal.loop-index-preserved
loop-index-preserved g c =
    one_more (g.W.Output.written c.args.writer.now) (g.W.Output.written c.loop-index.writer) (g.W.Output.written c.put_record.new.writer)
    (record_bytes (said_number Send)) _ c.loop-index.index _
    c.in-Some.ensures c.loop-index.invariant c.put_record.ensures
