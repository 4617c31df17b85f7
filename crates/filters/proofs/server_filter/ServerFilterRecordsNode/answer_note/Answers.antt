use Rattle.std.proofs.Common.{Ok, true}
use Rattle.server_core.specs.FrameEnds.{note_in}
use Rattle.filters.specs.Kept.{note_kept}
use Rattle.filters.specs.Records.{end_bytes}
use Rattle.filters.specs.NodeTells.{save_bytes}
use Rattle.filters.proofs.OutputLemmas.{puts_both}
use Rattle.filters.proofs.server_filter.ServerFilterRecordsNode.answer_note.Goals as goal

pub returns : goal.returns
returns g c =
    puts_both (g.W.Output.written c.args.writer.now) (g.W.Output.written c.save.new.writer) (g.W.Output.written c.put_end.new.writer)
    (save_bytes true (note_in note_kept c.args.self.now.server).bytes) (end_bytes (Ok tt)) c.save.ensures c.put_end.ensures
