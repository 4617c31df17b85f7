use Rattle.std.proofs.Common.{subst}
use Rattle.std.specs.Io.Buffered.{reader_remaining}
use Rattle.filters.specs.Written.{Puts}
use Rattle.filters.proofs.OpenLemmas.{not_over, runs_over}
use Rattle.filters.proofs.running.run_over.Goals as goal

pub returns-in-Err : goal.returns-in-Err
returns-in-Err g c =
    not_over (g.N.RecordsNode.filter c.args.begin) c.args.note.items c.in-Err.fault (reader_remaining g.R.Read.remaining c.args.reader.now)
    (g.W.Output.written c.args.writer.now) (g.W.Output.written c.refuse.new.writer) c.refuse.result c.in-Err.ensures.err
    c.refuse.ensures.status c.refuse.ensures.written

pub returns : goal.returns
returns g c =
    let opens = c.in-Ok.ensures.ok in
    let first = g.W.Output.written c.args.writer.now in
    let text = g.W.Output.written c.answer_note.new.writer in
    runs_over (g.N.RecordsNode.filter c.args.begin) c.args.note.items opens.said (g.N.RecordsNode.StandsAt c.in-Ok.node)
    (reader_remaining g.R.Read.remaining c.args.reader.now) first text (g.W.Output.written c.run_records.new.writer) c.run_records.result opens.says opens.begins
    (subst (Puts first text) opens.answered_is c.answer_note.ensures) (c.run_records.ensures c.args.begin)
