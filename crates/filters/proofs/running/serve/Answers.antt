use Rattle.std.proofs.Common.{subst}
use Rattle.std.specs.Io.Buffered.{reader_remaining}
use Rattle.filters.specs.Steps.{ReadsNote}
use Rattle.filters.proofs.OpenLemmas.{with_note, without_note}
use Rattle.filters.proofs.running.serve.Goals as goal

pub returns-in-Ok : goal.returns-in-Ok
returns-in-Ok g c =
    let input = reader_remaining g.R.Read.remaining c.args.reader.now in
    let rest = reader_remaining g.R.Read.remaining c.first_note.new.reader in
    with_note (g.N.RecordsNode.filter c.args.begin) input rest (g.W.Output.written c.args.writer.now) (g.W.Output.written c.first_note.new.writer)
    (g.W.Output.written c.run_over.new.writer) c.in-Ok.note.items c.run_over.result (subst (ReadsNote input rest) c.in-Ok.is c.first_note.ensures.read)
    c.first_note.ensures.written c.run_over.ensures

pub returns-in-Err : goal.returns-in-Err
returns-in-Err g c =
    let input = reader_remaining g.R.Read.remaining c.args.reader.now in
    let rest = reader_remaining g.R.Read.remaining c.first_note.new.reader in
    without_note (g.N.RecordsNode.filter c.args.begin) input (g.W.Output.written c.args.writer.now) (g.W.Output.written c.first_note.new.writer)
    (g.W.Output.written c.refuse.new.writer) c.in-Err.fault c.refuse.result (subst (ReadsNote input rest) c.in-Err.is c.first_note.ensures.read)
    c.first_note.ensures.written c.refuse.ensures.status c.refuse.ensures.written
