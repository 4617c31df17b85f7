use Rattle.std.proofs.Common.{Ok, sym, subst, [], ◌∙◌}
use Rattle.std.specs.Io.Buffered.{reader_remaining}
use Rattle.filters.specs.Steps.{ReadsRecord, parts_of}
use Rattle.filters.proofs.OutputLemmas.{puts_both}
use Rattle.filters.proofs.RunLemmas.{breaks, closes_all, fails, flushed}
use Rattle.filters.proofs.records_node.step.Goals as goal

pub returns-then-has_failed : goal.returns-then-has_failed
returns-then-has_failed g c begin =
    let input = reader_remaining g.R.Read.remaining c.args.reader.now in
    let now = g.N.RecordsNode.StandsAt c.args.node.now in
    breaks (g.N.RecordsNode.filter begin).Takes now now input input (g.W.Output.written c.args.writer.now) (g.W.Output.written c.wait.new.writer) _ c.wait.ensures
    (sym c.has_failed.ensures ∙ c.if-has_failed.true)

pub returns-in-Ok-Some : goal.returns-in-Ok-Some
returns-in-Ok-Some g c begin =
    let old = reader_remaining g.R.Read.remaining c.args.reader.now in
    let new = reader_remaining g.R.Read.remaining c.next_record.new.reader in
    let some = subst (ReadsRecord old new) c.in-Ok-Some.is c.next_record.ensures in
    let came = parts_of c.in-Ok-Some.came in (
      came,
      subst (λ r. ReadsRecord old new (Ok r)) c.in-Ok-Some.field-0-is some,
      flushed (g.N.RecordsNode.filter begin).Takes (g.N.RecordsNode.StandsAt c.args.node.now) (g.N.RecordsNode.StandsAt c.answer_record.new.self) came
          (g.W.Output.written c.args.writer.now) (g.W.Output.written c.wait.new.writer) (g.W.Output.written c.answer_record.new.writer)
          c.wait.ensures (c.answer_record.ensures begin),
    )

pub returns-in-Ok-None : goal.returns-in-Ok-None
returns-in-Ok-None g c begin =
    let old = reader_remaining g.R.Read.remaining c.args.reader.now in
    let new = reader_remaining g.R.Read.remaining c.next_record.new.reader in
    let none = subst (ReadsRecord old new) c.in-Ok-None.is c.next_record.ensures in
    let first = g.W.Output.written c.args.writer.now in
    let text = g.W.Output.written c.flush.new.self in
    let now = g.N.RecordsNode.StandsAt c.args.node.now in
    closes_all (g.N.RecordsNode.filter begin).Takes now now old new first text (subst (λ r. ReadsRecord old new (Ok r)) c.in-Ok-None.field-0-is none)
    (puts_both first (g.W.Output.written c.wait.new.writer) text [] [] c.wait.ensures c.flush.ensures)

pub returns-in-Err : goal.returns-in-Err
returns-in-Err g c begin =
    let old = reader_remaining g.R.Read.remaining c.args.reader.now in
    let new = reader_remaining g.R.Read.remaining c.next_record.new.reader in
    let now = g.N.RecordsNode.StandsAt c.args.node.now in
    fails (g.N.RecordsNode.filter begin).Takes now now old new (g.W.Output.written c.args.writer.now) (g.W.Output.written c.wait.new.writer)
    (g.W.Output.written c.refuse-status.new.writer)
    c.in-Err.fault c.refuse-status.result (subst (ReadsRecord old new) c.in-Err.is c.next_record.ensures) c.wait.ensures
    c.refuse-status.ensures.written c.refuse-status.ensures.status
