use Rattle.targets.proofs.LedgerInputLemmas.{answered_by_ledger, refused_by_ledger}
use Rattle.targets.proofs.ledger_check.ledger_job.Goals as goal

pub returns-in-Ok : goal.returns-in-Ok
returns-in-Ok g c =
    answered_by_ledger c.args.key c.args.since (g.R.Read.remaining c.args.reader.now) (g.R.Read.remaining c.start.new.reader) c.in-Ok.map
    c.go_over.result (g.W.Write.contents c.args.writer.now) (g.W.Write.contents c.go_over.new.writer) c.in-Ok.ensures.map c.go_over.ensures

pub returns-in-Err : goal.returns-in-Err
returns-in-Err g c =
    refused_by_ledger c.args.key c.args.since (g.R.Read.remaining c.args.reader.now) c.in-Err.refusal c.refuse_by.result
    (g.W.Write.contents c.args.writer.now) (g.W.Write.contents c.refuse_by.new.writer) c.in-Err.ensures.none c.refuse_by.ensures
