use Rattle.targets.proofs.WantedLemmas.{none_wanted, wanted_by_ledger}
use Rattle.targets.proofs.wanted.wanted_job.Goals as goal

pub returns-in-Ok : goal.returns-in-Ok
returns-in-Ok g c =
    wanted_by_ledger c.args.key c.args.since (g.R.Read.remaining c.args.reader.now) (g.R.Read.remaining c.read_basis.new.reader) c.in-Ok.basis
    c.tell_wanted.result (g.W.Write.contents c.args.writer.now) (g.W.Write.contents c.tell_wanted.new.writer) c.in-Ok.ensures.basis
    c.tell_wanted.ensures

pub returns-in-Err : goal.returns-in-Err
returns-in-Err g c =
    none_wanted c.args.key c.args.since (g.R.Read.remaining c.args.reader.now) c.in-Err.refusal c.refuse_by.result
    (g.W.Write.contents c.args.writer.now) (g.W.Write.contents c.refuse_by.new.writer) c.in-Err.ensures.none c.refuse_by.ensures
