use Rattle.std.proofs.Common.{subst}
use Rattle.std.specs.Prelude.{IfOk}
use Rattle.std.specs.Io.Buffered.{reader_remaining}
use Rattle.targets.specs.Jobs.{Refuses}
use Rattle.targets.proofs.JobLemmas.{no_job, ran, reads_only, wrong_phase}
use Rattle.targets.proofs.drive_write.write_job.Goals as goal

pub returns-in-Write : goal.returns-in-Write
returns-in-Write g c =
    ran c.args.run c.args.job (reader_remaining g.R.Read.remaining c.args.reader.now)
    (reader_remaining g.R.Read.remaining c.read_job.new.reader) c.in-Ok.asked c.run_job.result c.key_of.result _ _ c.in-Ok.ensures.job c.in-Write.is
    c.key_of.ensures c.run_job.ensures

pub returns-in-Read : goal.returns-in-Read
returns-in-Read g c =
    let old = g.W.Write.contents c.args.writer.now in
    let new = g.W.Write.contents c.refuse.new.writer in
    wrong_phase c.args.run c.args.job (reader_remaining g.R.Read.remaining c.args.reader.now)
    (reader_remaining g.R.Read.remaining c.read_job.new.reader) c.in-Ok.asked c.refuse.result old new c.in-Ok.ensures.job
    (reads_only c.in-Ok.asked.phase c.in-Read.is) (subst (λ x. IfOk c.refuse.result (Refuses x old new)) c.from.ensures c.refuse.ensures)

pub returns-in-Err : goal.returns-in-Err
returns-in-Err g c =
    no_job c.args.run c.args.job (reader_remaining g.R.Read.remaining c.args.reader.now) c.in-Err.refusal c.refuse-in-Err.result _ _ c.in-Err.ensures.none
    c.refuse-in-Err.ensures
