use Rattle.targets.proofs.JobLemmas.{check_refused}
use Rattle.targets.proofs.drive_check.check_job.Goals as goal

pub returns-in-Err : goal.returns-in-Err
returns-in-Err g c =
    check_refused c.args.run c.args.job c.key_of.result (g.R.Read.remaining c.args.reader.now) c.in-Err.refusal c.refuse.result
    (g.W.Write.contents c.args.writer.now) (g.W.Write.contents c.refuse.new.writer) c.key_of.ensures c.in-Err.ensures.none c.refuse.ensures
