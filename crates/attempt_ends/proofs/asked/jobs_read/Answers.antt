use Rattle.std.proofs.Common.{subst}
use Rattle.job_file.specs.JobSet.{Answers}
use Rattle.attempt_ends.proofs.EndLemmas.{read_whole, read_none}
use Rattle.attempt_ends.proofs.asked.jobs_read.Goals as goal

pub returns-in-Ok : goal.returns-in-Ok
returns-in-Ok c = read_whole c.args.text.now _ c.in-Ok.ensures.0 c.in-Ok.ensures.1.jobs

pub returns-in-Err : goal.returns-in-Err
returns-in-Err c =
    read_none c.args.text.now c.in-Err.fault c.no_jobs.result c.no_jobs.ensures.none c.no_jobs.ensures.refused
    (subst (λ r. Answers r c.args.text.now) c.in-Err.is c.parse.ensures)
