use Rattle.server_core.specs.Kept.{taken_kept}
use Rattle.server_core.proofs.RowLemmas.{part_step}
use Rattle.server_core.proofs.run.take_all.Goals as goal

pub loop-job-preserved : goal.loop-job-preserved
loop-job-preserved c =
    part_step taken_kept c.args.jobs.now c.loop-job.jobs c.loop-job.job-index c.job-item.result c.take.new.self c.loop-job.invariant c.loop-job.auto.jobs
    c.loop-job-test.true c.job-item.is c.take.ensures
