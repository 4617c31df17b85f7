use Rattle.job_file.proofs.Limits.{jobs_are_within_limits}
use Rattle.job_file.proofs.law.jobs_are_within_limits.Goals as goal

pub returns : goal.returns
returns c = jobs_are_within_limits
