use Rattle.job_file.proofs.Copies.{JobsSoFar}
use Rattle.job_file.proofs.parser.jobs_of.Given as goal

abbrev pub invariant-loop-draft : goal.invariant-loop-draft
invariant-loop-draft l = JobsSoFar l.drafts l.draft-index l.jobs.items
