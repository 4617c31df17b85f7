use Rattle.std.proofs.Common.{◌≡◌, map, take}
use Rattle.server_core.specs.KeptCheck.{progress_of, progress_begun}
use Rattle.server_core.proofs.open_check.progress_of_jobs.Given as goal

abbrev pub invariant-loop-job : goal.invariant-loop-job
invariant-loop-job l = map progress_of l.progress.items ≡ map progress_begun (take l.job-index l.jobs)
