use Rattle.std.proofs.Common.{◌≡◌, ◌++◌, map, take, drop}
use Rattle.server_core.specs.Kept.{stopped_kept}
use Rattle.server_core.proofs.run.stop_all.Given as goal

abbrev pub invariant-loop-job : goal.invariant-loop-job
invariant-loop-job l = l.jobs ≡ map stopped_kept (take l.job-index l.initial.jobs) ++ drop l.job-index l.initial.jobs
