use Rattle.std.proofs.Common.{◌≡◌, ◌++◌, map, take, drop}
use Rattle.server_core.specs.Kept.{taken_kept}
use Rattle.server_core.proofs.run.take_all.Given as goal

abbrev pub invariant-loop-job : goal.invariant-loop-job
invariant-loop-job l = l.jobs ≡ map taken_kept (take l.job-index l.initial.jobs) ++ drop l.job-index l.initial.jobs
