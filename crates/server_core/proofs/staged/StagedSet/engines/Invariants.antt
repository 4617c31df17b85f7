use Rattle.std.proofs.Common.{◌≡◌, ◌-◌, length, take}
use Rattle.server_core.specs.Kept.{new_work, jobs_kept}
use Rattle.server_core.proofs.staged.StagedSet.engines.Given as goal

abbrev pub invariant-loop-index : goal.invariant-loop-index
invariant-loop-index l = l.kept.items ≡ jobs_kept (new_work l.me l.boot l.self) 0 (take l.index l.jobs)

abbrev pub decreases-loop-index : goal.decreases-loop-index
decreases-loop-index l = length l.jobs - l.index
