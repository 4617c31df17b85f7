use Rattle.std.proofs.Common.{ap, false, [], refl, ◌∙◌, ℕ}
use Rattle.fc_base.specs.declared.record.JobParts.{JobParts}
use Rattle.engine.specs.Running.{Running, running_of}
use Rattle.server_core.specs.Words.{Staged}
use Rattle.server_core.specs.Kept.{new_work}
use Rattle.server_core.proofs.RowLemmas.{same_job_run}
use Rattle.server_core.proofs.BegunLemmas.{begun_more}
use Rattle.server_core.proofs.staged.StagedSet.engines.Goals as goal

-- The engine of a job that begins.
abbrev engine_of : ℕ → ℕ → ℕ → JobParts → ℕ → Running
engine_of me now_boot j job run = running_of (record { boot = now_boot; key = record { run = run; server = me; job = j }; job = job }) false []

pub loop-index-preserved : goal.loop-index-preserved
loop-index-preserved c =
    let job = c.index-jobs-index.result in
    let engine = c.in_ok-new.ensures.value ∙ ap (engine_of c.args.me c.args.boot c.loop-index.index job.rec) (ap (λ (s : Staged). s.run) c.self.view_is) in
    begun_more (new_work c.args.me c.args.boot c.args.self.now) c.as_slice-jobs.result.now c.loop-index.index job c.loop-index.kept.items c.push.new.self.items
    c.new-in-loop-index.result
    c.loop-index-test.true c.index-jobs-index.is c.loop-index.invariant c.in_ok-push.ensures.items
    (c.new-in-loop-index.ensures ∙ same_job_run _ _ _ _ _ _ _ _ engine refl refl refl)
