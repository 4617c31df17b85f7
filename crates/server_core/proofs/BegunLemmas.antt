-- What is kept of a run that begins.
use Rattle.std.proofs.Common.{◌≡◌, sym, ap, ◌∙◌, ℕ, ◌+◌, ◌<◌, List, [], ◌∷◌, ◌++◌, length, take, None}
use Rattle.std.specs.Prelude.{get_or}
use Rattle.job_file.specs.declared.job.Job.{Job}
use Rattle.server_core.specs.declared.job_run.JobRun.{JobRun}
use Rattle.server_core.specs.Request.{Request}
use Rattle.server_core.specs.Run.{Work, halt_of}
use Rattle.server_core.specs.Kept.{end_kept, job_kept, jobs_kept, RunIs, Begins}
use Rattle.server_core.proofs.NumberedLemmas.{take_numbered}
use Rattle.server_core.proofs.RowLemmas.{kept_by, same_kept}

pub begun : (number : ℕ) (jobs : List Job) (kept : List JobRun) (w : Work) → Begins number jobs kept w → RunIs (kept_by number None jobs kept) w
begun number jobs kept w b = record {
  is = same_kept _ _ _ _ _ _ _ _ (sym b.run_is) (sym (ap (λ (since : List Request). end_kept (halt_of w.run since)) b.since)) (sym b.jobs_are)
      (b.kept_is ∙ ap (jobs_kept w 0) (sym b.jobs_are));
  jobs = rw b.jobs_are b.set;
  run = rw b.run_is b.run;
  server = b.server;
}

pub begun_more : (w : Work) (jobs : List Job) (i : ℕ) (job : Job) (old new : List JobRun) (row : JobRun) → i < length jobs → job ≡ get_or jobs i job
    → old ≡ jobs_kept w 0 (take i jobs) → new ≡ old ++ row ∷ [] → row ≡ job_kept w i job
    → new ≡ jobs_kept w 0 (take (i + 1) jobs)
begun_more w jobs i job old new row lt at before push is =
    push ∙ ap (λ k. old ++ k ∷ []) is ∙ ap (λ ks. ks ++ job_kept w i job ∷ []) before ∙ sym (take_numbered (job_kept w) jobs i job lt at)
