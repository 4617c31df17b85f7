-- What is shown of the run and of the check that are kept.
use Rattle.std.proofs.Common.{◌≡◌, refl, sym, ap, ◌∙◌, subst, ℕ, ◌≤◌, length, Option, None, Some}
use Rattle.std.specs.Prelude.{slice_get}
use Rattle.std.specs.Option.{option_map}
use Rattle.job_file.specs.declared.job.Job.{Job}
use Rattle.server_core.specs.declared.job_run.JobRun.{JobRun}
use Rattle.server_core.specs.Run.{Work, Halt, Triggered, Stopped, halt_of}
use Rattle.server_core.specs.Taken.{taken_by_halt, saved_state}
use Rattle.server_core.specs.Kept.{Kept, job_kept, RunIs}
use Rattle.server_core.specs.Check.{Check, progress_at, progress_in}
use Rattle.server_core.specs.KeptCheck.{CheckKept, check_kept, job_progress}
use Rattle.server_core.specs.Stands.{OpenIs}
use Rattle.server_core.proofs.NumberedLemmas.{job_of, each_at}
use Rattle.server_core.proofs.RunLemmas.{no_job}

-- The state that is kept of a job is the one that was taken.
pub taken_here : (kept : Kept) (w : Work) (i : ℕ) (k : JobRun) → RunIs kept w → slice_get kept.kept i ≡ Some k
    → k.taken ≡ taken_by_halt w i (halt_of w.run w.since)
taken_here kept w i k is at = ap (λ (j : JobRun). j.taken) (job_of (job_kept w) w.jobs i k (subst (λ (q : Kept). slice_get q.kept i ≡ Some k) is.is at)).2

-- Where there is no such job, none was taken.
pub taken_nowhere : (kept : Kept) (w : Work) (i : ℕ) → RunIs kept w → length kept.kept ≤ i → None ≡ taken_by_halt w i (halt_of w.run w.since)
taken_nowhere kept w i is past = by_halt (halt_of w.run w.since)
  where
    by_halt : (h : Option Halt) → None ≡ taken_by_halt w i h
    by_halt None = refl
    by_halt (Some (Triggered act before)) = sym (ap (λ (job : Option Job). saved_state w i job before) (no_job kept w i is past))
    by_halt (Some Stopped) = refl

at_job : (c : Check) (i : ℕ) (o : Option Job) → option_map (job_progress c i) o ≡ progress_at c i o
at_job c i None = refl
at_job c i (Some job) = refl

-- How far the check of a job is kept to be.
progress_here : (kept : CheckKept) (c : Check) (i : ℕ) → kept ≡ check_kept c → slice_get kept.progress i ≡ progress_at c i (slice_get c.jobs i)
progress_here kept c i is = ap (λ (k : CheckKept). slice_get k.progress i) is ∙ each_at (job_progress c) c.jobs i ∙ at_job c i (slice_get c.jobs i)

pub progress_shown : (me b : ℕ) (kept : CheckKept) (o : Option Check) (i : ℕ) → OpenIs me b (Some kept) o → slice_get kept.progress i ≡ progress_in o i
progress_shown me b kept None i k = elim k [ ]
progress_shown me b kept (Some c) i k = progress_here kept c i k.is
