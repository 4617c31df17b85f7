-- The jobs of a text that was read.
use Rattle.std.proofs.Common.{◌≡◌, ◌≢◌, ◌⊎◌, inl, inr, sym, ap, ◌∙◌, ℕ, List, [], Option, None, Some, if◌then◌else◌}
use Rattle.std.specs.Prelude.{is_none, IfOk, OnOk, Result, Ok, Err}
use Rattle.job_file.specs.declared.fault.JobFault.{JobFault}
use Rattle.job_file.specs.declared.fault.JobFault.TheVariants.{NoMemory}
use Rattle.job_file.specs.declared.job.Job.{Job}
use Rattle.job_file.specs.JobSet.{jobs_of, refusal_of}
use Rattle.attempt_ends.specs.Asked.{jobs_read}

pub read_whole : (text : List ℕ) (jobs : List Job) → refusal_of text ≡ None → jobs ≡ jobs_of text → jobs ≡ jobs_read text
unfolding jobs_read
read_whole text jobs free is = is ∙ sym (ap (λ r. if is_none r then jobs_of text else []) free)

pub read_refused : (text : List ℕ) (fault : JobFault) → fault ≢ NoMemory → (fault ≡ NoMemory) ⊎ (refusal_of text ≡ Some fault) → [] ≡ jobs_read text
unfolding jobs_read
read_refused text fault not (inl is) = absurd (not is)
read_refused text fault not (inr why) = sym (ap (λ r. if is_none r then jobs_of text else []) why)

-- Where a text isn't read there are no jobs, but for want of memory.
pub read_none : {E : Type 0} (text : List ℕ) (fault : JobFault) (r : Result (List Job) E) → IfOk r (λ jobs. jobs ≡ []) → OnOk r (fault ≢ NoMemory)
    → (fault ≡ NoMemory) ⊎ (refusal_of text ≡ Some fault) → IfOk r (λ jobs. jobs ≡ jobs_read text)
read_none text fault (Ok jobs) none not why = none ∙ read_refused text fault not why
read_none text fault (Err e) none not why = tt
