-- The jobs that a text gives, as they are read.
use Rattle.std.proofs.Common.{◌≡◌, ◌⊎◌, inl, inr, refl, sym, ap, ◌∙◌, ℕ, true, false, List, Some}
use Rattle.std.specs.Prelude.{Ok, Err}
use Rattle.fc_base.specs.declared.fault.Fault.TheVariants.{WrongPhase, NoMemory}
use Rattle.fc_base.specs.Fault.{number_of}
use Rattle.job_file.specs.declared.fault.JobFault.{JobFault}
use Rattle.job_file.specs.declared.fault.JobFault.TheVariants as job_faults
use Rattle.job_file.specs.declared.job.JobSet.{JobSet}
use Rattle.job_file.specs.declared.job.Phase.{Phase}
use Rattle.job_file.specs.Fault.{fault_of}
use Rattle.job_file.specs.JobSet.{refusal_of, Answers}
use Rattle.server_core.specs.InnerCalls.{fault_of_text}
use Rattle.server_core.specs.Texts.{is_phase, jobs_for}

pub given : (phase : Phase) (text : List ℕ) (set : JobSet) → Answers (Ok set) text → is_phase phase set.phase ≡ true → jobs_for phase text ≡ Ok set.jobs
unfolding jobs_for
given phase text set h e = rw (h.0, ap (is_phase phase) (sym h.1.phase) ∙ e) (ap Ok (sym h.1.jobs))

pub other : (phase : Phase) (text : List ℕ) (set : JobSet) → Answers (Ok set) text → is_phase phase set.phase ≡ false
    → jobs_for phase text ≡ Err (number_of WrongPhase)
unfolding jobs_for
other phase text set h e = rw (h.0, ap (is_phase phase) (sym h.1.phase) ∙ e) refl

told_is : (fault : JobFault) → (fault_of_text fault ≡ NoMemory) ⊎ (fault_of fault ≡ fault_of_text fault)
told_is job_faults.TooLong = inr refl
told_is job_faults.NotAscii = inr refl
told_is (job_faults.BadLine n) = inr refl
told_is (job_faults.UnknownOption n) = inr refl
told_is (job_faults.BadValue n) = inr refl
told_is job_faults.NoJobs = inr refl
told_is job_faults.TooManyJobs = inr refl
told_is (job_faults.NoSize j) = inr refl
told_is (job_faults.OutOfLimits j) = inr refl
told_is (job_faults.SharedFile j) = inr refl
told_is job_faults.MixedPhases = inr refl
told_is job_faults.NoMemory = inl refl

by_told : (phase : Phase) (text : List ℕ) (fault : JobFault) → refusal_of text ≡ Some fault
    → (fault_of_text fault ≡ NoMemory) ⊎ (fault_of fault ≡ fault_of_text fault)
    → (fault_of_text fault ≡ NoMemory) ⊎ (jobs_for phase text ≡ Err (number_of (fault_of_text fault)))
unfolding jobs_for
by_told phase text fault e (inl none) = inl none
by_told phase text fault e (inr same) = inr (rw e (ap (λ f. Err (number_of f)) same))

pub refused : (phase : Phase) (text : List ℕ) (fault : JobFault) → Answers (Err fault) text
    → (fault_of_text fault ≡ NoMemory) ⊎ (jobs_for phase text ≡ Err (number_of (fault_of_text fault)))
refused phase text fault (inl e) = inl (ap fault_of_text e)
refused phase text fault (inr e) = by_told phase text fault e (told_is fault)
