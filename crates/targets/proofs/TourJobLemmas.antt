-- What is answered for a job that is toured, part by part.
use Rattle.std.proofs.Common.{◌≡◌, ℕ, List, Option, Some, None, IfSome, IfOk, Result, Ok, Err, refl, sym, ◌∙◌, subst, inl, inr}
use Rattle.fc_base.specs.declared.fault.Fault.TheVariants.{WrongPhase}
use Rattle.job_file.specs.declared.job.Phase.TheVariants.{Write}
use Rattle.program_io.specs.declared.refusal.PrintedRefusal.{PrintedRefusal}
use Rattle.program_io.specs.Refusals.{plain}
use Rattle.targets.specs.declared.job_setup.JobSetup.{JobSetup}
use Rattle.targets.specs.declared.tour.TourEnd.{TourEnd}
use Rattle.targets.specs.Jobs.{CannotRun, GivesNoJob, ReadsJob, Refuses}
use Rattle.targets.specs.TourJobs.{FinishesTour, ToursJob}
use Rattle.targets.specs.Tours.{Tours}
use Rattle.targets.proofs.JobLemmas.{begins_with}

-- A job that writes is toured.
pub toured : {E : Type 0} (number : ℕ) (first rest : Option (List ℕ)) (asked : JobSetup) (r : Result ℕ E) (end : TourEnd) (old mid new : Option (List ℕ))
    → ReadsJob number first rest asked → asked.phase ≡ Write → IfSome rest (λ bytes. Tours number asked.rec bytes old mid end)
    → IfOk r (FinishesTour end mid new) → IfSome first (λ input. IfOk r (ToursJob number input old new))
toured number None rest asked r end old mid new reads writes tours finishes = tt
toured number (Some input) rest asked (Err e) end old mid new reads writes tours finishes = tt
toured number (Some input) rest asked (Ok status) end old mid new reads writes tours finishes =
    let at = begins_with number input rest asked reads in
    let known : Tours number asked.rec at.behind old mid end =
    subst (λ r. IfSome r (λ bytes. Tours number asked.rec bytes old mid end)) at.leaves tours in
    inl (record {
      job = at.job;
      behind = at.behind;
      end = end;
      told = mid;
      begins = at.begins;
      writes = sym at.phase ∙ writes;
      tours = subst (λ j. Tours number j at.behind old mid end) at.rec known;
      finishes = finishes;
    })

-- A job that doesn't write isn't.
pub only_reads : (number : ℕ) (first rest : Option (List ℕ)) (asked : JobSetup) → ReadsJob number first rest asked → (asked.phase ≡ Write → ⊥)
    → IfSome first (λ input. CannotRun input number (plain WrongPhase))
only_reads number None rest asked reads other = tt
only_reads number (Some input) rest asked reads other =
    inr (reads.text, rest, reads.is_text, reads.is_asked.is_job.sound, λ writes. other (reads.is_asked.phase ∙ writes), refl)

-- Nor one that isn't there.
pub is_none : (number : ℕ) (first : Option (List ℕ)) (refusal : PrintedRefusal) → GivesNoJob first number refusal
    → IfSome first (λ input. CannotRun input number refusal)
is_none number None refusal none = tt
is_none number (Some input) refusal none = inl none

pub not_toured : {E : Type 0} (number : ℕ) (first : Option (List ℕ)) (refusal : PrintedRefusal) (r : Result ℕ E) (old new : Option (List ℕ))
    → IfSome first (λ input. CannotRun input number refusal)
    → IfOk r (Refuses refusal old new) → IfSome first (λ input. IfOk r (ToursJob number input old new))
not_toured number None refusal r old new cannot refuses = tt
not_toured number (Some input) refusal (Err e) old new cannot refuses = tt
not_toured number (Some input) refusal (Ok status) old new cannot refuses = inr (refusal, cannot, refuses)
