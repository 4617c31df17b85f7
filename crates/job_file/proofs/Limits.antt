-- The jobs of a text without faults are within the limits.
use Rattle.std.proofs.Common.{◌≡◌, ◌==◌, ℕ, ◌+◌, ◌≤◌, Bool, true, false, not, ◌||◌, nat_lt, List, [], ◌∷◌}
use Rattle.std.proofs.Common.{◌++◌, length, replicate, None, slice_get, refl, ◌∙◌, arith, length-append}
use Rattle.std.specs.List.{AllByRecursion}
use Rattle.std.proofs.lemmas.Bool.Decides.{nat_tests}
use Rattle.std.proofs.lemmas.List.{length-replicate}
use Rattle.std.proofs.lemmas.List.Sums.{sum_by-cons}
use Rattle.fc_base.specs.declared.limits.TheConstants.{MAX_JOBS}
use Rattle.fc_base.specs.JobParts.{is_within_limits}
use Rattle.job_file.specs.declared.draft.Draft.{Draft}
use Rattle.job_file.specs.declared.fault.JobFault.{JobFault}
use Rattle.job_file.specs.declared.fault.JobFault.TheVariants.{NoJobs, TooManyJobs, NoSize, OutOfLimits}
use Rattle.job_file.specs.declared.job.Job.{Job}
use Rattle.job_file.specs.Draft.{copies_of, count_of, with_copies, parts_of, is_past_limits}
use Rattle.job_file.specs.Draft.{lacks_pattern_under, verify_of, size_of, draft_faults, jobs_from, faults_from}
use Rattle.job_file.specs.Fault.{when}
use Rattle.job_file.specs.JobSet.{byte_faults, line_faults, count_faults, set_faults, faults_of}
use Rattle.job_file.specs.Line.{lines_of}
use Rattle.job_file.specs.Section.{drafts_of}
use Rattle.job_file.specs.Laws.{AreWithinLimits, JobsAreWithinLimits}

no_first : (faults : List JobFault) → slice_get faults 0 ≡ None → faults ≡ []
no_first [] none = refl
no_first (f ∷ fs) none = absurd cc

front_none : (a b : List JobFault) → a ++ b ≡ [] → a ≡ []
front_none [] b none = refl
front_none (f ∷ fs) b none = absurd cc

rest_none : (a b : List JobFault) → a ++ b ≡ [] → b ≡ []
rest_none [] b none = none
rest_none (f ∷ fs) b none = absurd cc

not_when : (test : Bool) (fault : JobFault) → when test fault ≡ [] → test ≡ false
not_when true fault none = absurd cc
not_when false fault none = refl

no_either : (within lacks : Bool) → (not within || lacks) ≡ false → within ≡ true
no_either true lacks none = refl
no_either false lacks none = absurd cc

-- ---- the jobs one by one

within : (number : ℕ) (ds : List Draft) → faults_from number ds ≡ [] →
    AllByRecursion (λ (job : Job). is_within_limits job.rec ≡ true) (jobs_from number ds)
within number [] none = tt
within number (d ∷ ds) none = (here, within (number + 1) ds (rest_none (draft_faults number d) (faults_from (number + 1) ds) none))
  where
    here : is_within_limits (parts_of number d.settings) ≡ true
    here =
        let faults = front_none (draft_faults number d) (faults_from (number + 1) ds) none in
        let past = rest_none (when (size_of d.settings == 0) (NoSize number)) (when (is_past_limits number d.settings) (OutOfLimits number)) faults in
        no_either (is_within_limits (parts_of number d.settings)) (lacks_pattern_under (verify_of d.settings) d.settings.verify_pattern)
        (not_when (is_past_limits number d.settings) (OutOfLimits number) past)

-- ---- how many there are

length-jobs_from : (number : ℕ) (ds : List Draft) → length (jobs_from number ds) ≡ length ds
length-jobs_from number [] = refl
length-jobs_from number (d ∷ ds) = let rest = length-jobs_from (number + 1) ds in omega (arith, rest)

length-with_copies : (ds : List Draft) → length (with_copies ds) ≡ count_of ds
length-with_copies [] = refl
length-with_copies (d ∷ ds) =
    omega (
      arith,
      length-append (replicate (copies_of d) d) (with_copies ds),
      length-replicate (copies_of d) d,
      length-with_copies ds,
      sum_by-cons copies_of d ds,
    )

count_is : (ds : List Draft) → length (jobs_from 0 (with_copies ds)) ≡ count_of ds
count_is ds = length-jobs_from 0 (with_copies ds) ∙ length-with_copies ds

at_least : (n : ℕ) → (n == 0) ≡ false → 1 ≤ n
at_least n some = grind (arith, nat_tests)

at_most : (n : ℕ) → nat_lt MAX_JOBS n ≡ false → n ≤ MAX_JOBS
at_most n few = grind (arith, nat_tests)

set_within : (ds : List Draft) → set_faults ds ≡ [] → AreWithinLimits (jobs_from 0 (with_copies ds))
set_within ds none =
    let counted = front_none (count_faults ds) _ none in
    let jobs = front_none (faults_from 0 (with_copies ds)) _ (rest_none (count_faults ds) _ none) in
    let some = at_least (count_of ds) (not_when (count_of ds == 0) NoJobs (front_none _ _ counted)) in
    let few : count_of ds ≤ MAX_JOBS =
    at_most (count_of ds) (not_when (nat_lt MAX_JOBS (count_of ds)) TooManyJobs (rest_none (when (count_of ds == 0) NoJobs) _ counted)) in
    record {
      some = omega (arith, some, count_is ds);
      few = omega (arith, few, count_is ds);
      within = within 0 (with_copies ds) jobs;
    }

pub jobs_are_within_limits : JobsAreWithinLimits
jobs_are_within_limits text none =
    let faults = no_first (faults_of text) none in
    set_within (drafts_of (lines_of text)) (rest_none (line_faults 1 false (lines_of text)) _ (rest_none (byte_faults text) _ faults))
