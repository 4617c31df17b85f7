-- What it says of a state that it fits, or why it doesn't.
use Rattle.std.proofs.Common.{◌≡◌, ◌⊎◌, ◌≤◌, Bool, true, false, not, ◌&&◌, refl, inl, inr, arith}
use Rattle.std.specs.Prelude.{Option, Some, None, Ok, Err, nat_le, bytes_eq, if◌then◌else◌}
use Rattle.std.proofs.lemmas.Bool.{and_parts, leb-true}
use Rattle.fc_base.specs.declared.numbers.Key.{Key}
use Rattle.fc_base.specs.declared.record.JobParts.{JobParts}
use Rattle.fc_base.specs.declared.fault.Fault.{Fault}
use Rattle.fc_base.specs.declared.fault.Fault.TheVariants.{OtherKey, OtherJob, OtherPlace}
use Rattle.fc_base.specs.Keys.{is_same_key}
use Rattle.write_order.specs.Places.{place}
use Rattle.verify_state.specs.State.{State}
use Rattle.verify_state.specs.Same.{is_of_kind, is_of_region}
use Rattle.verify_state.specs.Misfit.{is_of_job, misfit, fit_answer}
use Rattle.recheck.specs.Expected.{issued_in}
use Rattle.recheck.specs.Check.{FitsIfAny, Starts}

-- The first of three tests that fails.
abbrev first_failed : Bool → Bool → Bool → Option Fault
first_failed key job place =
    if not key then Some OtherKey else (if not job then Some OtherJob else (if not place then Some OtherPlace else None))

none_failed : (key job place : Bool) → Ok tt ≡ fit_answer (first_failed key job place) → job ≡ true
none_failed true true place e = refl
none_failed true false place e = absurd cc
none_failed false job place e = absurd cc

one_failed : (key job place : Bool) (f : Fault) → Err f ≡ fit_answer (first_failed key job place) → (f ≡ OtherKey) ⊎ ((f ≡ OtherJob) ⊎ (f ≡ OtherPlace))
one_failed false job place f e = inl cc
one_failed true false place f e = inr (inl cc)
one_failed true true false f e = inr (inr cc)
one_failed true true true f e = absurd cc

-- No more writes were issued than the job has.
pub issued_fits : (state : Option State) (key : Key) (job : JobParts) → FitsIfAny state key job (Ok tt) → issued_in job state ≤ job.total
unfolding misfit
issued_fits None key job fits = omega arith
issued_fits (Some s) key job fits =
    let of_job : is_of_job s job ≡ true = none_failed (is_same_key s.key key) (is_of_job s job) (bytes_eq s.place (place job s.issued)) fits in
    leb-true s.issued job.total (and_parts (is_of_kind s.job job && is_of_region s.job job) (nat_le s.issued job.total) of_job).1

-- A misfit is one of three.
pub starts_not : (state : Option State) (key : Key) (job : JobParts) (fatal : Bool) (f : Fault) → FitsIfAny state key job (Err f)
    → Starts (Err f) key job state fatal
unfolding misfit
starts_not None key job fatal f fits = absurd fits
starts_not (Some s) key job fatal f fits =
    by (one_failed (is_same_key s.key key) (is_of_job s job) (bytes_eq s.place (place job s.issued)) f fits)
  where
    by : (f ≡ OtherKey) ⊎ ((f ≡ OtherJob) ⊎ (f ≡ OtherPlace)) → Starts (Err f) key job (Some s) fatal
    by (inl is) = rw is (rw is at fits)
    by (inr (inl is)) = rw is (rw is at fits)
    by (inr (inr is)) = rw is (rw is at fits)
