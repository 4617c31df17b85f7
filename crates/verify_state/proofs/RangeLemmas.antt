-- Reading the front of a state.
use Rattle.std.proofs.Common.{◌≡◌, ℕ, ◌≤◌, Bool, true, false, ◌&&◌, List, Some, None, refl, sym, ap, ◌∙◌}
use Rattle.std.specs.Prelude.{if◌then◌else◌}
use Rattle.std.proofs.lemmas.Bool.{and_parts}
use Rattle.fc_base.specs.declared.limits.TheConstants.{MAX_WINDOW}
use Rattle.fc_base.specs.declared.record.JobParts.{JobParts}
use Rattle.fc_base.specs.JobParts.{is_within_limits}
use Rattle.fc_base.specs.Keys.{is_key}
use Rattle.verify_state.proofs.LimitLemmas.{window_limit}
use Rattle.verify_state.specs.Reading.{key_in, job_in, has_codes, has_fields, has_ranges}

-- no record, so the ranges don't hold
none_by : (b r : Bool) (job : JobParts) → (if b then Some job else None) ≡ None → (b && r) ≡ false
none_by true r job e = absurd cc
none_by false r job e = refl

pub made_none : (bytes : List ℕ) (job : JobParts) → job ≡ job_in bytes → (if is_within_limits job then Some job else None) ≡ None → has_ranges bytes ≡ false
unfolding has_ranges
made_none bytes job is e = ap (λ j. is_within_limits j && has_fields bytes) (sym is) ∙ none_by (is_within_limits job) (has_fields bytes) job e

-- a record is that of the settings, which are within the limits
pub made_some : (b : Bool) (job made : JobParts) → (if b then Some job else None) ≡ Some made → (b ≡ true) × (made ≡ job)
made_some true job made e = (refl, cc)
made_some false job made e = absurd cc

pub ranges_by : (bytes : List ℕ) (job : JobParts) (r : Bool) → job ≡ job_in bytes → is_within_limits job ≡ true → r ≡ has_fields bytes → has_ranges bytes ≡ r
unfolding has_ranges
ranges_by bytes job r is t e = ap (λ j. is_within_limits j && has_fields bytes) (sym is) ∙ rw (t, ← e) refl

-- what stands in its ranges has a key in its ranges
pub has_key : (bytes : List ℕ) → has_ranges bytes ≡ true → is_key (key_in bytes) ≡ true
unfolding has_ranges
has_key bytes e =
    let fields = and_parts (is_within_limits (job_in bytes)) (has_fields bytes) e in
    (and_parts (has_codes bytes) (is_key (key_in bytes)) (and_parts (has_codes bytes && is_key (key_in bytes)) _ fields.1).0).1

-- and a window of at most MAX_WINDOW numbers
pub narrow : (bytes : List ℕ) → has_ranges bytes ≡ true → (job_in bytes).window ≤ MAX_WINDOW
unfolding has_ranges
narrow bytes e = window_limit (job_in bytes) (and_parts (is_within_limits (job_in bytes)) (has_fields bytes) e).0
