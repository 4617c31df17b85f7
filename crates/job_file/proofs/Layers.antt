-- Layers that look for faults one after the other.
use Rattle.std.proofs.Common.{◌≡◌, ◌≢◌, ◌==◌, ℕ, ◌⊎◌, inl, inr, Bool, true, false, cond, not, ◌||◌, List, []}
use Rattle.std.proofs.Common.{◌∷◌, ◌++◌, Some, None, slice_get, Result, refl, sym, ◌∙◌, ap, subst, arith}
use Rattle.std.proofs.lemmas.Bool.Decides.{nat_tests}
use Rattle.fc_base.specs.declared.record.JobParts.{JobParts}
use Rattle.job_file.specs.declared.fault.JobFault.{JobFault}
use Rattle.job_file.specs.declared.fault.JobFault.TheVariants.{NoMemory}
use Rattle.job_file.specs.Fault.{when, Gives}

-- The first fault of the front is the first of all.
first_of_front : (a b : List JobFault) (f : JobFault) → slice_get a 0 ≡ Some f → slice_get (a ++ b) 0 ≡ Some f
first_of_front [] b f is = absurd cc
first_of_front (x ∷ xs) b f is = is

-- A fault that the front told is the first of all, unless memory ran out.
pub told_in_front : (f : JobFault) (a b all : List JobFault) → a ++ b ≡ all → (f ≡ NoMemory) ⊎ (slice_get a 0 ≡ Some f)
    → (f ≡ NoMemory) ⊎ (slice_get all 0 ≡ Some f)
told_in_front f a b all is (inl memory) = inl memory
told_in_front f a b all is (inr first) = inr (ap (λ fs. slice_get fs 0) (sym is) ∙ first_of_front a b f first)

-- A front without faults leaves the others.
pub nothing_in_front : (a b all : List JobFault) → a ++ b ≡ all → a ≡ [] → b ≡ all
nothing_in_front a b all is none = ap (λ fs. fs ++ b) (sym none) ∙ is

-- What a layer gives, under other names.
pub gives_at : {X Y : Type 0} (view : X → Y) (r : Result X JobFault) {faults more : List JobFault} {value other : Y} → Gives view r faults value → faults ≡ more
    → value ≡ other → Gives view r more other
gives_at {X} {Y} view r {faults} {more} {value} {other} gives is same =
    let P : List JobFault → Type 0 = λ fs. Gives view r fs other in
    let Q : Y → Type 0 = λ v. Gives view r faults v in
    subst P is (subst Q same gives)

pub is_not_zero : (n : ℕ) → n ≢ 0 → (n == 0) ≡ false
is_not_zero n some = grind (arith, nat_tests)

-- A record that was made has no fault.
pub record_made : (no_size lacks within : Bool) (parts made : JobParts) (f g : JobFault) → no_size ≡ false → lacks ≡ false
    → Some made ≡ cond within (Some parts) None → (when no_size f ++ when (not within || lacks) g ≡ []) × (made ≡ parts)
record_made false false true parts made f g sized has is = (refl, cc)
record_made false false false parts made f g sized has is = absurd cc
record_made true lacks within parts made f g sized has is = absurd cc
record_made false true within parts made f g sized has is = absurd cc
