-- What is answered where a target is to be mapped, part by part.
use Rattle.std.proofs.Common.{◌≡◌, ℕ, Bool, true, false, List, [], ◌∷◌, length, Option, Some, None, slice_index_or, IfSome, IfOk, Result, Ok, Err, refl, sym, ap, ◌∙◌, subst, inl, inr, arith}
use Rattle.std.specs.Io.KnownBytes.{Consumes}
use Rattle.std.proofs.KnownBytes.{Consumes-trans}
use Rattle.fc_base.specs.declared.numbers.Key.{Key}
use Rattle.fc_base.specs.declared.record.JobParts.{JobParts}
use Rattle.fc_base.specs.declared.fault.Fault.{Fault}
use Rattle.fc_base.specs.declared.fault.Fault.TheVariants as faults
use Rattle.verify_state.specs.State.{State}
use Rattle.program_io.specs.declared.refusal.PrintedRefusal.{PrintedRefusal}
use Rattle.program_io.specs.Refusals.{plain}
use Rattle.recheck.specs.Expected.{expected_by}
use Rattle.recheck.specs.Check.{Check, Starts, start}
use Rattle.targets.specs.declared.job_setup.JobSetup.{JobSetup}
use Rattle.targets.specs.declared.map.Map.{Map}
use Rattle.targets.specs.declared.map_input.BlockRead.{BlockRead}
use Rattle.targets.specs.declared.map_input.BlockRead.TheVariants as cames
use Rattle.targets.specs.Checks.{Checks}
use Rattle.targets.specs.Jobs.{ReadsJob, Refuses}
use Rattle.targets.specs.Reports.{CannotCheck, IsStateIn}
use Rattle.targets.specs.MapInput.{BlockComes, Comes, FillsOrEnds}
use Rattle.targets.specs.MapJobs.{MapsJob, StartsMap, misfit}
use Rattle.targets.specs.Units.{unit_fits}
use Rattle.targets.specs.Maps.{MapsTarget}
use Rattle.targets.specs.Mapping.{IsReady}
use Rattle.targets.proofs.JobLemmas.{begins_with, checked, not_checked, state_leaves}

-- ---- a block behind its byte

one_byte : (flag : List ℕ) → length flag ≡ 1 → slice_index_or flag 0 0 ≡ 1 → flag ≡ 1 ∷ []
one_byte [] len is = absurd cc
one_byte (x ∷ []) len is = ap (λ k. k ∷ []) is
one_byte (x ∷ y ∷ l) len is = absurd (omega (arith, len))

pub comes : (old mid new : Option (List ℕ)) (flag buffer : List ℕ) (r : Result BlockRead Fault) → Consumes old mid (1 ∷ []) → BlockComes mid new buffer r
    → Comes old new buffer r
comes old mid new flag buffer (Ok cames.Bytes) first behind = Consumes-trans old mid new (1 ∷ []) buffer first behind
comes old mid new flag buffer (Ok cames.Unread) first behind = absurd behind
comes old mid new flag buffer (Ok cames.End) first (part, read, short, end) =
    (1 ∷ part, Consumes-trans old mid new (1 ∷ []) part first read, inr (part, refl, short), end)
comes old mid new flag buffer (Err fault) first is = subst (λ f. Comes old new buffer (Err f)) (sym is) tt

pub comes_behind : (old mid new : Option (List ℕ)) (flag buffer : List ℕ) (b : Bool) (r : Result BlockRead Fault) → b ≡ true → FillsOrEnds old mid flag (Ok b)
    → length flag ≡ 1 → slice_index_or flag 0 0 ≡ 1 → BlockComes mid new buffer r → Comes old new buffer r
comes_behind old mid new flag buffer false r is first len one behind = absurd cc
comes_behind old mid new flag buffer true r is first len one behind =
    comes old mid new flag buffer r (subst (Consumes old mid) (one_byte flag len one) first) behind

-- ---- a map is started

-- What refuses a start refuses a check.
pub starts_no_check : (key : Key) (job : JobParts) (state : Option State) (fatal : Bool) (bytes : List ℕ) (fault : Fault)
    → Starts (Err fault) key job state false → Checks key job state fatal bytes (Err fault)
starts_no_check key job state fatal bytes faults.OtherKey none = none
starts_no_check key job state fatal bytes faults.OtherJob none = none
starts_no_check key job state fatal bytes faults.OtherPlace none = none
starts_no_check key job state fatal bytes faults.NoMemory none = tt
starts_no_check key job state fatal bytes _ none = absurd none

if_known : (input : Option (List ℕ)) (P : List ℕ → Type 0) → ((bytes : List ℕ) → P bytes) → IfSome input P
if_known None P f = tt
if_known (Some bytes) P f = f bytes

pub no_start : (key : Key) (first rest target : Option (List ℕ)) (asked : JobSetup) (state : Option State) (fault : Fault)
    (refusal : PrintedRefusal) → ReadsJob key.job first rest asked → IsStateIn rest target state
    → Starts (Err fault) key asked.rec state false → refusal ≡ plain fault → IfSome first (λ input. CannotCheck key input refusal)
no_start key first rest target asked state fault refusal reads is none refused =
    not_checked key first fault refusal
    (checked key first rest target asked state (Err fault) reads is
    (if_known target _ (λ bytes. starts_no_check key asked.rec state asked.fatal bytes fault none))) refused

pub started : (key : Key) (first rest target : Option (List ℕ)) (asked : JobSetup) (state : Option State) (check : Check) (made : Map)
    → ReadsJob key.job first rest asked → IsStateIn rest target state
    → Starts (Ok check) key asked.rec state false → made.check ≡ check → length made.bytes.items ≡ asked.rec.bs → length made.wanted.items ≡ asked.rec.bs → made.unread ≡ false
    → IfSome first (λ input. StartsMap key input target made)
started key None rest target asked state check made reads is starts holds room wanted none = tt
started key (Some input) rest target asked state check made reads is starts holds room wanted none =
    let at = begins_with key.job input rest asked reads in
    let of_it : IsStateIn (Some at.behind) target state = subst (λ r. IsStateIn r target state) at.leaves is in
    let left = state_leaves at.behind target state of_it in
    let mine : Starts (Ok check) key at.job.rec state false = subst (λ j. Starts (Ok check) key j state false) at.rec starts in
    record {
      job = at.job;
      state = state;
      target = left.0;
      leaves = left.1;
      begins = record {
        behind = at.behind;
        begins = at.begins;
        is_state = subst (λ t. IsStateIn (Some at.behind) t state) left.1 of_it;
        fits = mine.0;
      };
      check = holds ∙ mine.1;
      room = room ∙ ap (λ (j : JobParts). j.bs) at.rec;
      wanted = wanted ∙ ap (λ (j : JobParts). j.bs) at.rec;
      none = none;
    }

pub is_ready : (key : Key) (job : JobParts) (state : Option State) (check : Check) (made : Map) → Starts (Ok check) key job state false
    → made.check ≡ check → length made.bytes.items ≡ job.bs → length made.wanted.items ≡ job.bs → made.unread ≡ false → IsReady made
is_ready key job state check made starts holds room wanted none =
    let is : made.check ≡ start (expected_by key job state) false = holds ∙ starts.1 in
    record {
      starts = is ∙ ap (λ (k : Check). start k.expected false) (sym is);
      room = room ∙ ap (λ (k : Check). k.expected.job.bs) (sym is);
      wanted = wanted ∙ ap (λ (k : Check). k.expected.job.bs) (sym is);
      none = none;
    }

-- ---- a map is answered

pub answered : {E : Type 0} (key : Key) (unit : Option ℕ) (first left : Option (List ℕ)) (made : Map) (size : ℕ) (status : Result ℕ E)
    (old new : Option (List ℕ)) → size ≡ made.check.expected.job.bs → unit_fits unit size ≡ true
    → IfSome first (λ input. StartsMap key input left made)
    → IfSome left (λ target. IfOk status (MapsTarget unit made.check.expected target old new))
    → IfSome first (λ input. IfOk status (MapsJob key unit input old new))
answered key unit None left made size status old new is fits starts maps = tt
answered key unit (Some input) left made size (Err e) old new is fits starts maps = tt
answered key unit (Some input) left made size (Ok s) old new is fits starts maps =
    let known : MapsTarget unit made.check.expected starts.target old new s =
    subst (λ l. IfSome l (λ target. MapsTarget unit made.check.expected target old new s)) starts.leaves maps in
    inl (record {
      job = starts.job;
      state = starts.state;
      target = starts.target;
      begins = starts.begins;
      fits = sym (ap (unit_fits unit) (is ∙ ap (λ (k : Check). k.expected.job.bs) starts.check)) ∙ fits;
      maps = subst (λ (k : Check). MapsTarget unit k.expected starts.target old new s) starts.check known;
    })

pub refused : {E : Type 0} (key : Key) (unit : Option ℕ) (first : Option (List ℕ)) (refusal : PrintedRefusal) (status : Result ℕ E)
    (old new : Option (List ℕ)) → IfSome first (λ input. CannotCheck key input refusal) → IfOk status (Refuses refusal old new)
    → IfSome first (λ input. IfOk status (MapsJob key unit input old new))
refused key unit None refusal status old new cannot refuses = tt
refused key unit (Some input) refusal (Err e) old new cannot refuses = tt
refused key unit (Some input) refusal (Ok s) old new cannot refuses = inr (refusal, inl cannot, refuses)

-- The unit doesn't fit.
pub misfits : {E : Type 0} (key : Key) (unit : Option ℕ) (first left : Option (List ℕ)) (made : Map) (size : ℕ) (refusal : PrintedRefusal)
    (status : Result ℕ E) (old new : Option (List ℕ)) → size ≡ made.check.expected.job.bs → unit_fits unit size ≡ false → refusal ≡ misfit key.job
    → IfSome first (λ input. StartsMap key input left made) → IfOk status (Refuses refusal old new)
    → IfSome first (λ input. IfOk status (MapsJob key unit input old new))
misfits key unit None left made size refusal status old new is unfit says starts refuses = tt
misfits key unit (Some input) left made size refusal (Err e) old new is unfit says starts refuses = tt
misfits key unit (Some input) left made size refusal (Ok s) old new is unfit says starts refuses =
    inr (
      refusal,
      inr (
        starts.job,
        starts.state,
        starts.target,
        starts.begins,
        sym (ap (unit_fits unit) (is ∙ ap (λ (k : Check). k.expected.job.bs) starts.check)) ∙ unfit,
        says,
      ),
      refuses,
    )
