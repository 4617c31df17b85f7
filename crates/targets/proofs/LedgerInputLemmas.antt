-- The front of an input by which a target is checked by its ledger, part by part.
use Rattle.std.proofs.Common.{◌≡◌, ℕ, false, List, [], ◌∷◌, length, Option, Some, None, IfSome, IfOk, Result, Ok, Err, refl, sym, ap, ◌∙◌, subst, inl, inr}
use Rattle.std.proofs.lemmas.List.{length-replicate}
use Rattle.std.proofs.lemmas.List.FromFn.{length-map-range_with_len}
use Rattle.fc_base.specs.declared.numbers.Key.{Key}
use Rattle.fc_base.specs.declared.record.JobParts.{JobParts}
use Rattle.fc_base.specs.declared.fault.Fault.{Fault}
use Rattle.fc_base.specs.declared.fault.Fault.TheVariants as faults
use Rattle.verify_state.specs.State.{State}
use Rattle.ledger.specs.declared.entry.RunWrite.{RunWrite}
use Rattle.ledger.specs.Entries.{behind_run, behind_lost_run}
use Rattle.ledger.specs.Places.{Place, entry_of}
use Rattle.program_io.specs.Refusals.{plain}
use Rattle.recheck.specs.Expected.{Expected, expected_by}
use Rattle.recheck.specs.Check.{Check, FitsIfAny, Starts}
use Rattle.targets.specs.declared.job_setup.JobSetup.{JobSetup}
use Rattle.targets.specs.declared.command.Since.{Since}
use Rattle.targets.specs.declared.command.Since.TheVariants as sinces
use Rattle.targets.specs.declared.ledger_input.Basis.{Basis}
use Rattle.targets.specs.declared.ledger_input.TheConstants.{MAX_LEDGER}
use Rattle.targets.specs.declared.ledger_refusal.LedgerRefusal.{LedgerRefusal}
use Rattle.targets.specs.declared.ledger_refusal.LedgerRefusal.TheVariants as refusals
use Rattle.targets.specs.declared.ledger_steps.LedgerMap.{LedgerMap}
use Rattle.targets.specs.Jobs.{ReadsJob}
use Rattle.targets.specs.LedgerInput.{BeginsNoLedger, BeginsSince, HasNoLedger, HasNoStateSince, IsLedgerIn, IsStateSince, Tells, place_since}
use Rattle.targets.specs.Ledgers.{ChecksTarget, RefusesBy}
use Rattle.targets.specs.LedgerJobs.{ChecksByLedger}
use Rattle.targets.specs.LedgerSteps.{ReadsBasis, StartsLedger}
use Rattle.targets.specs.Texts.{IsText}
use Rattle.targets.proofs.JobLemmas.{Begins, begins_with, state_leaves, text_leaves}

-- ---- known bytes leave known ones

since_leaves : (since : Since) (input : List ℕ) (new : Option (List ℕ)) (state : Option State) → IsStateSince since (Some input) new state
    → (rest : List ℕ) × (new ≡ Some rest)
since_leaves sinces.Run input new state is = state_leaves input new state is
since_leaves sinces.LostRun input new state is = (input, is.0)
since_leaves sinces.Rest input new state is = (input, is.0)

ledger_leaves : (job : JobParts) (input : List ℕ) (new : Option (List ℕ)) (place : Place) → IsLedgerIn job (Some input) new place → (rest : List ℕ) × (new ≡ Some rest)
ledger_leaves job input new place (bytes, is, tells) = text_leaves MAX_LEDGER input new bytes is

-- ---- what a check goes by

pub basis_read : (key : Key) (since : Since) (first rest mid target : Option (List ℕ)) (asked : JobSetup) (state : Option State) (check : Check) (known : Place) (made : Basis)
    → ReadsJob key.job first rest asked → IsStateSince since rest mid state → Starts (Ok check) key asked.rec state false → IsLedgerIn asked.rec mid target known
    → made.recheck ≡ check → made.asked ≡ place_since since check.expected known
    → IfSome first (λ input. ReadsBasis key since input target made)
basis_read key since None rest mid target asked state check known made reads is starts has holds is_asked = tt
basis_read key since (Some input) rest mid target asked state check known made reads is starts has holds is_asked =
    let at = begins_with key.job input rest asked reads in
    let of_it : IsStateSince since (Some at.behind) mid state = subst (λ r. IsStateSince since r mid state) at.leaves is in
    let left = since_leaves since at.behind mid state of_it in
    let led : IsLedgerIn at.job.rec (Some left.0) target known =
    subst (λ j. IsLedgerIn j (Some left.0) target known) at.rec (subst (λ m. IsLedgerIn asked.rec m target known) left.1 has) in
    let behind = ledger_leaves at.job.rec left.0 target known led in
    let mine : Starts (Ok check) key at.job.rec state false = subst (λ j. Starts (Ok check) key j state false) at.rec starts in
    record {
      job = at.job;
      state = state;
      target = behind.0;
      known = known;
      leaves = behind.1;
      begins = record {
        rest = left.0;
        begins = record {
          behind = at.behind;
          begins = at.begins;
          is_state = subst (λ m. IsStateSince since (Some at.behind) m state) left.1 of_it;
        };
        fits = mine.0;
        is_ledger = subst (λ t. IsLedgerIn at.job.rec (Some left.0) t known) behind.1 led;
      };
      expected = ap (λ (k : Check). k.expected) (holds ∙ mine.1);
      asked = is_asked ∙ ap (λ (k : Check). place_since since k.expected known) mine.1;
    }

-- A check is started by that.
pub started_by : (key : Key) (since : Since) (first left : Option (List ℕ)) (basis : Basis) (made : LedgerMap) → made.since ≡ since
    → basis ≡ record { recheck = made.recheck; asked = made.asked } → IfSome first (λ input. ReadsBasis key since input left basis)
    → IfSome first (λ input. StartsLedger key since input left made)
started_by key since None left basis made same is reads = tt
started_by key since (Some input) left basis made same is reads =
    record { since_is = same; basis = subst (λ b. ReadsBasis key since input left b) is reads }

-- A place has as many blocks behind what has happened as before.
blocks_since : (since : Since) (e : Expected) (known : Place) → length (place_since since e known).entries ≡ length known.entries
blocks_since sinces.Run e known = length-map-range_with_len (λ b. behind_run e b (entry_of known b)) 0 (length known.entries)
blocks_since sinces.LostRun e known = length-map-range_with_len (λ b. behind_lost_run e.job b (entry_of known b)) 0 (length known.entries)
blocks_since sinces.Rest e known = refl

blocks_told : (job : JobParts) (bytes : List ℕ) (known : Place) → Tells job bytes known → length known.entries ≡ job.blocks
blocks_told job [] known tells = ap (λ (p : Place). length p.entries) tells ∙ length-replicate {A = List RunWrite} job.blocks []
blocks_told job (b ∷ bs) known (few, spelled, size, blocks) = blocks

pub blocks_ready : (key : Key) (since : Since) (rest target : Option (List ℕ)) (job : JobParts) (state : Option State) (check : Check) (known place : Place)
    → Starts (Ok check) key job state false → IsLedgerIn job rest target known → place ≡ place_since since check.expected known
    → length place.entries ≡ check.expected.job.blocks
blocks_ready key since rest target job state check known place starts (bytes, is, tells) is_place =
    ap (λ (p : Place). length p.entries) is_place ∙ blocks_since since check.expected known ∙ blocks_told job bytes known tells
    ∙ ap (λ (k : Check). k.expected.job.blocks) (sym starts.1)

-- ---- why it isn't

pub no_state_since : (key : Key) (since : Since) (first rest : Option (List ℕ)) (asked : JobSetup) (fault : Fault) (refusal : LedgerRefusal) → ReadsJob key.job first rest asked
    → HasNoStateSince since rest fault → refusal ≡ refusals.Printed (plain fault) → IfSome first (λ input. BeginsNoLedger key since input refusal)
no_state_since key since None rest asked fault refusal reads none is = tt
no_state_since key since (Some input) rest asked fault refusal reads none is =
    let at = begins_with key.job input rest asked reads in
    inr (inl (at.job, at.behind, fault, at.begins, subst (λ r. HasNoStateSince since r fault) at.leaves none, is))

-- A job and a state begin known bytes.
begun : (key : Key) (since : Since) (input : List ℕ) (rest mid : Option (List ℕ)) (asked : JobSetup) (state : Option State) → (reads : ReadsJob key.job (Some input) rest asked)
    → IsStateSince since rest mid state → (left : List ℕ) × (mid ≡ Some left) × BeginsSince key since input left (begins_with key.job input rest asked reads).job state
begun key since input rest mid asked state reads is =
    let at = begins_with key.job input rest asked reads in
    let of_it : IsStateSince since (Some at.behind) mid state = subst (λ r. IsStateSince since r mid state) at.leaves is in
    let left = since_leaves since at.behind mid state of_it in (
      left.0,
      left.1,
      record {
        behind = at.behind;
        begins = at.begins;
        is_state = subst (λ m. IsStateSince since (Some at.behind) m state) left.1 of_it;
      },
    )

-- What refuses a start is a state that doesn't fit, or want of memory.
misfit_or_memory : (key : Key) (since : Since) (input left : List ℕ) (asked : JobSetup) (state : Option State) (fault : Fault) (refusal : LedgerRefusal)
    (rest : Option (List ℕ)) (reads : ReadsJob key.job (Some input) rest asked)
    → BeginsSince key since input left (begins_with key.job input rest asked reads).job state → Starts (Err fault) key asked.rec state false
    → refusal ≡ refusals.Printed (plain fault) → BeginsNoLedger key since input refusal
misfit_or_memory key since input left asked state fault refusal rest reads begins starts is = by fault starts is
  where
    at : Begins key.job input rest asked
    at = begins_with key.job input rest asked reads

    unfit : (f : Fault) → FitsIfAny state key asked.rec (Err f) → refusal ≡ refusals.Printed (plain f) → BeginsNoLedger key since input refusal
    unfit f none told =
        inr (inr (inl (at.job, left, state, f, begins, subst (λ j. FitsIfAny state key j (Err f)) at.rec none, told)))

    by : (f : Fault) → Starts (Err f) key asked.rec state false → refusal ≡ refusals.Printed (plain f) → BeginsNoLedger key since input refusal
    by faults.OtherKey none told = unfit faults.OtherKey none told
    by faults.OtherJob none told = unfit faults.OtherJob none told
    by faults.OtherPlace none told = unfit faults.OtherPlace none told
    by faults.NoMemory none told = inr (inr (inr (inr told)))
    by _ none told = absurd none

pub no_start_since : (key : Key) (since : Since) (first rest mid : Option (List ℕ)) (asked : JobSetup) (state : Option State) (fault : Fault) (refusal : LedgerRefusal)
    → ReadsJob key.job first rest asked → IsStateSince since rest mid state → Starts (Err fault) key asked.rec state false
    → refusal ≡ refusals.Printed (plain fault) → IfSome first (λ input. BeginsNoLedger key since input refusal)
no_start_since key since None rest mid asked state fault refusal reads is starts told = tt
no_start_since key since (Some input) rest mid asked state fault refusal reads is starts told =
    let left = begun key since input rest mid asked state reads is in
    misfit_or_memory key since input left.0 asked state fault refusal rest reads left.2 starts told

pub no_ledger : (key : Key) (since : Since) (first rest mid : Option (List ℕ)) (asked : JobSetup) (state : Option State) (refusal : LedgerRefusal)
    → ReadsJob key.job first rest asked → IsStateSince since rest mid state → HasNoLedger asked.rec mid refusal
    → IfSome first (λ input. BeginsNoLedger key since input refusal)
no_ledger key since None rest mid asked state refusal reads is none = tt
no_ledger key since (Some input) rest mid asked state refusal reads is none =
    let at = begins_with key.job input rest asked reads in
    let left = begun key since input rest mid asked state reads is in
    inr (inr (inr (inl (
      at.job,
      left.0,
      state,
      left.2,
      subst (λ j. HasNoLedger j (Some left.0) refusal) at.rec (subst (λ m. HasNoLedger asked.rec m refusal) left.1 none),
    ))))

-- ---- what is answered

pub answered_by_ledger : {E : Type 0} (key : Key) (since : Since) (first left : Option (List ℕ)) (made : LedgerMap) (status : Result ℕ E) (old new : Option (List ℕ))
    → IfSome first (λ input. StartsLedger key since input left made)
    → IfSome left (λ target. IfOk status (ChecksTarget made.since made.recheck.expected made.asked target old new))
    → IfSome first (λ input. IfOk status (ChecksByLedger key since input old new))
answered_by_ledger key since None left made status old new starts checks = tt
answered_by_ledger key since (Some input) left made (Err e) old new starts checks = tt
answered_by_ledger key since (Some input) left made (Ok s) old new starts checks =
    let known : ChecksTarget made.since made.recheck.expected made.asked starts.basis.target old new s =
    subst (λ l. IfSome l (λ target. ChecksTarget made.since made.recheck.expected made.asked target old new s)) starts.basis.leaves checks in
    inl (record {
      job = starts.basis.job;
      state = starts.basis.state;
      target = starts.basis.target;
      known = starts.basis.known;
      begins = starts.basis.begins;
      checks = subst (λ k. ChecksTarget k (expected_by key starts.basis.job.rec starts.basis.state)
          (place_since since (expected_by key starts.basis.job.rec starts.basis.state) starts.basis.known) starts.basis.target old new s) starts.since_is
          (subst (λ p. ChecksTarget made.since (expected_by key starts.basis.job.rec starts.basis.state) p starts.basis.target old new s) starts.basis.asked
          (subst (λ e. ChecksTarget made.since e made.asked starts.basis.target old new s) starts.basis.expected known));
    })

pub refused_by_ledger : {E : Type 0} (key : Key) (since : Since) (first : Option (List ℕ)) (refusal : LedgerRefusal) (status : Result ℕ E) (old new : Option (List ℕ))
    → IfSome first (λ input. BeginsNoLedger key since input refusal) → IfOk status (RefusesBy refusal old new)
    → IfSome first (λ input. IfOk status (ChecksByLedger key since input old new))
refused_by_ledger key since None refusal status old new none refuses = tt
refused_by_ledger key since (Some input) refusal (Err e) old new none refuses = tt
refused_by_ledger key since (Some input) refusal (Ok s) old new none refuses = inr (refusal, none, refuses)
