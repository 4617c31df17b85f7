-- What is told of writes of the job itself, by its state.
use Rattle.std.proofs.Common.{◌≡◌, ℕ, zero, suc, ◌<◌, ◌≤◌, Bool, true, false, not, ◌&&◌, eqb, List, refl, sym, ap, ◌∙◌, inl, inr, arith}
use Rattle.std.specs.Prelude.{Option, Some, None, is_some, IsTrue, IsSomeAnd}
use Rattle.std.proofs.lemmas.Bool.{and_parts, eqb-true, eq-eqb, cases_eq}
use Rattle.std.proofs.lemmas.List.FromFn.{get_or-map-range_with_len}
use Rattle.fc_base.specs.declared.numbers.Key.{Key}
use Rattle.fc_base.specs.declared.record.JobParts.{JobParts}
use Rattle.write_order.specs.Blocks.{block_of}
use Rattle.verify_state.specs.State.{State}
use Rattle.recheck.specs.Expected.{issued_in, counts, greatest_below, last_completed, expected_by}
use Rattle.recheck.specs.Faults.{last_write, is_checked, is_expected}
use Rattle.recheck.specs.Laws.{FaultsAreLosses, IsLastCompleted}
use Rattle.diagnosis.specs.declared.holds.Holds.TheVariants as kinds
use Rattle.diagnosis.specs.Kinds.{BlockHolds}

greatest_passes : (test : ℕ → Bool) (n k : ℕ) → greatest_below test n ≡ Some k → (k < n) × (test k ≡ true)
greatest_passes test zero k e = absurd cc
greatest_passes test (suc n) k e = by (λ d. greatest_passes test n k d) (test n) refl
  where
    by : (greatest_below test n ≡ Some k → (k < n) × (test k ≡ true)) → (b : Bool) → test n ≡ b → (k < suc n) × (test k ≡ true)
    by below true is =
        let here : Some n ≡ Some k = rw is at e in
        let same : n ≡ k = cc in
        (omega arith, ap test (sym same) ∙ is)
    by below false is =
        let rest = below (rw is at e) in
        (omega (arith, rest.0), rest.1)

greatest_is_last : (test : ℕ → Bool) (n k j : ℕ) → greatest_below test n ≡ Some k → j < n → test j ≡ true → j ≤ k
greatest_is_last test zero k j e lt passes = absurd (omega arith)
greatest_is_last test (suc n) k j e lt passes = by (λ d less. greatest_is_last test n k j d less passes) (test n) refl
  where
    by : (greatest_below test n ≡ Some k → j < n → j ≤ k) → (b : Bool) → test n ≡ b → j ≤ k
    by below true is =
        let here : Some n ≡ Some k = rw is at e in
        let same : n ≡ k = cc in
        omega arith
    by below false is =
        elim (cases_eq j n) [
          | inl same ↦
              let both : true ≡ false = sym passes ∙ ap test same ∙ is in
              absurd cc
          | inr other ↦ below (rw is at e) (omega arith)
        ]

-- Writes that have completed to the block.
abbrev goes_there : JobParts → Option State → ℕ → ℕ → Bool
goes_there job state block k = counts state k && eqb (block_of job k) block

last_is : (key : Key) (job : JobParts) (state : Option State) (block : ℕ) → block < job.blocks
    → last_write (expected_by key job state) block ≡ last_completed job state block
last_is key job state block lt = get_or-map-range_with_len (last_completed job state) 0 job.blocks block block None lt (omega arith)

-- The last write by the check is the last one that has completed.
is_last : (job : JobParts) (state : Option State) (block last : ℕ) → last_completed job state block ≡ Some last → IsLastCompleted job state block last
is_last job state block last e =
    let there = greatest_passes (goes_there job state block) (issued_in job state) last e in
    let both = and_parts (counts state last) (eqb (block_of job last) block) there.1 in
    record {
      completed = record { issued = there.0; counted = both.0; goes = eqb-true (block_of job last) block both.1 };
      last = λ j completed. up_to j completed.issued completed.counted completed.goes;
    }
  where
    up_to : (j : ℕ) → j < issued_in job state → IsTrue (counts state j) → block_of job j ≡ block → j ≤ last
    up_to j issued counted goes =
        greatest_is_last (goes_there job state block) (issued_in job state) last j e issued (rw (counted, eq-eqb (block_of job j) block goes) refl)

some_last : (o : Option ℕ) (P : ℕ → Type 0) → IsSomeAnd o P → (last : ℕ) × ((o ≡ Some last) × P last)
some_last None P h = absurd h
some_last (Some last) P h = (last, (refl, h))

pub lost_is_older : (key : Key) (job : JobParts) (state : Option State) (block : ℕ) (bytes : List ℕ) (k : ℕ) → block < job.blocks
    → BlockHolds (expected_by key job state) block bytes (kinds.Lost k) → (last : ℕ) × (IsLastCompleted job state block last × (k < last))
lost_is_older key job state block bytes k lt h =
    let found = some_last (last_write (expected_by key job state) block) (λ last. k < last) h.1.1.1 in
    (found.0, (is_last job state block found.0 (sym (last_is key job state block lt) ∙ found.1.0), found.1.1))

-- A block of which something has completed, and which holds nothing expected, is a fault.
is_a_fault : (checked expected : Bool) → checked ≡ true → expected ≡ false → (checked && not expected) ≡ true
is_a_fault checked expected p q = rw (p, q) refl

some_is : (o : Option ℕ) (last : ℕ) → o ≡ Some last → is_some o ≡ true
some_is o last e = ap is_some e

pub unissued_is_not_issued : FaultsAreLosses → (key : Key) (job : JobParts) (state : Option State) (block : ℕ) (bytes : List ℕ) (k : ℕ) → block < job.blocks
    → BlockHolds (expected_by key job state) block bytes (kinds.Unissued k) → k < issued_in job state → block_of job k ≡ block → ⊥
unissued_is_not_issued law key job state block bytes k lt h issued goes = by (counts state k) refl
  where
    found : (last : ℕ) × ((last_write (expected_by key job state) block ≡ Some last) × (last < k))
    found = some_last (last_write (expected_by key job state) block) (λ last. last < k) h.1.1.1

    by : (b : Bool) → counts state k ≡ b → ⊥
    by true is =
        let le = (is_last job state block found.0 (sym (last_is key job state block lt) ∙ found.1.0)).last k (record { issued = issued; counted = is; goes = goes }) in
        let past = found.1.1 in
        absurd (omega arith)
    by false is =
        let fault = is_a_fault (is_checked (expected_by key job state) block) (is_expected (expected_by key job state) block bytes) (some_is _ found.0 found.1.0) h.0 in
        let lost = (law key job state (λ n. bytes) block lt).0 fault in
        lost.in_flight k (record { issued = issued; uncounted = is; goes = goes }) h.1.1.0.held
