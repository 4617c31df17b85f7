-- Which blocks have lost their writes.
use Rattle.std.proofs.Common.{◌≡◌, ◌⊎◌, ◌↔◌, ℕ, zero, suc, ◌<◌, ◌≤◌, Bool, true, false, ◌&&◌, ◌||◌, not, eqb}
use Rattle.std.proofs.Common.{List, [], ◌∷◌, ◌++◌, map, filter, refl, sym, ap, subst, inl, inr, ◌∙◌, arith}
use Rattle.std.specs.Prelude.{Option, Some, None, IsTrue}
use Rattle.std.specs.List.{list_any}
use Rattle.std.proofs.lemmas.Bool.{and_parts, eq-eqb, eqb-true, cases_eq, false_from_ne_true, or_left, or_right}
use Rattle.std.proofs.lemmas.List.{map-append}
use Rattle.std.proofs.lemmas.List.Folds.{list_any-append}
use Rattle.std.proofs.lemmas.List.FromFn.{get_or-map-range_with_len}
use Rattle.std.proofs.lemmas.Slice.Eq.{bytes_eq-Decides}
use Rattle.fc_base.specs.declared.numbers.Key.{Key}
use Rattle.fc_base.specs.declared.record.JobParts.{JobParts}
use Rattle.fc_base.specs.Counted.{numbers_below}
use Rattle.fc_base.specs.NumberLaws.{filter_next, filter_not_next}
use Rattle.write_order.specs.Blocks.{block_of}
use Rattle.write_order.specs.Stamps.{written_bytes}
use Rattle.verify_state.specs.State.{State}
use Rattle.recheck.specs.Expected.{issued_in, counts, greatest_below, last_completed, placed_write, expected_by}
use Rattle.recheck.specs.declared.expected.BlockWrites.{BlockWrites}
use Rattle.recheck.specs.Faults.{last_write, is_write, writes_to, is_fault}
use Rattle.recheck.specs.Laws.{IsCompletedTo, IsLastCompleted, IsInFlightTo, Holds, HasLost}
use Rattle.recheck.proofs.ExpectedLemmas.{any_to}

-- What the greatest number that passes is.
record IsGreatest (test : ℕ → Bool) (n k : ℕ) : Type 0 where
  pub below : k < n
  pub passes : test k ≡ true
  pub last : (j : ℕ) → j < n → test j ≡ true → j ≤ k

greatest_some : (test : ℕ → Bool) (n k : ℕ) → greatest_below test n ≡ Some k → IsGreatest test n k
greatest_some test zero k e = absurd cc
greatest_some test (suc n) k e = by (test n) refl (greatest_some test n k)
  where
    by : (b : Bool) → test n ≡ b → (greatest_below test n ≡ Some k → IsGreatest test n k) → IsGreatest test (suc n) k
    by true is ih =
        let found : Some n ≡ Some k = rw is at e in
        let same : n ≡ k = cc in
        record { below = omega arith; passes = ap test (sym same) ∙ is; last = λ j lt passes. omega arith }
    by false is ih =
        let rest = ih (rw is at e) in
        record {
          below = omega (arith, rest.below);
          passes = rest.passes;
          last = λ j lt passes. elim (cases_eq j n) [
            | inl same ↦ let both : true ≡ false = sym passes ∙ ap test same ∙ is in absurd cc
            | inr other ↦ rest.last j (omega arith) passes
          ];
        }

greatest_none : (test : ℕ → Bool) (n j : ℕ) → greatest_below test n ≡ None → j < n → test j ≡ true → ⊥
greatest_none test zero j e lt passes = omega arith
greatest_none test (suc n) j e lt passes = by (test n) refl (greatest_none test n j)
  where
    by : (b : Bool) → test n ≡ b → (greatest_below test n ≡ None → j < n → test j ≡ true → ⊥) → ⊥
    by true is ih = let found : Some n ≡ None = rw is at e in cc
    by false is ih = elim (cases_eq j n) [
      | inl same ↦ let both : true ≡ false = sym passes ∙ ap test same ∙ is in cc
      | inr other ↦ ih (rw is at e) (omega arith) passes
    ]

-- A write of those in flight among the first n that goes to the block and passes.
abbrev flight : JobParts → Option State → ℕ → List BlockWrites
flight job state n = map (placed_write job) (filter (λ k. not (counts state k)) (numbers_below n))

flight_next : (job : JobParts) (state : Option State) (n : ℕ) → counts state n ≡ false
    → flight job state (suc n) ≡ flight job state n ++ placed_write job n ∷ []
flight_next job state n out =
    ap (map (placed_write job)) (filter_next (λ k. not (counts state k)) n (ap not out))
    ∙ map-append (placed_write job) (filter (λ k. not (counts state k)) (numbers_below n)) (n ∷ [])

flight_not_next : (job : JobParts) (state : Option State) (n : ℕ) → counts state n ≡ true → flight job state (suc n) ≡ flight job state n
flight_not_next job state n counted =
    ap (map (placed_write job)) (filter_not_next (λ k. not (counts state k)) n (ap not counted))

record Passes (job : JobParts) (state : Option State) (test : ℕ → Bool) (block n : ℕ) : Type 0 where
  pub write : ℕ
  pub below : write < n
  pub uncounted : counts state write ≡ false
  pub goes : block_of job write ≡ block
  pub passes : test write ≡ true

abbrev goes_to : (ℕ → Bool) → ℕ → BlockWrites → Bool
goes_to test block w = eqb w.block block && test w.seq

some_passes : (job : JobParts) (state : Option State) (test : ℕ → Bool) (block n : ℕ) → list_any (goes_to test block) (flight job state n) ≡ true
    → Passes job state test block n
some_passes job state test block zero e = absurd cc
some_passes job state test block (suc n) e = by (counts state n) refl (some_passes job state test block n)
  where
    one_more : Passes job state test block n → Passes job state test block (suc n)
    one_more p = record {
      write = p.write;
      below = omega (arith, p.below);
      uncounted = p.uncounted;
      goes = p.goes;
      passes = p.passes;
    }

    at_last : (b : Bool) → goes_to test block (placed_write job n) ≡ b → counts state n ≡ false
        → (list_any (goes_to test block) (flight job state n) || (b || false)) ≡ true
        → (list_any (goes_to test block) (flight job state n) ≡ true → Passes job state test block n) → Passes job state test block (suc n)
    at_last true is out any ih =
        let parts = and_parts (eqb (block_of job n) block) (test n) is in
        record { write = n; below = omega arith; uncounted = out; goes = eqb-true (block_of job n) block parts.0; passes = parts.1 }
    at_last false is out any ih = one_more (ih (or_none (list_any (goes_to test block) (flight job state n)) any))
      where
        or_none : (b : Bool) → (b || false) ≡ true → b ≡ true
        or_none true f = refl
        or_none false f = f

    by : (b : Bool) → counts state n ≡ b → (list_any (goes_to test block) (flight job state n) ≡ true → Passes job state test block n)
        → Passes job state test block (suc n)
    by true is ih = one_more (ih (ap (list_any (goes_to test block)) (sym (flight_not_next job state n is)) ∙ e))
    by false is ih =
        at_last (goes_to test block (placed_write job n)) refl is
        (sym (list_any-append (goes_to test block) (flight job state n) (placed_write job n ∷ []))
        ∙ ap (list_any (goes_to test block)) (sym (flight_next job state n is)) ∙ e) ih

passes_some : (job : JobParts) (state : Option State) (test : ℕ → Bool) (block n k : ℕ) → k < n → counts state k ≡ false → block_of job k ≡ block
    → test k ≡ true → list_any (goes_to test block) (flight job state n) ≡ true
passes_some job state test block zero k lt out at passes = absurd (omega arith)
passes_some job state test block (suc n) k lt out at passes =
    by (counts state n) refl (passes_some job state test block n k)
  where
    here : k ≡ n → goes_to test block (placed_write job n) ≡ true
    here same = rw (← same, eq-eqb (block_of job k) block at, passes) refl

    by : (b : Bool) → counts state n ≡ b → (k < n → counts state k ≡ false → block_of job k ≡ block → test k ≡ true
        → list_any (goes_to test block) (flight job state n) ≡ true) → list_any (goes_to test block) (flight job state (suc n)) ≡ true
    by true is ih = elim (cases_eq k n) [
      | inl same ↦ let both : true ≡ false = sym is ∙ ap (counts state) (sym same) ∙ out in absurd cc
      | inr other ↦ ap (list_any (goes_to test block)) (flight_not_next job state n is) ∙ ih (omega arith) out at passes
    ]
    by false is ih =
        let split = ap (list_any (goes_to test block)) (flight_next job state n is)
        ∙ list_any-append (goes_to test block) (flight job state n) (placed_write job n ∷ []) in
        elim (cases_eq k n) [
          | inl same ↦
              let last : (goes_to test block (placed_write job n) || false) ≡ true = ap (λ b. b || false) (here same) in
              split ∙ or_right (list_any (goes_to test block) (flight job state n)) _ last
          | inr other ↦ split ∙ or_left (list_any (goes_to test block) (flight job state n)) _ (ih (omega arith) out at passes)
        ]

-- ---- faults and losses

-- The bytes are those of a write.
holds : (key : Key) (job : JobParts) (state : Option State) (held : ℕ → List ℕ) (block k : ℕ) → is_write (expected_by key job state) block (held block) k ≡ true
    → Holds key job held block k
holds key job state held block k = (bytes_eq-Decides (held block) (written_bytes key job k block)).0

is_held : (key : Key) (job : JobParts) (state : Option State) (held : ℕ → List ℕ) (block k : ℕ) → Holds key job held block k
    → is_write (expected_by key job state) block (held block) k ≡ true
is_held key job state held block k = (bytes_eq-Decides (held block) (written_bytes key job k block)).1

last_write_is : (key : Key) (job : JobParts) (state : Option State) (block : ℕ) → block < job.blocks
    → last_write (expected_by key job state) block ≡ last_completed job state block
last_write_is key job state block within =
    get_or-map-range_with_len (last_completed job state) 0 job.blocks block block None within (omega arith)

-- The test of a completed write.
completes : (job : JobParts) (state : Option State) (block k : ℕ) → IsCompletedTo job state block k → (counts state k && eqb (block_of job k) block) ≡ true
completes job state block k is = rw (is.counted, eq-eqb (block_of job k) block is.goes) refl

completed : (job : JobParts) (state : Option State) (block k : ℕ) → k < issued_in job state → (counts state k && eqb (block_of job k) block) ≡ true
    → IsCompletedTo job state block k
completed job state block k lt e =
    let parts = and_parts (counts state k) (eqb (block_of job k) block) e in
    record { issued = lt; counted = parts.0; goes = eqb-true (block_of job k) block parts.1 }

last_is : (job : JobParts) (state : Option State) (block k : ℕ) → last_completed job state block ≡ Some k → IsLastCompleted job state block k
last_is job state block k e =
    let most = greatest_some (λ j. counts state j && eqb (block_of job j) block) (issued_in job state) k e in
    record {
      completed = completed job state block k most.below most.passes;
      last = λ j is. most.last j is.issued (completes job state block j is);
    }

none_completed : (job : JobParts) (state : Option State) (block k : ℕ) → last_completed job state block ≡ None → IsCompletedTo job state block k → ⊥
none_completed job state block k e is =
    greatest_none (λ j. counts state j && eqb (block_of job j) block) (issued_in job state) k e is.issued (completes job state block k is)

-- Of the writes in flight to the block one passes.
in_flight_passes : (key : Key) (job : JobParts) (state : Option State) (test : ℕ → Bool) (block : ℕ)
    → list_any test (writes_to block (expected_by key job state).in_flight) ≡ true → Passes job state test block (issued_in job state)
in_flight_passes key job state test block e =
    some_passes job state test block (issued_in job state) (sym (any_to test block (flight job state (issued_in job state))) ∙ e)

passes_in_flight : (key : Key) (job : JobParts) (state : Option State) (test : ℕ → Bool) (block k : ℕ) → IsInFlightTo job state block k → test k ≡ true
    → list_any test (writes_to block (expected_by key job state).in_flight) ≡ true
passes_in_flight key job state test block k is passes =
    any_to test block (flight job state (issued_in job state))
    ∙ passes_some job state test block (issued_in job state) k is.issued is.uncounted is.goes passes

not_or : (a b : Bool) → not (a || b) ≡ true → (a ≡ false) × (b ≡ false)
not_or true b e = absurd cc
not_or false true e = absurd cc
not_or false false e = (refl, refl)

pub faults_are_losses : (key : Key) (job : JobParts) (state : Option State) (held : ℕ → List ℕ) (block : ℕ) → block < job.blocks
    → IsTrue (is_fault (expected_by key job state) held block) ↔ HasLost key job state held block
faults_are_losses key job state held block within = by (last_completed job state block) refl
  where
    by : (o : Option ℕ) → last_completed job state block ≡ o → IsTrue (is_fault (expected_by key job state) held block) ↔ HasLost key job state held block
    by None e =
        let here : last_write (expected_by key job state) block ≡ None = last_write_is key job state block within ∙ e in
        let sound : is_fault (expected_by key job state) held block ≡ false = rw here refl in (
          λ f. (let both : true ≡ false = sym f ∙ sound in absurd cc),
          λ lost. absurd (none_completed job state block lost.write e lost.last.completed),
        )
    by (Some k) e =
        let test = is_write (expected_by key job state) block (held block) in
        let open_writes = writes_to block (expected_by key job state).in_flight in
        let here : last_write (expected_by key job state) block ≡ Some k = last_write_is key job state block within ∙ e in
        let is : is_fault (expected_by key job state) held block ≡ not (test k || list_any test open_writes) = rw here refl in
        let last = last_is job state block k e in (
          λ f. (let parts = not_or (test k) (list_any test open_writes) (sym is ∙ f) in record {
            write = k;
            last = last;
            gone = λ same. (let both : true ≡ false = sym (is_held key job state held block k same) ∙ parts.0 in cc);
            in_flight = λ j flying same. (let both : true ≡ false =
                sym (passes_in_flight key job state test block j flying (is_held key job state held block j same)) ∙ parts.1 in cc);
          }),
          λ lost. (
              let one : lost.write ≡ k = omega (arith, lost.last.last k last.completed, last.last lost.write lost.last.completed) in
              let gone : test k ≡ false =
              false_from_ne_true (test k) (λ t. lost.gone (subst (Holds key job held block) (sym one) (holds key job state held block k t))) in
              let none : list_any test open_writes ≡ false = false_from_ne_true _ (λ t.
              let p = in_flight_passes key job state test block t in
              lost.in_flight p.write (record { issued = p.below; uncounted = p.uncounted; goes = p.goes }) (holds key job state held block p.write p.passes)) in
              is ∙ ap (λ b. not b) (ap (λ b. b || list_any test open_writes) gone ∙ none)),
        )

pub holders_are_no_faults : (key : Key) (job : JobParts) (state : Option State) (held : ℕ → List ℕ) (block : ℕ) → block < job.blocks → (k : ℕ)
    → IsLastCompleted job state block k ⊎ IsInFlightTo job state block k → Holds key job held block k → is_fault (expected_by key job state) held block ≡ false
holders_are_no_faults key job state held block within k wanted same =
    false_from_ne_true _ (λ f. by wanted ((faults_are_losses key job state held block within).0 f))
  where
    by : IsLastCompleted job state block k ⊎ IsInFlightTo job state block k → HasLost key job state held block → ⊥
    by (inl last) lost =
        let one : k ≡ lost.write = omega (arith, lost.last.last k last.completed, last.last lost.write lost.last.completed) in
        lost.gone (subst (Holds key job held block) one same)
    by (inr flying) lost = lost.in_flight k flying same
