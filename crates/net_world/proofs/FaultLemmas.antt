-- Which blocks a check faults on honest disks: a checked block that holds its last write is no fault.
use Rattle.std.proofs.Common.{◌≡◌, refl, sym, ◌∙◌, ap, subst, ◌⊎◌, inl, inr, ℕ, ◌<◌, ◌≤◌, arith, Bool}
use Rattle.std.proofs.Common.{true, false, ◌&&◌, ◌||◌, ◌==◌, List, [], ◌∷◌, map, Option, Some, None}
use Rattle.std.specs.Prelude.{not, nat_lt}
use Rattle.std.specs.List.{list_any}
use Rattle.std.proofs.lemmas.Bool.{cases_Bool, eqb-true, and_parts, or_cases, false≢true}
use Rattle.std.proofs.lemmas.Bool.Decides.{nat_tests}
use Rattle.std.proofs.lemmas.Slice.Eq.{bytes_eq-Decides}
use Rattle.fc_base.specs.Counted.{has, numbers_below}
use Rattle.fc_base.specs.NumberLaws.{has_filter, has_numbers_below}
use Rattle.fc_base.specs.declared.numbers.Key.{Key}
use Rattle.fc_base.specs.declared.record.JobParts.{JobParts}
use Rattle.job_file.specs.declared.job.Job.{Job}
use Rattle.write_order.specs.Blocks.{block_of}
use Rattle.write_order.specs.Stamps.{written_bytes}
use Rattle.verify_state.specs.State.{State}
use Rattle.disk_model.specs.File.{block_bytes}
use Rattle.recheck.specs.Expected.{counts, greatest_below, last_completed, in_flight, placed_write, expected_by}
use Rattle.recheck.specs.Faults.{last_write, is_checked, writes_to, is_write, is_expected}
use Rattle.server_core.specs.Check.{Check}
use Rattle.net_world.specs.Setup.{Setup}
use Rattle.net_world.specs.Changes.{Change}
use Rattle.net_world.specs.Contents.{content}
use Rattle.net_world.specs.Checks.{key_of}
use Rattle.net_world.specs.Honest.{HoldsWrite, WasInFlight, IsFaulty}
use Rattle.net_world.proofs.ExpectedLemmas.{IsGreatest, greatest, none_below, WriteTheSame, same_block, same_bytes}
use Rattle.net_world.proofs.ExpectedLemmas.{checked_within, is_number, or_left, expected_it, both, sound}
use Rattle.net_world.proofs.NotionLemmas.{OfState}
use Rattle.net_world.proofs.LastWriteLemmas.{LastAreThere}
use Rattle.net_world.proofs.CurrentWriteLemmas.{CurrentAreThere}

-- What the state's job has written to a block is what the checked job expects of the same write.
reads_as : (held : ℕ → List ℕ) (own key : Key) (a b : JobParts) (k block : ℕ) → own ≡ key → WriteTheSame a b → block_of b k ≡ block → HoldsWrite held own b k
    → block_bytes held a.bs block ≡ written_bytes key a k block
reads_as held own key a b k block is same there h =
    subst (λ n. block_bytes held a.bs n ≡ written_bytes key a k n) there
    (subst (λ (i : Key). block_bytes held a.bs (block_of b k) ≡ written_bytes i a k (block_of b k)) is
    (ap (λ n. block_bytes held n (block_of b k)) same.bs ∙ h ∙ sym (same_bytes a b own k (block_of b k) same)))

pub few : (w : Setup) (past : List Change) (s j : ℕ) (c : Check) (job : Job) (state : State) (block : ℕ) → state.key ≡ key_of c j
    → WriteTheSame job.rec state.job → OfState LastAreThere (content w past s j) state
    → IsFaulty w past s j c job state block → WasInFlight state block
few w past s j c job state block key same safe faulty =
    let e = expected_by (key_of c j) job.rec (Some state) in
    let held : ℕ → List ℕ = λ b. block_bytes (content w past s j) job.rec.bs b in
    let p = and_parts (is_checked e block) (not (is_expected e block (held block))) faulty in
    let l = is_number (last_write e block) p.0 in
    let g = greatest (λ i. counts (Some state) i && (block_of job.rec i == block)) state.issued l.0
    (checked_within (last_completed job.rec (Some state)) job.rec.blocks block l.0 l.1) in
    by_flight l.0 l.1 g (greatest_below flies state.issued) refl
  where
    flies : ℕ → Bool
    flies i = not (has state.counted i) && (block_of state.job i == block)

    in_flight : (i : ℕ) → IsGreatest flies state.issued i → WasInFlight state block
    in_flight i g =
        let p = and_parts (not (has state.counted i)) (block_of state.job i == block) g.passes in
        record { write = i; issued = g.within; undone = undone (has state.counted i) p.0; there = eqb-true (block_of state.job i) block p.1 }
      where
        undone : (b : Bool) → not b ≡ true → b ≡ false
        undone true h = absurd cc
        undone false h = refl

    by_flight : (k : ℕ) → last_write (expected_by (key_of c j) job.rec (Some state)) block ≡ Some k
        → IsGreatest (λ i. counts (Some state) i && (block_of job.rec i == block)) state.issued k
        → (x : Option ℕ) → greatest_below flies state.issued ≡ x → WasInFlight state block
    by_flight k l g (Some i) is = in_flight i (greatest flies state.issued i is)
    by_flight k l g None is =
        let q = and_parts (has state.counted k) (block_of job.rec k == block) g.passes in
        let here : block_of job.rec k ≡ block = eqb-true (block_of job.rec k) block q.1 in
        let there : block_of state.job k ≡ block = sym (same_block job.rec state.job k same) ∙ here in
        let whole : HoldsWrite (content w past s j) state.key state.job k = safe k q.0 (λ i lt e. last i lt (e ∙ there) (cases_Bool (has state.counted i))) in
        let read = reads_as (content w past s j) state.key (key_of c j) job.rec state.job k block key same there whole in
        absurd (sound (expected_by (key_of c j) job.rec (Some state)) (λ b. block_bytes (content w past s j) job.rec.bs b) block k l read faulty)
      where
        last : (i : ℕ) → i < state.issued → block_of state.job i ≡ block → (has state.counted i ≡ true) ⊎ (has state.counted i ≡ false) → i ≤ k
        last i lt e (inl counted) =
            let at : (block_of job.rec i == block) ≡ true =
            (let f : block_of job.rec i ≡ block = same_block job.rec state.job i same ∙ e in grind (arith, nat_tests)) in
            g.last i lt (both (has state.counted i) (block_of job.rec i == block) counted at)
        last i lt e (inr undone) =
            let at : (block_of state.job i == block) ≡ true = grind (arith, nat_tests) in
            absurd (false≢true (sym (none_below flies state.issued is i lt)
            ∙ both (not (has state.counted i)) (block_of state.job i == block) (ap not undone) at))

-- ---- whole writes

or_right : (a b : Bool) → b ≡ true → (a || b) ≡ true
or_right true b h = refl
or_right false b h = h

-- A write of the list that goes to the block is among those.
goes_there : (job : JobParts) (p : ℕ → Bool) (block i : ℕ) (xs : List ℕ) → has xs i ≡ true → (block_of job i == block) ≡ true → p i ≡ true
    → list_any p (writes_to block (map (placed_write job) xs)) ≡ true
goes_there job p block i [] h e t = absurd cc
goes_there job p block i (x ∷ xs) h e t = elim (or_cases (x == i) (has xs i) h) [
  | inl here ↦ (
      let same : x ≡ i = eqb-true x i here in
      let at : (block_of job x == block) ≡ true = ap (λ n. block_of job n == block) same ∙ e in
      rw at (or_left (p x) _ (ap p same ∙ t)))
  | inr later ↦ elim (cases_Bool (block_of job x == block)) [
    | inl at ↦ rw at (or_right (p x) _ (goes_there job p block i xs later e t))
    | inr off ↦ rw off (goes_there job p block i xs later e t)
  ]
]

-- A write in flight is expected, too.
expected_flight : (key : Key) (job : JobParts) (state : State) (bytes : List ℕ) (block k i : ℕ) → last_write (expected_by key job (Some state)) block ≡ Some k
    → i < state.issued → has state.counted i ≡ false → (block_of job i == block) ≡ true
    → is_write (expected_by key job (Some state)) block bytes i ≡ true → is_expected (expected_by key job (Some state)) block bytes ≡ true
expected_flight key job state bytes block k i is lt undone at w =
    rw is (or_right (is_write (expected_by key job (Some state)) block bytes k) _
    (goes_there job (is_write (expected_by key job (Some state)) block bytes) block i (in_flight job (Some state)) there at w))
  where
    there : has (in_flight job (Some state)) i ≡ true
    there =
        has_filter (λ n. not (counts (Some state) n)) (numbers_below state.issued) i
        ∙ both (has (numbers_below state.issued) i) (not (has state.counted i)) (has_numbers_below state.issued i ∙ below) (ap not undone)
      where
        below : nat_lt i state.issued ≡ true
        below = grind (arith, nat_tests)

pub none : (w : Setup) (past : List Change) (s j : ℕ) (c : Check) (job : Job) (state : State) (block : ℕ) → state.key ≡ key_of c j
    → WriteTheSame job.rec state.job → OfState CurrentAreThere (content w past s j) state
    → IsFaulty w past s j c job state block → ⊥
none w past s j c job state block key same shown faulty =
    let e = expected_by (key_of c j) job.rec (Some state) in
    let held : ℕ → List ℕ = λ b. block_bytes (content w past s j) job.rec.bs b in
    let p = and_parts (is_checked e block) (not (is_expected e block (held block))) faulty in
    let l = is_number (last_write e block) p.0 in
    let k = l.0 in
    let g = greatest (λ i. counts (Some state) i && (block_of job.rec i == block)) state.issued k
    (checked_within (last_completed job.rec (Some state)) job.rec.blocks block k l.1) in
    let q = and_parts (has state.counted k) (block_of job.rec k == block) g.passes in
    let here : block_of state.job k ≡ block = sym (same_block job.rec state.job k same) ∙ eqb-true (block_of job.rec k) block q.1 in
    let x = shown k q.0 (λ i lt counted to. g.last i lt (both (has state.counted i) (block_of job.rec i == block) counted (at i (to ∙ here)))) in
    let there : block_of state.job x.write ≡ block = x.there ∙ here in
    let read = reads_as (content w past s j) state.key (key_of c j) job.rec state.job x.write block key same there x.holds in
    let write : is_write e block (held block) x.write ≡ true = (bytes_eq-Decides (held block) (written_bytes (key_of c j) job.rec x.write block)).1 read in
    false≢true (sym (ap not (expected k x.write l.1 write (at x.write there) x.which)) ∙ p.1)
  where
    at : (i : ℕ) → block_of state.job i ≡ block → (block_of job.rec i == block) ≡ true
    at i to = let f : block_of job.rec i ≡ block = same_block job.rec state.job i same ∙ to in grind (arith, nat_tests)

    expected : (k i : ℕ) → last_write (expected_by (key_of c j) job.rec (Some state)) block ≡ Some k
        → is_write (expected_by (key_of c j) job.rec (Some state)) block (block_bytes (content w past s j) job.rec.bs block) i ≡ true
        → (block_of job.rec i == block) ≡ true → (i ≡ k) ⊎ ((i < state.issued) × (has state.counted i ≡ false))
        → is_expected (expected_by (key_of c j) job.rec (Some state)) block (block_bytes (content w past s j) job.rec.bs block) ≡ true
    expected k i is wrote to (inl e) =
        expected_it (expected_by (key_of c j) job.rec (Some state)) (block_bytes (content w past s j) job.rec.bs block) block k is
        (subst (λ m. is_write (expected_by (key_of c j) job.rec (Some state)) block (block_bytes (content w past s j) job.rec.bs block) m ≡ true) e wrote)
    expected k i is wrote to (inr p) =
        expected_flight (key_of c j) job.rec state (block_bytes (content w past s j) job.rec.bs block) block k i is p.0 p.1 to wrote
