-- What a check expects of a block, and which blocks hold it.
use Rattle.std.proofs.Common.{◌≡◌, refl, sym, ◌∙◌, ap, ◌⊎◌, inl, inr, ℕ, zero, suc, ◌<◌, ◌≤◌, arith}
use Rattle.std.proofs.Common.{Bool, true, false, ◌&&◌, ◌||◌, ◌==◌, List, map, Option, Some, None}
use Rattle.std.specs.Prelude.{if◌then◌else◌, is_some, slice_index_or, not, nat_le}
use Rattle.std.specs.List.{range_with_len}
use Rattle.std.specs.Str.{bytes_eq}
use Rattle.std.proofs.lemmas.Bool.{cases_lt, eqb-true, and_parts, false≢true}
use Rattle.std.proofs.lemmas.List.{get_or_past}
use Rattle.std.proofs.lemmas.List.FromFn.{length-map-range_with_len, get_or-map-range_with_len}
use Rattle.std.proofs.lemmas.Slice.Eq.{bytes_eq-Decides}
use Rattle.fc_base.specs.declared.fault.Fault.TheVariants.{OtherKey, OtherJob, OtherPlace}
use Rattle.fc_base.specs.declared.numbers.Key.{Key}
use Rattle.fc_base.specs.declared.record.JobParts.{JobParts}
use Rattle.fc_base.specs.declared.record.Kind.{Kind}
use Rattle.fc_base.specs.declared.record.Kind.TheVariants.{Sequential, RandomMap, RandomFree}
use Rattle.fc_base.specs.declared.record.Verify.{Verify}
use Rattle.fc_base.specs.declared.record.Verify.TheVariants.{Stamp, Pattern}
use Rattle.fc_base.specs.Keys.{is_same_key}
use Rattle.write_order.specs.Blocks.{block_of}
use Rattle.write_order.specs.Places.{place}
use Rattle.write_order.specs.Stamps.{written_bytes}
use Rattle.verify_state.specs.State.{State}
use Rattle.verify_state.specs.Codes.{kind_code, verify_code}
use Rattle.verify_state.specs.Same.{is_of_kind, is_of_region}
use Rattle.verify_state.specs.Misfit.{is_of_job, misfit}
use Rattle.recheck.specs.Expected.{Expected, greatest_below}
use Rattle.recheck.specs.Faults.{last_write, is_checked, is_write, is_expected, is_fault}
use Rattle.net_world.proofs.ListLemmas.{some_is}

-- The greatest number below n that passes.
pub record IsGreatest (test : ℕ → Bool) (n k : ℕ) : Type 0 where
  pub passes : test k ≡ true
  pub within : k < n
  pub last : (i : ℕ) → i < n → test i ≡ true → i ≤ k

greatest_step : (test : ℕ → Bool) (n k : ℕ) (b : Bool) → test n ≡ b → (greatest_below test n ≡ Some k → IsGreatest test n k)
    → (if b then Some n else greatest_below test n) ≡ Some k → IsGreatest test (suc n) k
greatest_step test n k true is f h =
    let same : n ≡ k = some_is h in
    record { passes = ap test (sym same) ∙ is; within = omega (arith, same); last = λ i lt p. omega (arith, same, lt) }
greatest_step test n k false is f h =
    let g = f h in
    record { passes = g.passes; within = omega (arith, g.within); last = λ i lt p. below i lt p (cases_lt i n) g }
  where
    below : (i : ℕ) → i < suc n → test i ≡ true → (i < n) ⊎ (n ≤ i) → IsGreatest test n k → i ≤ k
    below i lt p (inl less) g = g.last i less p
    below i lt p (inr more) g = let same : i ≡ n = omega arith in absurd (false≢true (sym is ∙ ap test (sym same) ∙ p))

pub greatest : (test : ℕ → Bool) (n k : ℕ) → greatest_below test n ≡ Some k → IsGreatest test n k
greatest test zero k h = absurd cc
greatest test (suc n) k h = greatest_step test n k (test n) refl (greatest test n k) h

none_step : (test : ℕ → Bool) (n i : ℕ) (b : Bool) → test n ≡ b → (greatest_below test n ≡ None → i < n → test i ≡ false)
    → (if b then Some n else greatest_below test n) ≡ None → i < suc n → test i ≡ false
none_step test n i true is f h lt = absurd cc
none_step test n i false is f h lt = elim (cases_lt i n) [ inl less ↦ f h less | inr more ↦ (let same : i ≡ n = omega arith in ap test same ∙ is) ]

pub none_below : (test : ℕ → Bool) (n : ℕ) → greatest_below test n ≡ None → (i : ℕ) → i < n → test i ≡ false
none_below test zero h i lt = absurd (omega (arith, lt))
none_below test (suc n) h i lt = none_step test n i (test n) refl (λ g l. none_below test n g i l) h lt

-- Two jobs that write the same.
pub record WriteTheSame (a b : JobParts) : Type 0 where
  pub kind : a.kind ≡ b.kind
  pub verify : a.verify ≡ b.verify
  pub pattern : a.pattern ≡ b.pattern
  pub bs : a.bs ≡ b.bs
  pub blocks : a.blocks ≡ b.blocks
  pub seed : a.seed ≡ b.seed

same_kind : (a b : Kind) → kind_code a ≡ kind_code b → a ≡ b
same_kind Sequential Sequential h = refl
same_kind Sequential RandomMap h = absurd (omega (arith, h))
same_kind Sequential RandomFree h = absurd (omega (arith, h))
same_kind RandomMap Sequential h = absurd (omega (arith, h))
same_kind RandomMap RandomMap h = refl
same_kind RandomMap RandomFree h = absurd (omega (arith, h))
same_kind RandomFree Sequential h = absurd (omega (arith, h))
same_kind RandomFree RandomMap h = absurd (omega (arith, h))
same_kind RandomFree RandomFree h = refl

same_verify : (a b : Verify) → verify_code a ≡ verify_code b → a ≡ b
same_verify Stamp Stamp h = refl
same_verify Stamp Pattern h = absurd (omega (arith, h))
same_verify Pattern Stamp h = absurd (omega (arith, h))
same_verify Pattern Pattern h = refl

job_test : (a b e : Bool) → (if not a then Some OtherKey else (if not b then Some OtherJob else (if not e then Some OtherPlace else None))) ≡ None → b ≡ true
job_test true true e h = refl
job_test true false e h = absurd cc
job_test false b e h = absurd cc

pub fits_job : (s : State) (key : Key) (job : JobParts) → misfit s key job ≡ None → WriteTheSame job s.job
unfolding misfit
fits_job s key job h =
    let a = s.job in
    let same = job_test (is_same_key s.key key) (is_of_job s job) (bytes_eq s.place (place job s.issued)) h in
    let t = and_parts (is_of_kind a job && is_of_region a job) (nat_le s.issued job.total) same in
    let p = and_parts (is_of_kind a job) (is_of_region a job) t.0 in
    let q = and_parts ((kind_code a.kind == kind_code job.kind) && (verify_code a.verify == verify_code job.verify)) (a.pattern == job.pattern) p.0 in
    let r = and_parts (kind_code a.kind == kind_code job.kind) (verify_code a.verify == verify_code job.verify) q.0 in
    let u = and_parts ((a.bs == job.bs) && (a.blocks == job.blocks) && (a.total == job.total)) (a.seed == job.seed) p.1 in
    let v = and_parts ((a.bs == job.bs) && (a.blocks == job.blocks)) (a.total == job.total) u.0 in
    let w = and_parts (a.bs == job.bs) (a.blocks == job.blocks) v.0 in
    record {
      kind = sym (same_kind a.kind job.kind (eqb-true (kind_code a.kind) (kind_code job.kind) r.0));
      verify = sym (same_verify a.verify job.verify (eqb-true (verify_code a.verify) (verify_code job.verify) r.1));
      pattern = sym (eqb-true a.pattern job.pattern q.1);
      bs = sym (eqb-true a.bs job.bs w.0);
      blocks = sym (eqb-true a.blocks job.blocks w.1);
      seed = sym (eqb-true a.seed job.seed u.1);
    }

kind_cases : (k : Kind) → (k ≡ Sequential) ⊎ ((k ≡ RandomMap) ⊎ (k ≡ RandomFree))
kind_cases Sequential = inl refl
kind_cases RandomMap = inr (inl refl)
kind_cases RandomFree = inr (inr refl)

verify_cases : (v : Verify) → (v ≡ Stamp) ⊎ (v ≡ Pattern)
verify_cases Stamp = inl refl
verify_cases Pattern = inr refl

pub same_block : (a b : JobParts) (k : ℕ) → WriteTheSame a b → block_of a k ≡ block_of b k
same_block a b k w = elim (kind_cases b.kind) [
  | inl e ↦ (let f : a.kind ≡ Sequential = w.kind ∙ e in rw (f, e, w.blocks) refl)
  | inr other ↦ elim other [
    | inl e ↦ (let f : a.kind ≡ RandomMap = w.kind ∙ e in rw (f, e, w.blocks, w.seed) refl)
    | inr e ↦ (let f : a.kind ≡ RandomFree = w.kind ∙ e in rw (f, e, w.blocks, w.seed) refl)
  ]
]

pub same_bytes : (a b : JobParts) (key : Key) (k block : ℕ) → WriteTheSame a b → written_bytes key a k block ≡ written_bytes key b k block
same_bytes a b key k block w = elim (verify_cases b.verify) [
  | inl e ↦ (let f : a.verify ≡ Stamp = w.verify ∙ e in rw (f, e, w.bs) refl)
  | inr e ↦ (let f : a.verify ≡ Pattern = w.verify ∙ e in rw (f, e, w.bs, w.pattern) refl)
]

-- The last completed write to a block, where it is checked.
pub checked_within : (f : ℕ → Option ℕ) (n block k : ℕ) → slice_index_or (map f (range_with_len 0 n)) block None ≡ Some k → f block ≡ Some k
checked_within f n block k h = elim (cases_lt block n) [
  | inl lt ↦ sym (get_or-map-range_with_len f 0 n block block None lt (omega arith)) ∙ h
  | inr past ↦ absurd (no_number k (sym (get_or_past (map f (range_with_len 0 n)) block None (omega (arith, length-map-range_with_len f 0 n))) ∙ h))
]
  where
    no_number : (k : ℕ) → ◌≡◌ {A = Option ℕ} None (Some k) → ⊥
    no_number k h = absurd cc

pub is_number : (x : Option ℕ) → is_some x ≡ true → (k : ℕ) × (x ≡ Some k)
is_number (Some k) h = (k, refl)
is_number None h = absurd cc

-- A block that holds its last completed write is no fault.
pub or_left : (a b : Bool) → a ≡ true → (a || b) ≡ true
or_left true b h = refl
or_left false b h = absurd cc

pub expected_it : (e : Expected) (bytes : List ℕ) (block k : ℕ) → last_write e block ≡ Some k → is_write e block bytes k ≡ true
    → is_expected e block bytes ≡ true
expected_it e bytes block k is w = rw is (or_left (is_write e block bytes k) _ w)

pub both : (a b : Bool) → a ≡ true → b ≡ true → (a && b) ≡ true
both a b p q = rw (p, q) refl

pub sound : (e : Expected) (held : ℕ → List ℕ) (block k : ℕ) → last_write e block ≡ Some k → held block ≡ written_bytes e.key e.job k block
    → is_fault e held block ≡ true → ⊥
sound e held block k is same h =
    let write : is_write e block (held block) k ≡ true = (bytes_eq-Decides (held block) (written_bytes e.key e.job k block)).1 same in
    let p = and_parts (is_checked e block) (not (is_expected e block (held block))) h in
    false≢true (sym (ap not (expected_it e (held block) block k is write)) ∙ p.1)
