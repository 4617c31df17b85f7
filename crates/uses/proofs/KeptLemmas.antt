-- What the blocks of a file hold once the writes of a job were carried out, one after the other.
use Rattle.std.proofs.Common.{◌≡◌, ◌<◌, ◌≤◌, ℕ, zero, suc, ◌%◌, ◌==◌, true, false, ◌&&◌, List, length}
use Rattle.std.proofs.Common.{filter, Some, Result, Ok, Err, inl, inr, sym, ap, subst, ◌∙◌, arith}
use Rattle.std.specs.Prelude.{IfOk, IsTrue, nat_le, nat_lt}
use Rattle.std.specs.List.{range_with_len}
use Rattle.std.proofs.lemmas.Bool.{and_parts, cases_Bool, cases_eq, eqb-true, leb-true, lt-ltb, ltb-true}
use Rattle.fc_base.specs.declared.limits.TheConstants.{MAX_BLOCKS, MAX_BLOCK_SIZE, MAX_WRITES}
use Rattle.fc_base.specs.declared.numbers.Key.{Key}
use Rattle.fc_base.specs.declared.record.JobParts.{JobParts}
use Rattle.fc_base.specs.Counted.{has}
use Rattle.fc_base.specs.JobParts.{has_block_size, has_pattern, has_queue, has_region, is_within_limits}
use Rattle.disk_model.specs.File.{File, IsBlock, block_bytes, with_block}
use Rattle.disk_model.specs.Laws.{KeepsOtherBlocks, ReadsBack}
use Rattle.write_order.specs.Blocks.{block_of}
use Rattle.write_order.specs.Stamps.{bytes_of, written_bytes}
use Rattle.write_order.specs.Laws.{WritesFillTheirBlocks, WritesStayInTheRegion}
use Rattle.verify_state.specs.State.{State}
use Rattle.recheck.specs.Disk.{held_by}
use Rattle.recheck.specs.Expected.{expected_by}
use Rattle.recheck.specs.Faults.{is_fault}
use Rattle.recheck.specs.Laws.{FaultsAreLosses, HasLost}
use Rattle.uses.proofs.Losses.{all_fail}
use Rattle.uses.proofs.OneByOne.{written, written_next}

-- The writes of a job are blocks of a disk.
pub record AreBlocks (key : Key) (job : JobParts) : Type 0 where
  pub block : (k : ℕ) → IsBlock (block_of job k) job.bs
  pub bytes : (k : ℕ) → length (bytes_of key job k) ≡ job.bs

-- A block holds the last write that went to it.
pub holds_last : ReadsBack → KeepsOtherBlocks → (key : Key) (job : JobParts) → AreBlocks key job → (file : File) (n b k : ℕ) → k < n → block_of job k ≡ b
    → ((j : ℕ) → j < n → block_of job j ≡ b → j ≤ k) → held_by (written key job file n) job b ≡ written_bytes key job k b
holds_last back others key job blocks file zero b k lt goes last = absurd (omega arith)
holds_last back others key job blocks file (suc n) b k lt goes last =
    let bytes = bytes_of key job n in
    let now = written key job file n in
    let next : held_by (written key job file (suc n)) job b ≡ held_by (with_block (block_of job n) bytes now) job b =
    ap (λ f. held_by f job b) (written_next key job file n) in
    elim (cases_eq (block_of job n) b) [
      | inl here ↦
          let same : k ≡ n = let least : n ≤ k = last n (omega arith) here in omega arith in
          let block : IsBlock (block_of job n) (length bytes) = subst (IsBlock (block_of job n)) (sym (blocks.bytes n)) (blocks.block n) in
          let read : block_bytes (with_block (block_of job n) bytes now).content (length bytes) (block_of job n) ≡ bytes =
          back now (block_of job n) bytes block in
          let read_there : block_bytes (with_block (block_of job n) bytes now).content job.bs b ≡ bytes =
          subst (λ l. block_bytes (with_block (block_of job n) bytes now).content l b ≡ bytes) (blocks.bytes n)
          (subst (λ at. block_bytes (with_block (block_of job n) bytes now).content (length bytes) at ≡ bytes) here read) in
          next ∙ read_there ∙ ap (written_bytes key job n) here ∙ ap (λ m. written_bytes key job m b) (sym same)
      | inr there ↦
          let earlier : k < n = elim (cases_eq k n) [ inl same ↦ absurd (there (ap (block_of job) (sym same) ∙ goes)) | inr other ↦ omega arith ] in
          let kept : block_bytes (with_block (block_of job n) bytes now).content job.bs b ≡ block_bytes now.content job.bs b =
          subst (λ l. block_bytes (with_block (block_of job n) bytes now).content l b ≡ block_bytes now.content l b) (blocks.bytes n)
          (others (λ _. true) now (block_of job n) b bytes (λ same. there (sym same))) in
          next ∙ kept ∙ holds_last back others key job blocks file n b k earlier goes (λ j less to. last j (omega arith) to)
    ]

-- So none has lost a write that a state of all of them counts.
pub none_lost : ReadsBack → KeepsOtherBlocks → (key : Key) (job : JobParts) → AreBlocks key job → (file : File) (state : State) → state.issued ≡ job.total
    → ((k : ℕ) → has state.counted k ≡ nat_lt k job.total) → (block : ℕ) → HasLost key job (Some state) (held_by (written key job file job.total) job) block → ⊥
none_lost back others key job blocks file state issued counts block lost =
    let last = lost.last in
    let lt : lost.write < job.total = ltb-true lost.write job.total (sym (counts lost.write) ∙ last.completed.counted) in
    lost.gone (holds_last back others key job blocks file job.total block lost.write lt last.completed.goes
    (λ j less to. last.last j (record { issued = subst (λ n. j < n) (sym issued) less; counted = counts j ∙ lt-ltb j job.total less; goes = to })))

-- Each fails where none has lost a write, so none is counted.
fails : FaultsAreLosses → (key : Key) (job : JobParts) (state : State) (held : ℕ → List ℕ) → ((block : ℕ) → HasLost key job (Some state) held block → ⊥)
    → (block : ℕ) → block < job.blocks → is_fault (expected_by key job (Some state)) held block ≡ false
fails losses key job state held none block lt = elim (cases_Bool (is_fault (expected_by key job (Some state)) held block)) [
  | inl faulty ↦ absurd (none block ((losses key job (Some state) held block lt).0 faulty))
  | inr sound ↦ sound
]

pub none_counted : ReadsBack → KeepsOtherBlocks → FaultsAreLosses → (key : Key) (job : JobParts) → AreBlocks key job
    → (file now : File) (state : State) → state.issued ≡ job.total
    → ((k : ℕ) → has state.counted k ≡ nat_lt k job.total) → now.content ≡ (written key job file job.total).content
    → length (filter (is_fault (expected_by key job (Some state)) (held_by now job)) (range_with_len 0 job.blocks)) ≡ 0
none_counted back others losses key job blocks file now state issued counts same =
    let held : held_by now job ≡ held_by (written key job file job.total) job = ap (λ content. block_bytes content job.bs) same in
    rw held (all_fail (is_fault (expected_by key job (Some state)) (held_by (written key job file job.total) job)) 0 job.blocks
    (λ j least most. fails losses key job state (held_by (written key job file job.total) job)
    (none_lost back others key job blocks file state issued counts) j (omega arith)))

-- The blocks of a job within the limits are those of a disk.
pub are_blocks : WritesFillTheirBlocks → WritesStayInTheRegion → (key : Key) (parts job : JobParts) → parts ≡ job → IsTrue (is_within_limits parts)
    → AreBlocks key job
are_blocks fill stay key parts job same limits =
    let within = rw same at limits in
    let all = and_parts (has_block_size job && has_region job && has_queue job) (has_pattern job) within in
    let sizes = and_parts (has_block_size job) (has_region job) (and_parts (has_block_size job && has_region job) (has_queue job) all.0).0 in
    let size = and_parts (nat_le 512 job.bs && nat_le job.bs MAX_BLOCK_SIZE) (job.bs % 512 == 0) sizes.0 in
    let span = and_parts (nat_le 512 job.bs) (nat_le job.bs MAX_BLOCK_SIZE) size.0 in
    let region = and_parts (nat_le 1 job.blocks && nat_le job.blocks MAX_BLOCKS) (nat_le 1 job.total && nat_le job.total MAX_WRITES) sizes.1 in
    let most = leb-true job.blocks MAX_BLOCKS (and_parts (nat_le 1 job.blocks) (nat_le job.blocks MAX_BLOCKS) region.0).1 in
    record {
      block = λ k. let lt = stay job within k in record {
        number = omega (arith, lt, most);
        least = leb-true 512 job.bs span.0;
        most = leb-true job.bs MAX_BLOCK_SIZE span.1;
        whole = eqb-true (job.bs % 512) 0 size.1;
      };
      bytes = λ k. fill key job within k (block_of job k);
    }

-- A count that is none.
pub is_none : {E : Type 0} (r : Result ℕ E) (n : ℕ) → IfOk r (λ count. count ≡ n) → n ≡ 0 → IfOk r (λ count. count ≡ 0)
is_none (Ok count) n is none = is ∙ none
is_none (Err e) n is none = tt
