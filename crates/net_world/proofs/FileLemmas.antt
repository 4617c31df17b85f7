-- What the landing of an open write does to the blocks of its job.
use Rattle.std.proofs.Common.{◌≡◌, refl, sym, ◌∙◌, ap, subst, inl, inr, ℕ, ◌/◌, ◌%◌, ◌<◌, ◌≤◌, arith, Bool, true, false, ◌&&◌, ◌==◌, List, length, None}
use Rattle.std.specs.Prelude.{IsTrue, nat_le, nat_lt, not}
use Rattle.std.proofs.lemmas.Bool.{and_parts, cases_eq, false≢true}
use Rattle.std.proofs.lemmas.Bool.Decides.{nat_tests}
use Rattle.fc_base.specs.Counted.{has}
use Rattle.fc_base.specs.JobParts.{has_block_size, has_region, has_queue, has_pattern, is_within_limits}
use Rattle.fc_base.specs.declared.limits.TheConstants.{MAX_BLOCK_SIZE, MAX_BLOCKS, MAX_WRITES}
use Rattle.fc_base.specs.declared.numbers.Key.{Key}
use Rattle.fc_base.specs.declared.record.JobParts.{JobParts}
use Rattle.write_order.specs.Blocks.{block_of}
use Rattle.write_order.specs.Stamps.{bytes_of}
use Rattle.disk_model.specs.File.{File, IsBlock, block_bytes, has_bit}
use Rattle.engine.specs.History.{Event, failures, issued, is_done, in_flight, open_writes}
use Rattle.engine.specs.Legal.{IsLegal}
use Rattle.net_world.specs.Contents.{with_block}
use Rattle.net_world.specs.Honest.{HoldsWrite, HasAllSectors}
use Rattle.net_world.proofs.GroundLemmas.{Ground}

-- An open write was issued, and isn't done.
pub opened : Ground → (job : JobParts) (h : List Event) (m : ℕ) → IsLegal job h → has (open_writes h) m ≡ true → (m < issued h) × (is_done h m ≡ false)
opened laws job h m legal is_open =
    let flies = (and_parts (has (in_flight h) m) (not (has (failures h) m)) (sym (laws.opened h m) ∙ is_open)).0 in
    let parts = and_parts (nat_lt m (issued h)) (not (is_done h m)) (sym (laws.flying job.depth job.window h legal.by_window m) ∙ flies) in
    (less m (issued h) parts.0, undone (is_done h m) parts.1)
  where
    less : (a b : ℕ) → nat_lt a b ≡ true → a < b
    less a b h = grind (arith, nat_tests)

    undone : (b : Bool) → not b ≡ true → b ≡ false
    undone true e = absurd cc
    undone false e = refl

-- It goes to another block than a write that is done and isn't below it.
pub goes_elsewhere : Ground → (job : JobParts) (h : List Event) (m k : ℕ) → IsLegal job h → has (open_writes h) m ≡ true → is_done h k ≡ true → m ≤ k
    → block_of job m ≡ block_of job k → ⊥
goes_elsewhere laws job h m k legal is_open finished le same =
    let o = opened laws job h m legal is_open in
    elim (cases_eq m k) [
      | inl e ↦ false≢true (sym o.1 ∙ ap (is_done h) e ∙ finished)
      | inr ne ↦ false≢true (sym o.1 ∙ laws.waits job h m k legal (omega (arith, ne, le)) (laws.issued job.depth job.window h legal.by_window k finished) same)
    ]

file_of : (ℕ → List ℕ) → File
file_of held = record { content = held; power = None; failures = 0 }

-- Another block holds what it held.
pub holds_on : Ground → (held : ℕ → List ℕ) (key : Key) (job : JobParts) (k m mask : ℕ) → IsTrue (is_within_limits job) → (block_of job k ≡ block_of job m → ⊥)
    → HoldsWrite held key job k
    → HoldsWrite (with_block mask (block_of job m) (bytes_of key job m) held) key job k
unfolding file_of
holds_on laws held key job k m mask limits apart h =
    let bytes = bytes_of key job m in
    let size : length bytes ≡ job.bs = laws.fill key job limits m (block_of job m) in
    let kept = laws.others (has_bit mask) (file_of held) (block_of job m) (block_of job k) bytes apart in
    subst (λ n. block_bytes (with_block mask (block_of job m) bytes held) n (block_of job k) ≡ block_bytes held n (block_of job k)) size kept ∙ h

-- A block of a job that is within its limits.
is_block : Ground → (key : Key) (job : JobParts) (m : ℕ) → IsTrue (is_within_limits job) → IsBlock (block_of job m) (length (bytes_of key job m))
is_block laws key job m limits =
    let size : length (bytes_of key job m) ≡ job.bs = laws.fill key job limits m (block_of job m) in
    let inside = laws.region job limits m in
    let all = and_parts (has_block_size job && has_region job && has_queue job) (has_pattern job) limits in
    let three = and_parts (has_block_size job && has_region job) (has_queue job) all.0 in
    let two = and_parts (has_block_size job) (has_region job) three.0 in
    let bs = and_parts (nat_le 512 job.bs && nat_le job.bs MAX_BLOCK_SIZE) (job.bs % 512 == 0) two.0 in
    let bounds = and_parts (nat_le 512 job.bs) (nat_le job.bs MAX_BLOCK_SIZE) bs.0 in
    let blocks = and_parts (nat_le 1 job.blocks && nat_le job.blocks MAX_BLOCKS) (nat_le 1 job.total && nat_le job.total MAX_WRITES) two.1 in
    let few = (and_parts (nat_le 1 job.blocks) (nat_le job.blocks MAX_BLOCKS) blocks.0).1 in
    subst (λ n. IsBlock (block_of job m) n) (sym size)
    (record {
      number = below (block_of job m) job.blocks MAX_BLOCKS inside few;
      least = le 512 job.bs bounds.0;
      most = le job.bs MAX_BLOCK_SIZE bounds.1;
      whole = same (job.bs % 512) bs.1;
    })
  where
    below : (a b c : ℕ) → a < b → nat_le b c ≡ true → a < c
    below a b c l h = grind (arith, nat_tests)

    le : (a b : ℕ) → nat_le a b ≡ true → a ≤ b
    le a b h = grind (arith, nat_tests)

    same : (a : ℕ) → (a == 0) ≡ true → a ≡ 0
    same a h = grind (arith, nat_tests)

-- A write of which all sectors land is in its block.
pub holds_whole : Ground → (held : ℕ → List ℕ) (key : Key) (job : JobParts) (m mask : ℕ) → IsTrue (is_within_limits job) → HasAllSectors mask job
    → HoldsWrite (with_block mask (block_of job m) (bytes_of key job m) held) key job m
unfolding file_of
holds_whole laws held key job m mask limits every =
    let bytes = bytes_of key job m in
    let size : length bytes ≡ job.bs = laws.fill key job limits m (block_of job m) in
    subst (λ n. block_bytes (with_block mask (block_of job m) bytes held) n (block_of job m) ≡ bytes) size
    (laws.whole (has_bit mask) (file_of held) (block_of job m) bytes (is_block laws key job m limits) (λ i lt. every i (subst (λ n. i < n / 512) size lt)))
