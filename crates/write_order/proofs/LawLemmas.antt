-- How long the bytes of a write are, and what they tell.
use Rattle.std.proofs.Common.{◌≡◌, ℕ, zero, suc, ◌+◌, ◌*◌, ◌/◌, ◌%◌, ◌^◌, ◌<◌, ◌≤◌, ◌&&◌, IsTrue, nat_le}
use Rattle.std.proofs.Common.{eqb, List, ◌++◌, length, take, refl, sym, ap, ◌∙◌, arith, length-append}
use Rattle.std.specs.List.{range_with_len, flat_map}
use Rattle.std.specs.Int.{w32, w64, to_be_bytes, from_be_bytes}
use Rattle.std.proofs.Math.Seq.{take-append_seam}
use Rattle.std.proofs.lemmas.Bool.{and_parts, leb-true, eqb-true}
use Rattle.std.proofs.lemmas.List.{append_cancel_left, length-replicate}
use Rattle.std.proofs.lemmas.List.Concat.{flat_map-cons}
use Rattle.std.proofs.lemmas.List.FromFn.{length-map-range_with_len}
use Rattle.std.proofs.lemmas.Nat.{from_be_bytes-to_be_bytes_4, from_be_bytes-to_be_bytes_8}
use Rattle.fc_base.specs.declared.limits.TheConstants.{MAX_BLOCK_SIZE, MAX_BLOCKS, MAX_WRITES}
use Rattle.fc_base.specs.declared.record.JobParts.{JobParts}
use Rattle.fc_base.specs.declared.record.Verify.{Verify}
use Rattle.fc_base.specs.declared.record.Verify.TheVariants.{Stamp, Pattern}
use Rattle.fc_base.specs.declared.numbers.Key.{Key}
use Rattle.fc_base.specs.JobParts.{is_within_limits, has_block_size, has_region, has_queue, has_pattern}
use Rattle.write_order.specs.Stamps.{counting_bytes, stamped_sector, written_bytes}
use Rattle.write_order.specs.Laws.{StampFields, HasRoomInAStamp, sector_with, first_fields}
use Rattle.write_order.proofs.HoldSteps.{sector_at}

-- What the limits say of blocks.
pub record BlockLimits (job : JobParts) : Type 0 where
  pub size : 512 ≤ job.bs
  pub whole : job.bs % 512 ≡ 0
  pub blocks : 0 < job.blocks

pub block_limits : (job : JobParts) → IsTrue (is_within_limits job) → BlockLimits job
block_limits job limits =
    let three = and_parts (has_block_size job && has_region job && has_queue job) (has_pattern job) limits in
    let two = and_parts (has_block_size job && has_region job) (has_queue job) three.0 in
    let one = and_parts (has_block_size job) (has_region job) two.0 in
    let size = and_parts (nat_le 512 job.bs && nat_le job.bs MAX_BLOCK_SIZE) (eqb (job.bs % 512) 0) one.0 in
    let region = and_parts (nat_le 1 job.blocks && nat_le job.blocks MAX_BLOCKS) (nat_le 1 job.total && nat_le job.total MAX_WRITES) one.1 in
    record {
      size = leb-true 512 job.bs (and_parts (nat_le 512 job.bs) (nat_le job.bs MAX_BLOCK_SIZE) size.0).0;
      whole = eqb-true (job.bs % 512) 0 size.1;
      blocks = leb-true 1 job.blocks (and_parts (nat_le 1 job.blocks) (nat_le job.blocks MAX_BLOCKS) region.0).0;
    }

pub length-counting_bytes : (from n : ℕ) → length (counting_bytes from n) ≡ n
unfolding counting_bytes
length-counting_bytes from n = length-map-range_with_len (λ i. (from + i) % 256) 0 n

-- A stamped sector has 512 bytes.
pub length-stamped_sector : (key : Key) (k block sector : ℕ) → length (stamped_sector key k block sector) ≡ 512
unfolding stamped_sector
length-stamped_sector key k block sector = omega (arith, length-counting_bytes k 476)

-- Sectors have so many times 512 bytes.
pub length-sectors : (f : ℕ → List ℕ) (n a : ℕ) → ((k : ℕ) → length (f k) ≡ 512) → length (flat_map f (range_with_len a n)) ≡ n * 512
length-sectors f zero a len = refl
length-sectors f (suc n) a len =
    rw (flat_map-cons f a (range_with_len (a + 1) n)) (omega
    (arith, length-append (f a) (flat_map f (range_with_len (a + 1) n)), len a, length-sectors f n (a + 1) len))

pub length-written_bytes : (key : Key) (job : JobParts) (k block : ℕ) → job.bs % 512 ≡ 0 → length (written_bytes key job k block) ≡ job.bs
length-written_bytes key job k block whole = go job.verify refl
  where
    go : (verify : Verify) → job.verify ≡ verify → length (written_bytes key job k block) ≡ job.bs
    go Stamp is =
        let len = length-sectors (stamped_sector key k block) (job.bs / 512) 0 (length-stamped_sector key k block) in
        rw is (omega arith)
    go Pattern is = rw is (length-replicate job.bs job.pattern)

-- Two lists with fronts of one length are alike in the fronts and behind them.
pub same_parts : (a b c d : List ℕ) → length a ≡ length b → a ++ c ≡ b ++ d → (a ≡ b) × (c ≡ d)
same_parts a b c d len e =
    let front : a ≡ b =
    sym (take-append_seam a c) ∙ ap (take (length a)) e ∙ ap (λ n. take n (b ++ d)) len ∙ take-append_seam b d in
    let moved : b ++ c ≡ b ++ d = rw front at e in
    (front, append_cancel_left b c d moved)

same_long : (m n : ℕ) → m < 2 ^ 64 → n < 2 ^ 64 → to_be_bytes w64 m ≡ to_be_bytes w64 n → m ≡ n
same_long m n p q e =
    sym (from_be_bytes-to_be_bytes_8 m p) ∙ ap (from_be_bytes w64) e ∙ from_be_bytes-to_be_bytes_8 n q

same_short : (m n : ℕ) → m < 2 ^ 32 → n < 2 ^ 32 → to_be_bytes w32 m ≡ to_be_bytes w32 n → m ≡ n
same_short m n p q e =
    sym (from_be_bytes-to_be_bytes_4 m p) ∙ ap (from_be_bytes w32) e ∙ from_be_bytes-to_be_bytes_4 n q

-- The fields are known by their numbers.
abbrev fields_of : ℕ → ℕ → ℕ → ℕ → ℕ → ℕ → StampFields
fields_of run server job write block sector =
    record { key = record { run = run; server = server; job = job }; write = write; block = block; sector = sector }

same_fields : (a b : StampFields) → a.key.run ≡ b.key.run → a.key.server ≡ b.key.server → a.key.job ≡ b.key.job → a.write ≡ b.write → a.block ≡ b.block
    → a.sector ≡ b.sector → a ≡ b
same_fields a b run server job write block sector =
    let same : fields_of a.key.run a.key.server a.key.job a.write a.block a.sector ≡ fields_of b.key.run b.key.server b.key.job b.write b.block b.sector =
    rw (run, server, job, write, block, sector) refl in
    same

-- Sectors with the same bytes say the same.
pub same_stamps : (a b : StampFields) → HasRoomInAStamp a → HasRoomInAStamp b → sector_with a ≡ sector_with b → a ≡ b
unfolding stamped_sector
same_stamps a b p q e =
    let run = same_parts (to_be_bytes w64 a.key.run) (to_be_bytes w64 b.key.run) _ _ refl e in
    let server = same_parts (to_be_bytes w32 a.key.server) (to_be_bytes w32 b.key.server) _ _ refl run.1 in
    let job = same_parts (to_be_bytes w32 a.key.job) (to_be_bytes w32 b.key.job) _ _ refl server.1 in
    let write = same_parts (to_be_bytes w64 a.write) (to_be_bytes w64 b.write) _ _ refl job.1 in
    let block = same_parts (to_be_bytes w64 a.block) (to_be_bytes w64 b.block) _ _ refl write.1 in
    let sector = same_parts (to_be_bytes w32 a.sector) (to_be_bytes w32 b.sector) _ _ refl block.1 in
    same_fields a b (same_long _ _ p.run q.run run.0) (same_short _ _ p.server q.server server.0) (same_short _ _ p.job q.job job.0)
    (same_long _ _ p.write q.write write.0) (same_long _ _ p.block q.block block.0) (same_short _ _ p.sector q.sector sector.0)

-- The first sector of a block that a job stamped.
pub first_sector_is : (key : Key) (job : JobParts) (k block : ℕ) → 512 ≤ job.bs → job.verify ≡ Stamp
    → take 512 (written_bytes key job k block) ≡ sector_with (first_fields key k block)
first_sector_is key job k block some is =
    rw is (sector_at (stamped_sector key k block) (job.bs / 512) 0 0 (length-stamped_sector key k block) (omega arith))
