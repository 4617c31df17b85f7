-- The disk at the place of a file, and the block of a write.
use Rattle.std.proofs.Common.{◌≡◌, refl, sym, ◌∙◌, ap, ℕ, ◌+◌, ◌*◌, ◌%◌, ◌<◌, ◌≤◌, arith}
use Rattle.std.proofs.Common.{true, ◌&&◌, ◌==◌, List, length, Option, Some}
use Rattle.std.specs.Prelude.{get_or, nat_le, nat_lt, set, IsTrue}
use Rattle.std.proofs.lemmas.Bool.{eqb-true, and_parts}
use Rattle.fc_base.specs.declared.limits.TheConstants.{MAX_BLOCKS, MAX_BLOCK_SIZE, MAX_JOBS, MAX_WRITES}
use Rattle.fc_base.specs.declared.record.JobParts.{JobParts}
use Rattle.fc_base.specs.JobParts.{has_block_size, has_region, has_queue, has_pattern, is_within_limits}
use Rattle.write_order.specs.Blocks.{block_of}
use Rattle.write_order.specs.Stamps.{bytes_of, written_bytes}
use Rattle.write_order.specs.Laws.{WritesStayInTheRegion}
use Rattle.engine.specs.declared.issue.Ticket.{Ticket}
use Rattle.engine.specs.Running.{Origin}
use Rattle.disk_model.specs.File.{File, IsBlock, has_bit, with_landed}
use Rattle.disk_model.specs.MemDisk.{file_of}
use Rattle.disk_model.specs.declared.mem_disk.MemDisk.{MemDisk}
use Rattle.net_world.specs.declared.world.World.{World}
use Rattle.net_world.specs.Setup.{Setup}
use Rattle.net_world.specs.Changes.{Change, trace}
use Rattle.net_world.specs.Contents.{content, with_block, with_write}
use Rattle.std.proofs.lemmas.Bool.Decides.{nat_tests}
use Rattle.net_world.specs.Finding.{IsOpen}
use Rattle.net_world.specs.Writes.{open_at}
use Rattle.net_world.specs.Sending.{sent_in}
use Rattle.net_world.specs.Stands.{StandsFor, file}
use Rattle.net_world.proofs.ServeLemmas.{node_at}
use Rattle.net_world.proofs.FileStepLemmas.{with_content, HasWritten, has_slot}

-- It is there, and holds the file.
pub record IsRead (w : Setup) (past : List Change) (s j place : ℕ) (disk : MemDisk) (now : World) : Type 0 where
  pub slot : j < MAX_JOBS
  pub there : MAX_JOBS * s + j < length now.files.items
  pub place_is : place ≡ MAX_JOBS * s + j
  pub held : file_of disk ≡ file w past s j

pub is_read : (w : Setup) (past : List Change) (s j place : ℕ) (disk : MemDisk) (now : World) → StandsFor w past now
    → (nat_lt j MAX_JOBS && nat_lt (MAX_JOBS * s + j) (length now.files.items)) ≡ true
    → place ≡ MAX_JOBS * s + j → disk ≡ get_or now.files.items place disk → IsRead w past s j place disk now
is_read w past s j place disk now stands has is at =
    let slot = has_slot s j (length now.files.items) has in
    record {
      slot = slot.0;
      there = slot.1;
      place_is = is;
      held = stands.files_are s j disk slot.0 (node_at now.files.items (MAX_JOBS * s + j) place disk is slot.1 at);
    }

-- Another was written there.
pub written : (w : Setup) (past : List Change) (s j place : ℕ) (was disk : MemDisk) (old new : World) → IsRead w past s j place was old
    → new.files.items ≡ set old.files.items place disk
    → sent_in new.sent ≡ sent_in old.sent → new.client ≡ old.client → new.servers ≡ old.servers → new.mirror ≡ old.mirror → HasWritten s j disk old new
written w past s j place was disk old new r set_is sent_is client_is servers_are mirror_is =
    record {
      slot = r.slot;
      there = r.there;
      place = place;
      place_is = r.place_is;
      set_is = set_is;
      sent_is = sent_is;
      client_is = client_is;
      servers_are = servers_are;
      mirror_is = mirror_is;
    }

-- ---- the block of a write

le_from : (a b : ℕ) → nat_le a b ≡ true → a ≤ b
le_from a b h = grind (arith, nat_tests)

-- A block of the job.
pub is_block : (job : JobParts) → IsTrue (is_within_limits job) → (block len : ℕ) → block < MAX_BLOCKS → len ≡ job.bs → IsBlock block len
is_block job limits block len l e =
    let all = and_parts (has_block_size job && has_region job && has_queue job) (has_pattern job) limits in
    let three = and_parts (has_block_size job && has_region job) (has_queue job) all.0 in
    let size = (and_parts (has_block_size job) (has_region job) three.0).0 in
    let parts = and_parts (nat_le 512 job.bs && nat_le job.bs MAX_BLOCK_SIZE) (job.bs % 512 == 0) size in
    let ends = and_parts (nat_le 512 job.bs) (nat_le job.bs MAX_BLOCK_SIZE) parts.0 in
    let whole : job.bs % 512 ≡ 0 = eqb-true (job.bs % 512) 0 parts.1 in
    record {
      number = l;
      least = omega (arith, e, le_from 512 job.bs ends.0);
      most = omega (arith, e, le_from job.bs MAX_BLOCK_SIZE ends.1);
      whole = ap (λ k. k % 512) e ∙ whole;
    }

few_blocks : (job : JobParts) → IsTrue (is_within_limits job) → job.blocks ≤ MAX_BLOCKS
few_blocks job limits =
    let all = and_parts (has_block_size job && has_region job && has_queue job) (has_pattern job) limits in
    let three = and_parts (has_block_size job && has_region job) (has_queue job) all.0 in
    let two = and_parts (has_block_size job) (has_region job) three.0 in
    let blocks = and_parts (nat_le 1 job.blocks && nat_le job.blocks MAX_BLOCKS) (nat_le 1 job.total && nat_le job.total MAX_WRITES) two.1 in
    le_from job.blocks MAX_BLOCKS (and_parts (nat_le 1 job.blocks) (nat_le job.blocks MAX_BLOCKS) blocks.0).1

-- An open write goes to one of them.
pub block_below : WritesStayInTheRegion → (w : Setup) (past : List Change) (s j k : ℕ) (ticket : Ticket) (rec : JobParts) → IsTrue (is_within_limits rec)
    → IsOpen w past s j k ticket rec → ticket.block < MAX_BLOCKS
block_below law w past s j k ticket rec limits h =
    let block_is : ticket.block ≡ block_of rec k = ap (λ (t : Ticket). t.block) h.ticket_is ∙ ap (λ (r : JobParts). block_of r k) (sym h.rec_is) in
    omega (arith, law rec limits k, few_blocks rec limits, block_is)

landed_same : (mask k : ℕ) (x : Option Origin) (origin : Origin) (block : ℕ) (bytes : List ℕ) (held : ℕ → List ℕ) → x ≡ Some origin
    → block ≡ block_of origin.job k → bytes ≡ bytes_of origin.key origin.job k
    → with_block mask block bytes held ≡ with_write k mask x held
landed_same mask k x origin block bytes held h e f = rw (h, e, f) refl

-- What the file holds once an open write has landed.
pub landed_is : (w : Setup) (past : List Change) (s j k mask : ℕ) (ticket : Ticket) (rec : JobParts) (bytes : List ℕ) (was now : File)
    → IsOpen w past s j k ticket rec → was ≡ file w past s j → bytes ≡ written_bytes ticket.key rec k ticket.block
    → now ≡ with_landed (has_bit mask) ticket.block bytes was → now ≡ with_content (with_write k mask (open_at (trace w past) s j k) (content w past s j))
landed_is w past s j k mask ticket rec bytes was now h is b e =
    let block_is : ticket.block ≡ block_of h.origin.job k = ap (λ (t : Ticket). t.block) h.ticket_is in
    let bytes_is : bytes ≡ bytes_of h.origin.key h.origin.job k =
    b ∙ ap (λ (t : Ticket). written_bytes t.key rec k t.block) h.ticket_is
    ∙ ap (λ (r : JobParts). written_bytes h.origin.key r k (block_of h.origin.job k)) h.rec_is in
    e ∙ ap (with_landed (has_bit mask) ticket.block bytes) is
    ∙ ap with_content (landed_same mask k (open_at (trace w past) s j k) h.origin ticket.block bytes (content w past s j) h.is_open block_is bytes_is)
