-- The limits of a job, as numbers.
use Rattle.std.proofs.Common.{◌≡◌, ◌≤◌, true}
use Rattle.std.specs.Prelude.{nat_le, ◌&&◌}
use Rattle.std.proofs.lemmas.Bool.{and_parts, leb-true}
use Rattle.fc_base.specs.declared.limits.TheConstants.{MAX_BLOCKS, MAX_BLOCK_SIZE, MAX_DEPTH, MAX_WINDOW, MAX_WRITES}
use Rattle.fc_base.specs.declared.record.JobParts.{JobParts}
use Rattle.fc_base.specs.JobParts.{is_within_limits, has_block_size, has_region, has_queue, has_pattern}

pub record Limits (job : JobParts) : Type 0 where
  pub bs : job.bs ≤ MAX_BLOCK_SIZE
  pub blocks : job.blocks ≤ MAX_BLOCKS
  pub total : job.total ≤ MAX_WRITES
  pub depth : job.depth ≤ MAX_DEPTH
  pub window : job.window ≤ MAX_WINDOW

pub limits : (job : JobParts) → is_within_limits job ≡ true → Limits job
limits job e =
    let three = and_parts (has_block_size job && has_region job && has_queue job) (has_pattern job) e in
    let two = and_parts (has_block_size job && has_region job) (has_queue job) three.0 in
    let one = and_parts (has_block_size job) (has_region job) two.0 in
    let size = and_parts (nat_le 512 job.bs && nat_le job.bs MAX_BLOCK_SIZE) _ one.0 in
    let region = and_parts (nat_le 1 job.blocks && nat_le job.blocks MAX_BLOCKS) (nat_le 1 job.total && nat_le job.total MAX_WRITES) one.1 in
    let queue = and_parts (nat_le 1 job.depth && nat_le job.depth MAX_DEPTH) (nat_le job.depth job.window && nat_le job.window MAX_WINDOW) two.1 in
    record {
      bs = leb-true job.bs MAX_BLOCK_SIZE (and_parts (nat_le 512 job.bs) (nat_le job.bs MAX_BLOCK_SIZE) size.0).1;
      blocks = leb-true job.blocks MAX_BLOCKS (and_parts (nat_le 1 job.blocks) (nat_le job.blocks MAX_BLOCKS) region.0).1;
      total = leb-true job.total MAX_WRITES (and_parts (nat_le 1 job.total) (nat_le job.total MAX_WRITES) region.1).1;
      depth = leb-true job.depth MAX_DEPTH (and_parts (nat_le 1 job.depth) (nat_le job.depth MAX_DEPTH) queue.0).1;
      window = leb-true job.window MAX_WINDOW (and_parts (nat_le job.depth job.window) (nat_le job.window MAX_WINDOW) queue.1).1;
    }

pub window_limit : (job : JobParts) → is_within_limits job ≡ true → job.window ≤ MAX_WINDOW
window_limit job e = (limits job e).window
