-- The limits of a job's settings.
use Rattle.std.specs.Prelude.{ℕ, ◌%◌, Bool, true, ◌&&◌, ◌==◌, nat_le}
use Rattle.fc_base.specs.declared.limits.TheConstants.{MAX_BLOCK_SIZE, MAX_BLOCKS, MAX_WRITES, MAX_DEPTH, MAX_WINDOW}
use Rattle.fc_base.specs.declared.record.JobParts.{JobParts}
use Rattle.fc_base.specs.declared.record.Verify.{Verify}
use Rattle.fc_base.specs.declared.record.Verify.TheVariants.{Stamp, Pattern}

-- A block has 512 to 65,536 bytes, in whole sectors of 512.
abbrev pub has_block_size : JobParts → Bool
has_block_size job = nat_le 512 job.bs && nat_le job.bs MAX_BLOCK_SIZE && (job.bs % 512 == 0)

-- A job has 1 to 65,536 blocks and writes 1 to 1,000,000 times.
abbrev pub has_region : JobParts → Bool
has_region job =
    nat_le 1 job.blocks && nat_le job.blocks MAX_BLOCKS &&
    (nat_le 1 job.total && nat_le job.total MAX_WRITES)

-- At most 64 writes may be in flight, and the window is at least that number and at most 256.
abbrev pub has_queue : JobParts → Bool
has_queue job =
    nat_le 1 job.depth && nat_le job.depth MAX_DEPTH &&
    (nat_le job.depth job.window && nat_le job.window MAX_WINDOW)

-- Only a job that writes a pattern has one.
abbrev pub has_pattern : JobParts → Bool
has_pattern job = is_pattern_of job.verify job.pattern
  where
    is_pattern_of : Verify → ℕ → Bool
    is_pattern_of Stamp byte = byte == 0
    is_pattern_of Pattern byte = true

-- A job's settings are within all limits: its block size, its region, its queue and its pattern.
abbrev pub is_within_limits : JobParts → Bool
is_within_limits job = has_block_size job && has_region job && has_queue job && has_pattern job
