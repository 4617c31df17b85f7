-- How far a job's writes have come.
use Rattle.std.specs.Prelude.{ℕ, Option, Some, None, nat_lt, if◌then◌else◌}
use Rattle.fc_base.specs.declared.record.JobParts.{JobParts}
use Rattle.write_order.specs.Blocks.{block_of}

-- A job, and how many of its writes were issued.
pub record Progress : Type 0 where
  pub job : JobParts
  pub issued : ℕ

-- The block of the next write, none where all writes of the job were issued.
abbrev pub next_block : Progress → Option ℕ
next_block at = if nat_lt at.issued at.job.total then Some (block_of at.job at.issued) else None
