-- The block of each write of a job.
use Rattle.std.specs.Prelude.{ℕ, ◌%◌}
use Rattle.fc_base.specs.declared.record.JobParts.{JobParts}
use Rattle.fc_base.specs.declared.record.Kind.{Kind}
use Rattle.fc_base.specs.declared.record.Kind.TheVariants.{Sequential, RandomMap, RandomFree}
use Rattle.write_order.specs.Words.{word}
use Rattle.write_order.specs.Picks.{block_with_map, block_without_map}

-- The block of write k: in turn, or the one that word k of the generator picks.
abbrev pub block_of : JobParts → ℕ → ℕ
block_of job k = by job.kind
  where
    by : Kind → ℕ
    by Sequential = k % job.blocks
    by RandomMap = block_with_map (word job.seed) job.blocks k
    by RandomFree = block_without_map (word job.seed) job.blocks k
