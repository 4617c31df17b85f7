-- What the blocks of a job are checked against.
use Rattle.std.specs.Prelude.{ℕ, zero, suc, Bool, true, not, ◌&&◌, ◌==◌, List, filter, map, Option, Some, None, if◌then◌else◌}
use Rattle.std.specs.List.{range_with_len}
use Rattle.fc_base.specs.declared.numbers.Key.{Key}
use Rattle.fc_base.specs.declared.record.JobParts.{JobParts}
use Rattle.fc_base.specs.Counted.{has, numbers_below}
use Rattle.write_order.specs.Blocks.{block_of}
use Rattle.verify_state.specs.State.{State}
use Rattle.recheck.specs.declared.expected.BlockWrites.{BlockWrites}

-- How many writes were issued: those that the state tells of, or in a full pass all of the job's.
abbrev pub issued_in : JobParts → Option State → ℕ
issued_in job None = job.total
issued_in job (Some state) = state.issued

-- A write counts as completed where the state counts it; in a full pass each does.
abbrev pub counts : Option State → ℕ → Bool
counts None k = true
counts (Some state) k = has state.counted k

-- The greatest number below n that passes, if one does.
abbrev pub greatest_below : (ℕ → Bool) → ℕ → Option ℕ
greatest_below test zero = None
greatest_below test (suc n) = if test n then Some n else greatest_below test n

-- The last completed write to a block, if there is one: that with the greatest number.
abbrev pub last_completed : JobParts → Option State → ℕ → Option ℕ
last_completed job state block =
    greatest_below (λ k. counts state k && block_of job k == block) (issued_in job state)

-- The writes in flight: those issued and not completed, ascending.
abbrev pub in_flight : JobParts → Option State → List ℕ
in_flight job state = filter (λ k. not (counts state k)) (numbers_below (issued_in job state))

-- A write and its block.
abbrev pub placed_write : JobParts → ℕ → BlockWrites
placed_write job k = record { seq = k; block = block_of job k }

-- What a check goes by: whose blocks they are and by which job, the last completed write to each of
-- them, and the writes in flight with their blocks.
pub record Expected : Type 0 where
  pub key : Key
  pub job : JobParts
  pub last : List (Option ℕ)
  pub in_flight : List BlockWrites

-- What the job's blocks are checked against, by a state or without one.
abbrev pub expected_by : Key → JobParts → Option State → Expected
expected_by key job state = record {
  key = key;
  job = job;
  last = map (last_completed job state) (range_with_len 0 job.blocks);
  in_flight = map (placed_write job) (in_flight job state);
}
