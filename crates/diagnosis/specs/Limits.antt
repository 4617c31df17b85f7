-- Which stamps can be.
use Rattle.std.specs.Prelude.{ℕ, ◌/◌, ◌&&◌, Bool, true, nat_lt, if◌then◌else◌}
use Rattle.fc_base.specs.declared.limits.TheConstants.{MAX_BLOCKS, MAX_BLOCK_SIZE, MAX_WRITES}
use Rattle.fc_base.specs.Keys.{is_key, is_same_key}
use Rattle.recheck.specs.Expected.{Expected}
use Rattle.diagnosis.specs.declared.stamp.Stamp.{Stamp}

-- The write, the block and the place that a stamp says are below these.
abbrev pub is_below : ℕ → ℕ → ℕ → Stamp → Bool
is_below writes blocks places stamp =
    nat_lt stamp.write.seq writes
    && (nat_lt stamp.write.block blocks && nat_lt stamp.sector places)

-- Some job can have written a stamp: its key is one of a job, and its numbers are within the limits
-- that each job has.
abbrev pub is_of_some_job : Stamp → Bool
is_of_some_job stamp =
    is_key stamp.write.key && is_below MAX_WRITES MAX_BLOCKS (MAX_BLOCK_SIZE / 512) stamp

-- A stamp that names the job that is checked is within it: its write, its block and its place are
-- ones of that job.
abbrev pub fits_its_job : Expected → Stamp → Bool
fits_its_job e stamp =
    if is_same_key stamp.write.key e.key
    then is_below e.job.total e.job.blocks (e.job.bs / 512) stamp else true

-- A stamp can be: some job can have written it, and where it names the checked one, that one can.
abbrev pub can_be : Expected → Stamp → Bool
can_be e stamp = is_of_some_job stamp && fits_its_job e stamp
