-- What the options of a job come to.
use Rattle.std.specs.Prelude.{ℕ, ◌+◌, ◌/◌, ◌%◌, ◌^◌, min, Bool, true, false, not, ◌||◌, ◌==◌, List}
use Rattle.std.specs.Prelude.{[], ◌∷◌, ◌++◌, Option, is_none, unwrap_or, replicate, if◌then◌else◌}
use Rattle.std.specs.List.{flat_map, sum_by}
use Rattle.fc_base.specs.declared.record.JobParts.{JobParts}
use Rattle.fc_base.specs.declared.record.Kind.{Kind}
use Rattle.fc_base.specs.declared.record.Kind.TheVariants.{Sequential, RandomMap, RandomFree}
use Rattle.fc_base.specs.declared.record.Verify.{Verify}
use Rattle.fc_base.specs.declared.record.Verify.TheVariants.{Stamp, Pattern}
use Rattle.fc_base.specs.JobParts.{is_within_limits}
use Rattle.job_file.specs.declared.fault.JobFault.{JobFault}
use Rattle.job_file.specs.declared.fault.JobFault.TheVariants.{NoSize, OutOfLimits}
use Rattle.job_file.specs.declared.option.ReadWrite.{ReadWrite}
use Rattle.job_file.specs.declared.option.ReadWrite.TheVariants.{Read, Write, RandRead, RandWrite}
use Rattle.job_file.specs.declared.settings.Settings.{Settings}
use Rattle.job_file.specs.declared.draft.Draft.{Draft}
use Rattle.job_file.specs.declared.job.Job.{Job}
use Rattle.job_file.specs.Fault.{when}

-- What `rw` says: a job reads in order where its options say nothing else.
abbrev pub read_write_of : Settings → ReadWrite
read_write_of settings = unwrap_or settings.read_write Read

-- Whether a value of `rw` is to write.
abbrev pub is_write : ReadWrite → Bool
is_write Read = false
is_write Write = true
is_write RandRead = false
is_write RandWrite = true

-- Whether a job writes.
abbrev pub writes : Settings → Bool
writes settings = is_write (read_write_of settings)

-- A random order visits each block once in a pass, unless there is no map of the blocks.
abbrev pub order_of : ReadWrite → Bool → Kind
order_of Read no_map = Sequential
order_of Write no_map = Sequential
order_of RandRead no_map = if no_map then RandomFree else RandomMap
order_of RandWrite no_map = if no_map then RandomFree else RandomMap

-- The order of a job.
abbrev pub kind_of : Settings → Kind
kind_of settings = order_of (read_write_of settings) (unwrap_or settings.no_random_map false)

-- The bytes of a block.
abbrev pub block_size_of : Settings → ℕ
block_size_of settings = unwrap_or settings.block_size 4096

-- The bytes of the region, 0 without the option.
abbrev pub size_of : Settings → ℕ
size_of settings = unwrap_or settings.size 0

-- The bytes to write: those of the region, where the option says 0 or nothing.
abbrev pub io_size_of : Settings → ℕ
io_size_of settings =
    if unwrap_or settings.io_size 0 == 0 then size_of settings else unwrap_or settings.io_size 0

-- The whole blocks of the region.
abbrev pub blocks_of : Settings → ℕ
blocks_of settings = size_of settings / block_size_of settings

-- A smaller number of writes that is asked for; 0 asks for nothing.
abbrev pub fewer : ℕ → ℕ → ℕ
fewer writes_asked writes_whole =
    if writes_asked == 0 then writes_whole else min writes_whole writes_asked

-- The writes: as many as the bytes to write have whole blocks, or a smaller number that is asked
-- for.
abbrev pub total_of : Settings → ℕ
total_of settings =
    fewer (unwrap_or settings.number_ios 0) (io_size_of settings / block_size_of settings)

-- Each job of a text has a seed of its own.
abbrev pub seed_of : ℕ → Settings → ℕ
seed_of number settings = (unwrap_or settings.rand_seed 1 + number) % 2 ^ 64

-- How many writes may be in flight.
abbrev pub depth_of : Settings → ℕ
depth_of settings = unwrap_or settings.io_depth 1

-- The window is the depth, where the options say nothing else.
abbrev pub window_of : Settings → ℕ
window_of settings = unwrap_or settings.x_window (depth_of settings)

-- What is written into the blocks: the stamp, where the options say nothing else.
abbrev pub verify_of : Settings → Verify
verify_of settings = unwrap_or settings.verify Stamp

-- The pattern counts only where a pattern is written.
abbrev pub pattern_under : Verify → Option ℕ → ℕ
pattern_under Stamp pattern = 0
pattern_under Pattern pattern = unwrap_or pattern 0

-- A job that writes a pattern has to have one.
abbrev pub lacks_pattern_under : Verify → Option ℕ → Bool
lacks_pattern_under Stamp pattern = false
lacks_pattern_under Pattern pattern = is_none pattern

-- What the job of a number does.
abbrev pub parts_of : ℕ → Settings → JobParts
parts_of number settings = record {
  kind = kind_of settings;
  verify = verify_of settings;
  pattern = pattern_under (verify_of settings) settings.verify_pattern;
  bs = block_size_of settings;
  blocks = blocks_of settings;
  total = total_of settings;
  seed = seed_of number settings;
  depth = depth_of settings;
  window = window_of settings;
}

-- The job of a number.
abbrev pub job_of : ℕ → Draft → Job
job_of number draft = record {
  name = draft.name;
  filename = draft.settings.filename;
  rec = parts_of number draft.settings;
  save = unwrap_or draft.settings.verify_state_save true;
  load = unwrap_or draft.settings.verify_state_load false;
  fatal = unwrap_or draft.settings.verify_fatal false;
}

-- A job is past a limit, or writes a pattern that it doesn't have.
abbrev pub is_past_limits : ℕ → Settings → Bool
is_past_limits number settings =
    not (is_within_limits (parts_of number settings)) || lacks_pattern_under
    (verify_of settings) settings.verify_pattern

-- A job has a size, and is within the limits.
abbrev pub draft_faults : ℕ → Draft → List JobFault
draft_faults number draft =
    when (size_of draft.settings == 0) (NoSize number)
    ++ when (is_past_limits number draft.settings) (OutOfLimits number)

-- How many jobs a section makes.
abbrev pub copies_of : Draft → ℕ
copies_of draft = unwrap_or draft.settings.num_jobs 1

-- How many jobs the sections make.
abbrev pub count_of : List Draft → ℕ
count_of drafts = sum_by copies_of drafts

-- The jobs of the sections, the copies of each in a row.
abbrev pub with_copies : List Draft → List Draft
with_copies drafts = flat_map (λ d. replicate (copies_of d) d) drafts

-- The jobs, numbered on from a number.
abbrev pub jobs_from : ℕ → List Draft → List Job
jobs_from number [] = []
jobs_from number (d ∷ ds) = job_of number d ∷ jobs_from (number + 1) ds

-- The faults of the jobs, numbered on from a number.
abbrev pub faults_from : ℕ → List Draft → List JobFault
faults_from number [] = []
faults_from number (d ∷ ds) = draft_faults number d ++ faults_from (number + 1) ds
