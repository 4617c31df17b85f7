-- The options that are set for a job.
use Rattle.std.specs.Prelude.{ℕ, Bool, List, Option, Some, None, [], ◌∷◌}
use Rattle.std.specs.Option.{option_or}
use Rattle.fc_base.specs.declared.record.Verify.{Verify}
use Rattle.job_file.specs.declared.option.ReadWrite.{ReadWrite}
use Rattle.job_file.specs.declared.option.Setting.{Setting}
use Rattle.job_file.specs.declared.option.Setting.TheVariants as set
use Rattle.job_file.specs.declared.settings.Settings.{Settings}

-- The last value that these options give.
abbrev pub last_in : {X : Type 0} → (Setting → Option X) → List Setting → Option X
last_in gives [] = None
last_in gives (s ∷ ss) = option_or (last_in gives ss) (gives s)

-- The value of an option is that of its last line in the job's own section, else that of its last
-- line in the global sections above the job.
abbrev pub value_of : {X : Type 0} → (Setting → Option X) → List Setting → List Setting → Option X
value_of gives own above = option_or (last_in gives own) (last_in gives above)

-- The value of `rw` that a setting gives: it gives a value to one option, and nothing to the
-- others.
abbrev pub read_write_in : Setting → Option ReadWrite
read_write_in (set.ReadWrite value) = Some value
read_write_in _ = None

-- The block size that a setting gives.
abbrev pub block_size_in : Setting → Option ℕ
block_size_in (set.BlockSize value) = Some value
block_size_in _ = None

-- The size that a setting gives.
abbrev pub size_in : Setting → Option ℕ
size_in (set.Size value) = Some value
size_in _ = None

-- How many bytes a setting has a job write in all.
abbrev pub io_size_in : Setting → Option ℕ
io_size_in (set.IoSize value) = Some value
io_size_in _ = None

-- How many writes a setting asks for.
abbrev pub number_ios_in : Setting → Option ℕ
number_ios_in (set.NumberIos value) = Some value
number_ios_in _ = None

-- The depth that a setting gives.
abbrev pub io_depth_in : Setting → Option ℕ
io_depth_in (set.IoDepth value) = Some value
io_depth_in _ = None

-- The window that a setting gives.
abbrev pub x_window_in : Setting → Option ℕ
x_window_in (set.XWindow value) = Some value
x_window_in _ = None

-- How many jobs a setting makes of one section.
abbrev pub num_jobs_in : Setting → Option ℕ
num_jobs_in (set.NumJobs value) = Some value
num_jobs_in _ = None

-- The seed that a setting gives.
abbrev pub rand_seed_in : Setting → Option ℕ
rand_seed_in (set.RandSeed value) = Some value
rand_seed_in _ = None

-- Whether blocks may repeat before all were written, where a setting says so.
abbrev pub no_random_map_in : Setting → Option Bool
no_random_map_in (set.NoRandomMap value) = Some value
no_random_map_in _ = None

-- How blocks are filled and verified, where a setting says so.
abbrev pub verify_in : Setting → Option Verify
verify_in (set.Verify value) = Some value
verify_in _ = None

-- The byte of a pattern, where a setting gives one.
abbrev pub verify_pattern_in : Setting → Option ℕ
verify_pattern_in (set.VerifyPattern value) = Some value
verify_pattern_in _ = None

-- Whether a check ends at the first fault, where a setting says so.
abbrev pub verify_fatal_in : Setting → Option Bool
verify_fatal_in (set.VerifyFatal value) = Some value
verify_fatal_in _ = None

-- Whether a verify state is saved, where a setting says so.
abbrev pub verify_state_save_in : Setting → Option Bool
verify_state_save_in (set.VerifyStateSave value) = Some value
verify_state_save_in _ = None

-- Whether a verify state is loaded, where a setting says so.
abbrev pub verify_state_load_in : Setting → Option Bool
verify_state_load_in (set.VerifyStateLoad value) = Some value
verify_state_load_in _ = None

-- The name of the file, where a setting gives one.
abbrev pub filename_in : Setting → Option (List ℕ)
filename_in (set.Filename value) = Some value
filename_in _ = None

-- The options that hold for a job, by the options of its own section and those of the global
-- sections above.
abbrev pub settings_of : List Setting → List Setting → Settings
settings_of own above = record {
  read_write = value_of read_write_in own above;
  block_size = value_of block_size_in own above;
  size = value_of size_in own above;
  io_size = value_of io_size_in own above;
  number_ios = value_of number_ios_in own above;
  io_depth = value_of io_depth_in own above;
  x_window = value_of x_window_in own above;
  num_jobs = value_of num_jobs_in own above;
  rand_seed = value_of rand_seed_in own above;
  no_random_map = value_of no_random_map_in own above;
  verify = value_of verify_in own above;
  verify_pattern = value_of verify_pattern_in own above;
  verify_fatal = value_of verify_fatal_in own above;
  verify_state_save = value_of verify_state_save_in own above;
  verify_state_load = value_of verify_state_load_in own above;
  filename = value_of filename_in own above;
}

-- No option is set, as where the reader begins. No public contract cites this, or what follows.
abbrev pub none_set : Settings
none_set = record {
  read_write = None;
  block_size = None;
  size = None;
  io_size = None;
  number_ios = None;
  io_depth = None;
  x_window = None;
  num_jobs = None;
  rand_seed = None;
  no_random_map = None;
  verify = None;
  verify_pattern = None;
  verify_fatal = None;
  verify_state_save = None;
  verify_state_load = None;
  filename = None;
}

-- The options after one more line.
abbrev pub with_setting : Settings → Setting → Settings
with_setting old setting = record {
  read_write = option_or (read_write_in setting) old.read_write;
  block_size = option_or (block_size_in setting) old.block_size;
  size = option_or (size_in setting) old.size;
  io_size = option_or (io_size_in setting) old.io_size;
  number_ios = option_or (number_ios_in setting) old.number_ios;
  io_depth = option_or (io_depth_in setting) old.io_depth;
  x_window = option_or (x_window_in setting) old.x_window;
  num_jobs = option_or (num_jobs_in setting) old.num_jobs;
  rand_seed = option_or (rand_seed_in setting) old.rand_seed;
  no_random_map = option_or (no_random_map_in setting) old.no_random_map;
  verify = option_or (verify_in setting) old.verify;
  verify_pattern = option_or (verify_pattern_in setting) old.verify_pattern;
  verify_fatal = option_or (verify_fatal_in setting) old.verify_fatal;
  verify_state_save = option_or (verify_state_save_in setting) old.verify_state_save;
  verify_state_load = option_or (verify_state_load_in setting) old.verify_state_load;
  filename = option_or (filename_in setting) old.filename;
}
