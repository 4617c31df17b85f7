-- How a check is kept. No public contract cites this.
use Rattle.std.specs.Prelude.{◌≡◌, ◌≤◌, IsTrue, length, map}
use Rattle.fc_base.specs.declared.limits.TheConstants.{MAX_JOBS}
use Rattle.messages.specs.Ranges.{is_run, is_attempt}
use Rattle.server_core.specs.declared.open_check.OpenCheck.TheInside.{Inside}
use Rattle.server_core.specs.KeptCheck.{CheckKept, progress_of}

-- What the fields of an open check show.
abbrev pub check_in : Inside → CheckKept
check_in check = record {
  run = check.run;
  attempt = check.attempt;
  jobs = check.jobs;
  progress = map progress_of check.progress.items;
}

-- The run and the attempt are in their ranges, there are 1 to 16 jobs, and it is kept of each how
-- far its check is.
pub record IsCheck (check : Inside) : Type 0 where
  pub run : IsTrue (is_run check.run)
  pub attempt : IsTrue (is_attempt check.attempt)
  pub some : 1 ≤ length check.jobs
  pub few : length check.jobs ≤ MAX_JOBS
  pub each : length check.progress.items ≡ length check.jobs
