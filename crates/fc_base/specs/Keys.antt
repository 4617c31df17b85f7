-- The keys of jobs.
use Rattle.std.specs.Prelude.{Bool, ◌&&◌, ◌==◌, nat_le, nat_lt}
use Rattle.fc_base.specs.declared.limits.TheConstants.{MAX_JOBS, MAX_SERVERS}
use Rattle.fc_base.specs.declared.numbers.Key.{Key}

-- Runs count from 1, and there are 8 servers and 16 jobs.
abbrev pub is_key : Key → Bool
is_key key = nat_le 1 key.run && nat_lt key.server MAX_SERVERS && nat_lt key.job MAX_JOBS

-- Two keys are of the same run, server and job.
abbrev pub is_same_key : Key → Key → Bool
is_same_key a b = (a.run == b.run) && ((a.server == b.server) && (a.job == b.job))
