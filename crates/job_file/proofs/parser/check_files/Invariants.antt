use Rattle.std.proofs.Common.{◌≡◌, [], take, drop}
use Rattle.job_file.specs.JobSet.{file_faults}
use Rattle.job_file.proofs.parser.check_files.Given as goal

-- The jobs so far share no file.
abbrev pub invariant-loop-number : goal.invariant-loop-number
invariant-loop-number l = file_faults (take l.number l.jobs) (drop l.number l.jobs) ≡ file_faults [] l.jobs
