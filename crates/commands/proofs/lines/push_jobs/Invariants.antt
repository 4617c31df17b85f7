use Rattle.std.proofs.Common.{◌≡◌, ◌++◌, take, string_bytes}
use Rattle.std.specs.List.{flat_map, enumerate_from}
use Rattle.program_io.specs.Words.{with_line_feed}
use Rattle.commands.specs.Lines.{job_line}
use Rattle.commands.proofs.lines.push_jobs.Given as goal

abbrev pub invariant-loop-number : goal.invariant-loop-number
invariant-loop-number l = string_bytes l.lines ≡ string_bytes l.initial.lines
    ++ flat_map (λ (number, job). with_line_feed (job_line number job)) (take l.number (enumerate_from 0 l.jobs))
