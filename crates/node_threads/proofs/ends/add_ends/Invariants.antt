use Rattle.std.proofs.Common.{◌≡◌, ◌++◌, map, All}
use Rattle.node_threads.specs.Ends.{IsEnd, place_of, jobs_of}
use Rattle.node_threads.proofs.ends.add_ends.Given as goal

abbrev pub invariant-loop-job : goal.invariant-loop-job
invariant-loop-job l =
    (map place_of l.ends.items ≡ map place_of l.initial.ends.items ++ jobs_of l.number l.job)
    × (All (IsEnd l.servers l.reports l.attempt) l.initial.ends.items → All (IsEnd l.servers l.reports l.attempt) l.ends.items)
