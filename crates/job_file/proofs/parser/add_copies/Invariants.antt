use Rattle.job_file.specs.Draft.{copies_of}
use Rattle.job_file.proofs.Copies.{CopiesSoFar}
use Rattle.job_file.proofs.parser.add_copies.Given as goal

abbrev pub invariant-loop : goal.invariant-loop
invariant-loop l = CopiesSoFar l.initial.jobs.items (copies_of l.draft) l.counter l.draft l.jobs.items
