use Rattle.std.proofs.Common.{◌≡◌, drop}
use Rattle.ledger.specs.Spelling.{with_runs}
use Rattle.ledger.proofs.spelling.add_runs.Given as goal

abbrev pub invariant-loop-write : goal.invariant-loop-write
invariant-loop-write l = with_runs l.table (drop l.write-index l.writes) ≡ with_runs l.fn.table l.writes
