use Rattle.std.proofs.Common.{◌≡◌, [], replicate}
use Rattle.ledger.proofs.ledger.Ledger.new.Given as goal

abbrev pub invariant-loop : goal.invariant-loop
invariant-loop l = l.entries.items ≡ replicate l.counter []
