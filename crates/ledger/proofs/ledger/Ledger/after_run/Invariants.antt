use Rattle.std.proofs.Common.{◌≡◌, map}
use Rattle.std.specs.List.{range_with_len}
use Rattle.ledger.specs.Entries.{behind_run}
use Rattle.ledger.specs.Places.{entry_of}
use Rattle.ledger.proofs.ledger.Ledger.after_run.Given as goal

abbrev pub invariant-loop-block : goal.invariant-loop-block
invariant-loop-block l = l.entries.items ≡ map (λ b. behind_run l.fn.e b (entry_of l.fn.self b)) (range_with_len 0 l.block)
