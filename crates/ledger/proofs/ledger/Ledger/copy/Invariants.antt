use Rattle.std.proofs.Common.{◌≡◌, map}
use Rattle.std.specs.List.{range_with_len}
use Rattle.ledger.specs.Places.{entry_of}
use Rattle.ledger.proofs.ledger.Ledger.copy.Given as goal

abbrev pub invariant-loop-block : goal.invariant-loop-block
invariant-loop-block l = l.entries.items ≡ map (λ b. entry_of l.fn.self b) (range_with_len 0 l.block)
