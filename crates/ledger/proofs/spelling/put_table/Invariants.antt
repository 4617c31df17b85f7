use Rattle.std.proofs.Common.{◌≡◌, ◌++◌, take, List, ℕ}
use Rattle.std.specs.List.{flat_map}
use Rattle.verify_state.specs.Spelling.{words}
use Rattle.ledger.proofs.spelling.put_table.Given as goal

abbrev pub invariant-loop-row : goal.invariant-loop-row
invariant-loop-row l = l.out.items ≡ l.fn.out.items ++ words (flat_map (λ (row : List ℕ). row) (take l.row-index l.table))
