use Rattle.std.proofs.Common.{◌≡◌, ◌++◌, ◌∷◌, length, take}
use Rattle.std.specs.List.{flat_map, AllByRecursion}
use Rattle.verify_state.specs.Spelling.{words}
use Rattle.ledger.specs.Spelling.{write_numbers}
use Rattle.ledger.specs.Ranges.{IsRanged}
use Rattle.ledger.proofs.spelling.put_entry.Given as goal

abbrev pub invariant-loop-write : goal.invariant-loop-write
invariant-loop-write l = record {
  bytes : l.out.items ≡ l.fn.out.items ++ words (length l.writes ∷ flat_map (write_numbers l.table) (take l.write-index l.writes));
  ranged : AllByRecursion IsRanged (take l.write-index l.writes);
}
