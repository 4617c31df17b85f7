use Rattle.std.proofs.Common.{◌≡◌, ◌++◌, take}
use Rattle.std.specs.List.{flat_map, AllByRecursion}
use Rattle.verify_state.specs.Spelling.{words}
use Rattle.ledger.specs.Spelling.{entry_numbers}
use Rattle.ledger.specs.Ranges.{IsRangedEntry}
use Rattle.ledger.proofs.spelling.put_entries.Given as goal

abbrev pub invariant-loop-entry : goal.invariant-loop-entry
invariant-loop-entry l = record {
  bytes : l.out.items ≡ l.fn.out.items ++ words (flat_map (entry_numbers l.table) (take l.entry-index l.entries));
  ranged : AllByRecursion IsRangedEntry (take l.entry-index l.entries);
}
