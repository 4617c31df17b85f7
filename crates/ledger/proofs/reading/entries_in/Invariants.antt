use Rattle.std.proofs.Common.{◌≡◌, ◌-◌, ℕ, List, [], length}
use Rattle.std.specs.List.{AllByRecursion, flat_map}
use Rattle.ledger.specs.declared.entry.RunWrite.{RunWrite}
use Rattle.ledger.specs.Spelling.{entry_numbers}
use Rattle.ledger.specs.Reading.{IsRows, IsReadableEntry}
use Rattle.ledger.proofs.ReadingLemmas.{IsUnderWay}
use Rattle.ledger.proofs.reading.entries_in.Given as goal

abbrev pub invariant-loop : goal.invariant-loop
invariant-loop l = record {
  len : length l.entries.items ≡ l.counter;
  way : (table : List (List ℕ)) (entries : List (List RunWrite)) → IsRows l.fn.rows table → length entries ≡ l.fn.count
      → AllByRecursion (IsReadableEntry table) entries → l.fn.words ≡ flat_map (entry_numbers table) entries
      → IsUnderWay (entry_numbers table) (IsReadableEntry table) entries l.entries.items l.rest [] (l.fn.count - l.counter);
}
