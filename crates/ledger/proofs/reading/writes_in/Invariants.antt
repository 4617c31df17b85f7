use Rattle.std.proofs.Common.{◌≡◌, ◌≤◌, ◌+◌, ◌*◌, ◌-◌, ◌++◌, ℕ, List, length}
use Rattle.std.specs.List.{AllByRecursion, flat_map}
use Rattle.ledger.specs.declared.entry.RunWrite.{RunWrite}
use Rattle.ledger.specs.Spelling.{write_numbers}
use Rattle.ledger.specs.Reading.{IsRows, IsReadable}
use Rattle.ledger.proofs.ReadingLemmas.{IsUnderWay}
use Rattle.ledger.proofs.reading.writes_in.Given as goal

abbrev pub invariant-loop : goal.invariant-loop
invariant-loop l = record {
  len : length l.entry ≡ length l.fn.entry + l.counter;
  size : 2 * (l.count - l.counter) ≤ length l.rest;
  way : (table : List (List ℕ)) (writes : List RunWrite) (more : List ℕ) → IsRows l.fn.rows table → length writes ≡ l.count
      → AllByRecursion (IsReadable table) writes → l.fn.words ≡ flat_map (write_numbers table) writes ++ more
      → IsUnderWay (write_numbers table) (IsReadable table) (l.fn.entry ++ writes) l.entry l.rest more (l.count - l.counter);
}
