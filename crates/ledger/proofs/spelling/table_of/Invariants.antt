use Rattle.std.proofs.Common.{◌≡◌, [], drop}
use Rattle.ledger.specs.Spelling.{with_entries}
use Rattle.ledger.proofs.spelling.table_of.Given as goal

abbrev pub invariant-loop-entry : goal.invariant-loop-entry
invariant-loop-entry l = with_entries l.table (drop l.entry-index l.entries) ≡ with_entries [] l.entries
