use Rattle.std.proofs.Common.{◌≡◌, ◌++◌, map, take}
use Rattle.recheck.specs.Faults.{writes_to}
use Rattle.ledger.specs.Entries.{write_of}
use Rattle.ledger.proofs.entry.Entry.add_in_flight.Given as goal

abbrev pub invariant-loop-write : goal.invariant-loop-write
invariant-loop-write l =
    l.self-inside.writes.items ≡ l.initial.self-inside.writes.items ++ map (write_of l.e) (writes_to l.block (take l.write-index l.e.in_flight))
