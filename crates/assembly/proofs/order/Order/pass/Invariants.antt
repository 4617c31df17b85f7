use Rattle.std.proofs.Common.{◌≡◌, ◌≤◌, List, reverse}
use Rattle.cells.specs.declared.entry.HistoryEntry.{HistoryEntry}
use Rattle.assembly.specs.Order.{next_of, IsPassed}
use Rattle.assembly.proofs.order.Order.pass.Given as goal

abbrev pub invariant-loop-at : goal.invariant-loop-at
invariant-loop-at l =
    ((h : List HistoryEntry) → l.history.items ≡ reverse h → IsPassed l.node h (next_of l.fn.self.next l.node) l.at l.fn.self.places l.self.places)
    × (l.self.next ≡ l.fn.self.next) × (next_of l.fn.self.next l.node ≤ l.at)
