use Rattle.std.proofs.Common.{◌≡◌, ◌≤◌, ◌+◌, ◌-◌, ◌^◌, true, length}
use Rattle.net_script.specs.Words.{lines_of}
use Rattle.net_script.specs.Orders.{orders_from}
use Rattle.net_script.proofs.TextLemmas.{Below}
use Rattle.net_script.proofs.orders.Orders.take_text.Given as goal

abbrev pub invariant-loop-below : goal.invariant-loop-below
invariant-loop-below l =
    Below l.below l.self.rest.now
    × (orders_from l.initial.self.number true (lines_of l.below) ≡ orders_from l.self.number true (lines_of l.self.rest.now))
    × (l.self.number + length (lines_of l.self.rest.now) ≡ l.initial.self.number + length (lines_of l.below))
    × (l.self.number + length l.self.rest.now ≤ 2 ^ 64 - 1)
    × (length l.self.rest.now ≤ length l.below)

abbrev pub decreases-loop-below : goal.decreases-loop-below
decreases-loop-below l = length l.self.rest.now
