use Rattle.std.proofs.Common.{◌≡◌, ◌≤◌, ◌+◌, ◌-◌, ◌^◌, length}
use Rattle.net_script.specs.Left.{orders_left}
use Rattle.net_script.proofs.orders.Orders.next.Given as goal

abbrev pub invariant-loop-number : goal.invariant-loop-number
invariant-loop-number l =
    (orders_left l.initial.self ≡ orders_left l.self)
    × (length l.self.rest.now ≤ length l.initial.self.rest.now)
    × (l.self.number + length l.self.rest.now ≤ 2 ^ 64 - 1)

abbrev pub decreases-loop-number : goal.decreases-loop-number
decreases-loop-number l = length l.self.rest.now
