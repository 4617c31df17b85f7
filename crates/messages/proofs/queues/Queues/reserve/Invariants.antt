use Rattle.std.proofs.Common.{◌≡◌, ◌-◌, ◌≤◌, length, map, vec_len, vec_capacity, take}
use Rattle.std.specs.Prelude.{All}
use Rattle.messages.specs.declared.limits.TheConstants.{MAX_NODES}
use Rattle.messages.proofs.queues.Queues.reserve.Given as goal

abbrev pub invariant-loop-list : goal.invariant-loop-list
invariant-loop-list l =
    (map (λ v. v.items) l.list-items ≡ l.fn.self.lists) × (length l.list-items ≡ MAX_NODES)
    × All (λ v. l.more ≤ vec_capacity v - vec_len v) (take l.list-index l.list-items)
