use Rattle.std.proofs.Common.{◌≡◌, ◌*◌, take, replicate}
use Rattle.std.specs.List.{flat_map, range_with_len}
use Rattle.write_order.proofs.holding.holds_pattern.Given as goal

abbrev pub invariant-loop-number : goal.invariant-loop-number
invariant-loop-number l =
    take (l.number * 512) l.bytes ≡ flat_map (λ k. replicate 512 l.pattern) (range_with_len 0 l.number)
