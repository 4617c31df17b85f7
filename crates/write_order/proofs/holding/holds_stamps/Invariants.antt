use Rattle.std.proofs.Common.{◌≡◌, ◌*◌, take}
use Rattle.std.specs.List.{flat_map, range_with_len}
use Rattle.write_order.specs.Filling.{with_number}
use Rattle.write_order.proofs.holding.holds_stamps.Given as goal

abbrev pub invariant-loop-number : goal.invariant-loop-number
invariant-loop-number l = take (l.number * 512) l.bytes ≡ flat_map (with_number l.stamp) (range_with_len 0 l.number)
