use Rattle.std.proofs.Common.{◌≡◌, ◌≤◌, vec_capacity, vec_len}
use Rattle.std.specs.List.{range_with_len}
use Rattle.write_order.proofs.pass.all_blocks.Given as goal

abbrev pub invariant-loop-block : goal.invariant-loop-block
invariant-loop-block l = record {
  items : l.list.items ≡ range_with_len 0 l.block;
  len : vec_len l.list ≡ l.block;
  capacity : l.blocks ≤ vec_capacity l.list;
}
