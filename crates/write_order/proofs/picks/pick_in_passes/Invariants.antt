use Rattle.std.proofs.Common.{◌≡◌, ◌≤◌, length, map, vec_len, vec_capacity, slice_index}
use Rattle.std.specs.List.{range_with_len}
use Rattle.write_order.specs.Picks.{block_with_map}
use Rattle.write_order.specs.Passes.{pass_before}
use Rattle.write_order.proofs.picks.pick_in_passes.Given as goal

abbrev pub invariant-loop-word : goal.invariant-loop-word
invariant-loop-word l = record {
  pass : l.pass ≡ pass_before (slice_index l.words) l.blocks l.word-index;
  items : l.picked.items ≡ map (block_with_map (slice_index l.words) l.blocks) (range_with_len 0 l.word-index);
  len : vec_len l.picked ≡ l.word-index;
  room : length l.words ≤ vec_capacity l.picked;
}
