use Rattle.std.proofs.Common.{sym, ap, ◌∙◌, ◌++◌, ◌∷◌, [], arith}
use Rattle.write_order.proofs.PickSteps.{range_with_len-more}
use Rattle.write_order.proofs.pass.all_blocks.Goals as goal

pub loop-block-preserved : goal.loop-block-preserved
loop-block-preserved c = record {
  items = c.push_reserved.ensures.items ∙ ap (λ xs. xs ++ c.loop-block.block ∷ []) c.loop-block.invariant.items ∙ sym (range_with_len-more c.loop-block.block);
  len = omega arith;
  capacity = omega arith;
}
