use Rattle.std.proofs.Common.{◌+◌, slice_index, refl, sym, ap, ◌∙◌, arith}
use Rattle.write_order.specs.Passes.{PassLeft, pass_before}
use Rattle.write_order.specs.Picks.{block_with_map}
use Rattle.write_order.proofs.PickSteps.{blocks_with_map-more}
use Rattle.write_order.proofs.picks.pick_in_passes.Goals as goal

pub loop-word-preserved : goal.loop-word-preserved
loop-word-preserved c =
    let ws = slice_index c.args.words.now in
    let k = c.loop-word.word-index in
    let was = c.loop-word.invariant in
    let blocks = ap (λ (p : PassLeft). p.blocks) was.pass in
    let here = was.pass ∙ ap (λ b. pass_before ws b k) (sym blocks) in
    let picked = c.pick.ensures ws k here refl ∙ ap (λ b. block_with_map ws b k) blocks in
    record {
      pass = c.advance.ensures ws k here refl ∙ ap (λ b. pass_before ws b (k + 1)) blocks;
      items = blocks_with_map-more ws c.args.blocks k _ _ _ was.items picked c.push_reserved.ensures.items;
      len = omega arith;
      room = omega arith;
    }
