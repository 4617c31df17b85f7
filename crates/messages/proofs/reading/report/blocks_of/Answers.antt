use Rattle.std.proofs.Common.{List, ℕ, ◌-◌, ◌+◌, ◌∷◌, [], ◌++◌, length, ap, ◌∙◌, arith, append_assoc}
use Rattle.std.proofs.lemmas.List.{length-append}
use Rattle.fc_base.specs.Layouts.{blocks_in}
use Rattle.messages.proofs.BlockLemmas.{blocks_in-next}
use Rattle.messages.proofs.reading.report.blocks_of.Goals as goal

pub loop-preserved : goal.loop-preserved
loop-preserved c =
    let left = blocks_in-next c.args.count c.loop.counter c.loop.rest.now (omega arith) in
    let more = c.loop.invariant.1 ∙ ap (λ (bs : List ℕ). c.loop.found ++ bs) left in
    let joined = append_assoc c.loop.found (c.split_u32-block.result.0 ∷ []) (blocks_in (c.args.count - (c.loop.counter + 1)) c.split_u32-block.result.1.now) in (
      omega (arith, c.split_u32-block.ensures.len),
      rw (c.push.ensures, joined, c.split_u32-block.ensures.number, c.split_u32-block.ensures.rest) more,
      omega (arith, ap length c.push.ensures, length-append c.loop.found (c.split_u32-block.result.0 ∷ []), c.loop.invariant.2),
    )
