use Rattle.std.proofs.Common.{◌≡◌, ◌<◌, Some, subst, arith}
use Rattle.write_order.specs.Progress.{Progress, next_block}
use Rattle.write_order.specs.Blocks.{block_of}
use Rattle.write_order.proofs.OrderSteps.{picked_is_block, next_block_is}
use Rattle.write_order.specs.Words.{word}
use Rattle.write_order.proofs.Permutations.{block_with_map-below}
use Rattle.write_order.proofs.order.Order.peek.Goals as goal

pub returns-in-WithMap-clause-value : goal.returns-in-WithMap-clause-value
returns-in-WithMap-clause-value c =
    let o = c.self.inside in
    let r = c.pick.result in
    let picked = picked_is_block o.rec o.issued _ r o.words o.chooser c.in-WithMap.pass c.in-WithMap.is c.self.invariant.chooser c.self.invariant.words
    c.first-word.ensures c.pick.ensures in
    let more : o.issued < o.rec.total = omega arith in
    let block : r ≡ block_of o.rec o.issued = rw picked.0 picked.1 in
    let P : Progress → Type 0 = λ at. Some r ≡ next_block at in
    subst P c.self.view_is (next_block_is o.rec o.issued r more block)

pub returns-in-WithMap-clause-range : goal.returns-in-WithMap-clause-range
returns-in-WithMap-clause-range c =
    let o = c.self.inside in
    let r = c.pick.result in
    let picked = picked_is_block o.rec o.issued _ r o.words o.chooser c.in-WithMap.pass c.in-WithMap.is c.self.invariant.chooser c.self.invariant.words
    c.first-word.ensures c.pick.ensures in
    let some : 0 < o.rec.blocks = omega arith in
    let P : Progress → Type 0 = λ at. r < at.job.blocks in
    subst P c.self.view_is (rw picked.1 (block_with_map-below (word o.rec.seed) o.rec.blocks o.issued some))
