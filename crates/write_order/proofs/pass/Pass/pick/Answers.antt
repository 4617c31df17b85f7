use Rattle.std.proofs.Common.{ap, ◌∙◌, arith}
use Rattle.write_order.specs.Passes.{PassLeft}
use Rattle.write_order.proofs.PassSteps.{read_is_block}
use Rattle.write_order.proofs.pass.Pass.pick.Goals as goal

pub returns : goal.returns
returns c words k at next =
    let left = ap (λ (p : PassLeft). p.left) (c.self.view_is ∙ at) in
    read_is_block words _ k c.args.word _ _ _ c.self.inside.list.items left next c.self.invariant.some (omega arith) c.index_of.ensures.value c.index.ensures
