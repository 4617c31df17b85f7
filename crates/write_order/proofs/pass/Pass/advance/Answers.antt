use Rattle.std.proofs.Common.{◌-◌, length, take, drop, refl, ap, ◌∙◌, arith}
use Rattle.std.specs.List.{range_with_len}
use Rattle.write_order.specs.Passes.{PassLeft}
use Rattle.write_order.proofs.PickSteps.{same_pass}
use Rattle.write_order.proofs.PassSteps.{length-taken_out, drop-taken_out, items-taken_out, whole_again, rest_goes_on, rest_starts_anew}
use Rattle.write_order.proofs.pass.Pass.advance.Goals as goal

pub invariant_of-self-else-self-eq0 : goal.invariant_of-self-else-self-eq0
invariant_of-self-else-self-eq0 c =
    let pass = c.self.inside in
    let index = c.index_of-index.result in
    let last = pass.left - 1 in
    let is = items-taken_out pass.list _ _ index last c.deref_mut.ensures.value c.deref_mut.ensures.len c.take_out.ensures in
    let len = ap length is ∙ length-taken_out pass.list.items index last _ in
    record {
      some = omega arith;
      within = omega arith;
      whole = len ∙ c.self.invariant.whole;
      behind = ap (drop last) is ∙ drop-taken_out pass.blocks pass.list.items index last pass.left _
          (omega arith) c.index_of-index.ensures.range c.self.invariant.within c.self.invariant.whole c.self.invariant.behind;
    }

pub returns-then-self-eq0 : goal.returns-then-self-eq0
returns-then-self-eq0 c words k at next =
    let left = ap (λ (p : PassLeft). p.left) (c.self.view_is ∙ at) in
    let pass = c.self.inside in
    let index = c.index_of-index.result in
    let last = pass.left - 1 in
    let is = items-taken_out pass.list _ _ index last c.deref_mut.ensures.value c.deref_mut.ensures.len c.take_out.ensures in
    let len = ap length is ∙ length-taken_out pass.list.items index last _ ∙ c.self.invariant.whole in
    let behind = ap (drop last) is ∙ drop-taken_out pass.blocks pass.list.items index last pass.left _
    (omega arith) c.index_of-index.ensures.range c.self.invariant.within c.self.invariant.whole c.self.invariant.behind in
    let anew = whole_again pass.blocks _ last c.if-self-eq0.true len behind in
    let blocks = ap (λ (p : PassLeft). p.blocks) c.self.view_is in
    same_pass _ _ _ _ blocks (rest_starts_anew words _ k pass.left pass.list.items _ left (omega arith) (omega arith) (anew ∙ ap (range_with_len 0) blocks))

pub returns-else-self-eq0 : goal.returns-else-self-eq0
returns-else-self-eq0 c words k at next =
    let left = ap (λ (p : PassLeft). p.left) (c.self.view_is ∙ at) in
    let pass = c.self.inside in
    let index = c.index_of-index.result in
    let last = pass.left - 1 in
    let is = items-taken_out pass.list _ _ index last c.deref_mut.ensures.value c.deref_mut.ensures.len c.take_out.ensures in
    let blocks = ap (λ (p : PassLeft). p.blocks) c.self.view_is in
    same_pass _ _ _ _ blocks
    (ap (take last) is ∙ rest_goes_on words _ k c.args.word index last pass.left _ pass.list.items left next c.index_of-index.ensures.value
    c.index_of-index.ensures.range (omega arith) (omega arith) (omega arith) refl)
