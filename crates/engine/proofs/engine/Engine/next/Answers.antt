use Rattle.std.proofs.Common.{ap, sym, ◌∙◌, eqb}
use Rattle.std.specs.List.{list_any}
use Rattle.engine.specs.declared.writes.OpenWrite.{OpenWrite}
use Rattle.engine.specs.Answers.{answer_of}
use Rattle.engine.proofs.InsideLemmas.{answer_at, answer_when_open}
use Rattle.engine.proofs.engine.Engine.next.Goals as goal

pub returns-in-Open : goal.returns-in-Open
returns-in-Open c =
    let here = c.has_block.ensures ∙ ap (list_any (λ (w : OpenWrite). eqb w.block c.in-Some.block)) c.deref.ensures.value in
    let answer = answer_when_open c.self.inside c.in-Some.block c.has_block.result c.self.invariant c.if-self.false c.if-self-2.false c.in-Some.ensures.value
    c.in-Open.ensures.value here in
    sym (answer ∙ ap (answer_at c.self.inside c.in-Some.block) c.if-has_block.true) ∙ ap answer_of c.self.view_is

pub returns-in-Open-2 : goal.returns-in-Open-2
returns-in-Open-2 c =
    let here = c.has_block.ensures ∙ ap (list_any (λ (w : OpenWrite). eqb w.block c.in-Some.block)) c.deref.ensures.value in
    let answer = answer_when_open c.self.inside c.in-Some.block c.has_block.result c.self.invariant c.if-self.false c.if-self-2.false c.in-Some.ensures.value
    c.in-Open.ensures.value here in
    rw c.issued.ensures.value (sym (answer ∙ ap (answer_at c.self.inside c.in-Some.block) c.if-has_block.false) ∙ ap answer_of c.self.view_is)
