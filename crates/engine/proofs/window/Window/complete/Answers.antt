use Rattle.std.proofs.Common.{refl, ◌∙◌, sym}
use Rattle.engine.proofs.StepLemmas.{done_step}
use Rattle.engine.proofs.window.Window.complete.Goals as goal

pub returns-clause-added : goal.returns-clause-added
returns-clause-added c =
    let opened = sym c.is_open.ensures ∙ c.if-not-is_open.false in
    let kept = c.self.invariant.1 in
    rw (← c.self.view_is, c.push_back.ensures.items, c.complete.ensures, kept) (λ depth window h s. done_step depth window _ _ h c.args.seq opened refl s)
