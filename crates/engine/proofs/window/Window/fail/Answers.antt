use Rattle.std.proofs.Common.{refl, ◌∙◌, sym}
use Rattle.engine.proofs.StepLemmas.{fail_step}
use Rattle.engine.proofs.window.Window.fail.Goals as goal

pub returns-clause-added : goal.returns-clause-added
returns-clause-added c =
    let opened = sym c.is_open.ensures ∙ c.if-not-is_open.false in
    rw (← c.self.view_is, c.fail.ensures) (λ depth window h s. fail_step depth window _ _ h c.args.seq opened refl s)
