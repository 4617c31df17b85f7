use Rattle.std.proofs.Common.{refl, arith, ◌∙◌, ap}
use Rattle.engine.specs.Kept.{room_of}
use Rattle.engine.proofs.StepLemmas.{issue_step}
use Rattle.engine.proofs.window.Window.issue.Goals as goal

pub returns-clause-added : goal.returns-clause-added
returns-clause-added c =
    let space = ap room_of c.self.view_is ∙ c.requires.open in
    rw (← c.self.view_is, c.issue.ensures, c.issued.ensures) (λ depth window h s. issue_step depth window _ _ h (omega arith) space refl s)
