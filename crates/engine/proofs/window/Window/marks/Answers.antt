use Rattle.std.proofs.Common.{◌∙◌}
use Rattle.engine.proofs.StepLemmas.{marks_are}
use Rattle.engine.proofs.window.Window.marks.Goals as goal

pub returns-clause-history : goal.returns-clause-history
returns-clause-history c depth window h s = (rw (← c.self.view_is) c.completed.ensures) ∙ marks_are depth window c.args.self.now h s
