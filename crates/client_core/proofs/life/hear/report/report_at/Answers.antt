use Rattle.std.proofs.Common.{Some, subst}
use Rattle.client_core.specs.Lives.{AttemptFor}
use Rattle.client_core.proofs.life.hear.report.report_at.Goals as goal

pub returns-in-Some : goal.returns-in-Some
returns-in-Some c attempt deeds report k = c.hear_report.ensures attempt deeds report (subst (λ p. AttemptFor attempt deeds (Some p)) c.in-Some.is k)
