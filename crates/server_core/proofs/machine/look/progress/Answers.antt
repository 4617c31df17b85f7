use Rattle.std.proofs.Common.{◌∙◌, subst}
use Rattle.server_core.specs.Stands.{OpenIs}
use Rattle.server_core.proofs.ShownLemmas.{progress_shown}
use Rattle.server_core.proofs.machine.look.progress.Goals as goal

pub returns-in-Some : goal.returns-in-Some
returns-in-Some c me now_boot o k =
    c.progress.ensures ∙ progress_shown me now_boot c.in-Some.check o c.args.job (subst (λ x. OpenIs me now_boot x o) c.in-Some.is k)
