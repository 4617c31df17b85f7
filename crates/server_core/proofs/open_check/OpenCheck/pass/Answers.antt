use Rattle.std.proofs.Common.{sym, ◌∙◌}
use Rattle.server_core.proofs.CheckedLemmas.{pass_step, no_pass}
use Rattle.server_core.proofs.open_check.OpenCheck.pass.Goals as goal

pub returns-then-wants : goal.returns-then-wants
returns-then-wants c check is = c.set.ensures ∙ pass_step c.args.self.now check c.args.attempt c.args.job is (sym c.wants.ensures ∙ c.if-wants.true)

pub returns-else-wants : goal.returns-else-wants
returns-else-wants c check is = no_pass c.args.self.now check c.args.attempt c.args.job is (sym c.wants.ensures ∙ c.if-wants.false)
