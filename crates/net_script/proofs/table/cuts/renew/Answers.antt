use Rattle.std.proofs.Common.{sym, ◌∙◌}
use Rattle.net_script.specs.declared.command.Saving.TheVariants.{Renew}
use Rattle.net_script.specs.declared.line.ScriptLine.TheVariants.{Asks}
use Rattle.net_script.specs.Asked.{saving_command}
use Rattle.net_script.proofs.table.cuts.renew.Goals as goal

pub returns-in-Some : goal.returns-in-Some
returns-in-Some c = c.line.ensures ∙ sym (c.in-Some.ensures (λ g. Asks (saving_command c.args.how (Renew g))))

pub returns-in-None : goal.returns-in-None
returns-in-None c = sym (c.in-None.ensures (λ g. Asks (saving_command c.args.how (Renew g))))
