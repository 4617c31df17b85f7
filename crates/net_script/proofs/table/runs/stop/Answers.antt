use Rattle.std.proofs.Common.{sym}
use Rattle.net_script.specs.declared.command.Command.TheVariants.{Stop}
use Rattle.net_script.specs.declared.line.ScriptLine.TheVariants.{Asks}
use Rattle.net_script.proofs.table.runs.stop.Goals as goal

pub returns-in-Some : goal.returns-in-Some
returns-in-Some c = sym (c.in-Some.ensures (λ r. Asks (Stop r)))

pub returns-in-None : goal.returns-in-None
returns-in-None c = sym (c.in-None.ensures (λ r. Asks (Stop r)))
