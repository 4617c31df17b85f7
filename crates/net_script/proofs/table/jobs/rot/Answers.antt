use Rattle.std.proofs.Common.{sym, ◌∙◌}
use Rattle.net_script.specs.Table.{rot}
use Rattle.net_script.proofs.table.jobs.rot.Goals as goal

pub returns-in-Some : goal.returns-in-Some
returns-in-Some c = c.rotted.ensures ∙ sym (c.in-Some.ensures (rot))

pub returns-in-None : goal.returns-in-None
returns-in-None c = sym (c.in-None.ensures (rot))
