use Rattle.std.proofs.Common.{◌∙◌}
use Rattle.server_core.specs.NodeKind.{server_kind}
use Rattle.node.proofs.PowerLemmas.{shown}
use Rattle.cells.proofs.server_cell.cell_core.ServerCellCore.is_on.Goals as goal

pub returns : goal.returns
returns g c o past s = c.is_some.ensures ∙ shown (server_kind g.N.Notes.note o) past c.args.power.now c.core.result (c.core.ensures o past s)
