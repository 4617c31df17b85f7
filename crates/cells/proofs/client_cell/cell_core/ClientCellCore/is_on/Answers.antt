use Rattle.std.proofs.Common.{◌∙◌}
use Rattle.client_core.specs.NodeKind.{client_kind}
use Rattle.node.proofs.PowerLemmas.{shown}
use Rattle.cells.proofs.client_cell.cell_core.ClientCellCore.is_on.Goals as goal

pub returns : goal.returns
returns g c o past s = c.is_some.ensures ∙ shown (client_kind g.N.Notes.note o) past c.args.power.now c.core.result (c.core.ensures o past s)
