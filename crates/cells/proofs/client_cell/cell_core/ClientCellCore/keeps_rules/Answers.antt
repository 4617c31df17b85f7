use Rattle.cells.proofs.ClientStarts.{laws}
use Rattle.cells.proofs.client_cell.cell_core.ClientCellCore.keeps_rules.Goals as goal

pub returns : goal.returns
returns g c o = laws g.N.Notes.note o c.frames_are_spelled.ensures c.packets_are_in_range.ensures
