use Rattle.cells.proofs.ServerStarts.{laws}
use Rattle.cells.proofs.server_cell.cell_core.ServerCellCore.keeps_rules.Goals as goal

pub returns : goal.returns
returns g c o = laws g.N.Notes.note o c.one_note.ensures c.frames_are_spelled.ensures c.packets_are_in_range.ensures
