use Rattle.cells.proofs.ClientHearLemmas.{shown_replay}
use Rattle.cells.proofs.client_cell.ClientCell.history.Goals as goal

pub returns-clause-replay : goal.returns-clause-replay
returns-clause-replay g c = shown_replay g.N.Notes.note _ c.self.inside.cell.power c.args.self.now c.self.invariant.0 c.self.view_is
