use Rattle.cells.proofs.ServerHearLemmas.{shown_replay}
use Rattle.cells.proofs.server_cell.ServerCell.history.Goals as goal

pub returns-clause-replay : goal.returns-clause-replay
returns-clause-replay g c = shown_replay g.N.Notes.note _ c.self.inside.cell.power c.self.inside.applied c.args.self.now c.self.invariant c.self.view_is
