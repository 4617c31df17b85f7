use Rattle.cells.specs.ClientCells.{opening_of}
use Rattle.cells.proofs.ClientHearLemmas.{shown_on, shown_off}
use Rattle.cells.proofs.client_cell.ClientCell.client.Goals as goal

pub returns-in-Some-clause-on : goal.returns-in-Some-clause-on
returns-in-Some-clause-on g c =
    let cell = c.self.invariant.0 in
    let o = opening_of c.self.inside.servers c.self.inside.opened.value in
    shown_on g.N.Notes.note _ c.self.inside.cell.power c.args.self.now cell c.in-Some.client.now c.self.view_is (c.in-Some.ensures o cell.kept.past cell.kept.stands)

pub returns-in-None-clause-off : goal.returns-in-None-clause-off
returns-in-None-clause-off g c =
    let cell = c.self.invariant.0 in
    let o = opening_of c.self.inside.servers c.self.inside.opened.value in
    shown_off g.N.Notes.note _ c.self.inside.cell.power c.args.self.now cell c.self.view_is (c.in-None.ensures o cell.kept.past cell.kept.stands)
