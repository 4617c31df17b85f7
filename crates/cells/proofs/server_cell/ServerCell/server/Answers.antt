use Rattle.cells.proofs.ServerCellLemmas.{opening_with}
use Rattle.cells.proofs.ServerHearLemmas.{shown_on, shown_off}
use Rattle.cells.proofs.server_cell.ServerCell.server.Goals as goal

pub returns-in-Some-clause-on : goal.returns-in-Some-clause-on
returns-in-Some-clause-on g c =
    let cell = c.self.invariant in
    let o = opening_with c.self.inside.me c.self.inside.boot c.self.inside.last_run in
    shown_on g.N.Notes.note _ c.self.inside.cell.power c.self.inside.applied c.args.self.now cell c.in-Some.server.now c.self.view_is
    (c.in-Some.ensures o cell.kept.past cell.kept.stands)

pub returns-in-None-clause-off : goal.returns-in-None-clause-off
returns-in-None-clause-off g c =
    let cell = c.self.invariant in
    let o = opening_with c.self.inside.me c.self.inside.boot c.self.inside.last_run in
    shown_off g.N.Notes.note _ c.self.inside.cell.power c.self.inside.applied c.args.self.now cell c.self.view_is
    (c.in-None.ensures o cell.kept.past cell.kept.stands)
