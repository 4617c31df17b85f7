use Rattle.cells.proofs.PowerLemmas.{cut_ends, cut_counts}
use Rattle.cells.proofs.node_cell.power.cut.Goals as goal

pub returns-clause-ends : goal.returns-clause-ends
returns-clause-ends g c o past s =
    rw c.of_power.ensures
    (cut_ends (g.C.CellCore.kind o) (g.C.CellCore.core_rules o) past c.args.power.now c.cut.new.power c.cut.result ((c.keeps_rules.ensures o).cuts past) s
    (c.cut.ensures o past s))

pub returns-clause-count : goal.returns-clause-count
returns-clause-count g c o past s =
    rw c.of_power.ensures (cut_counts (g.C.CellCore.kind o) past c.args.power.now c.cut.new.power c.cut.result (c.cut.ensures o past s))
