use Rattle.std.proofs.Common.{subst}
use Rattle.cells.specs.CoreLaws.{Starts}
use Rattle.cells.proofs.PowerLemmas.{restart_ends, restart_counts}
use Rattle.cells.proofs.node_cell.power.restart.Goals as goal

pub returns-clause-ends : goal.returns-clause-ends
returns-clause-ends g c o past is s =
    let laws = c.keeps_rules.ensures o in
    let starts = subst (λ seed. Starts (g.C.CellCore.kind o) (g.C.CellCore.core_rules o) (g.C.CellCore.Opens seed)) is laws.starts in
    rw c.of_power.ensures
    (restart_ends (g.C.CellCore.kind o) (g.C.CellCore.core_rules o) (g.C.CellCore.Opens c.args.seed) past c.args.power.now c.restart.new.power
    c.restart.result starts (laws.cuts past) s (c.restart.ensures o past s))

pub returns-clause-count : goal.returns-clause-count
returns-clause-count g c o past is s =
    let laws = c.keeps_rules.ensures o in
    let starts = subst (λ seed. Starts (g.C.CellCore.kind o) (g.C.CellCore.core_rules o) (g.C.CellCore.Opens seed)) is laws.starts in
    rw c.of_power.ensures
    (restart_counts (g.C.CellCore.kind o) (g.C.CellCore.core_rules o) (g.C.CellCore.Opens c.args.seed) past c.args.power.now c.restart.new.power
    c.restart.result starts (c.restart.ensures o past s))
