use Rattle.cells.proofs.ServerHearLemmas.{few}
use Rattle.cells.proofs.server_cell.cell_core.ServerCellCore.take.Goals as goal

pub returns-clause-ends : goal.returns-clause-ends
returns-clause-ends g c o past s = rw c.told-done.ensures (c.step.ensures.ends o past s)

pub returns-clause-count : goal.returns-clause-count
returns-clause-count g c o past s = rw c.told-done.ensures (c.step.ensures.count o past s)

pub returns-clause-few : goal.returns-clause-few
returns-clause-few g c o past s r = rw c.told-done.ensures (few c.step.result (c.step.ensures.short o past s r))
