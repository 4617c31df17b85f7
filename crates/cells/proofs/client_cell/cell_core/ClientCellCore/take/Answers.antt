use Rattle.cells.proofs.ClientHearLemmas.{few}
use Rattle.cells.proofs.client_cell.cell_core.ClientCellCore.take.Goals as goal

pub returns-clause-ends : goal.returns-clause-ends
returns-clause-ends g c o past s = rw c.told.ensures (c.hear-step.ensures.ends o past s)

pub returns-clause-count : goal.returns-clause-count
returns-clause-count g c o past s = rw c.told.ensures (c.hear-step.ensures.count o past s)

pub returns-clause-few : goal.returns-clause-few
returns-clause-few g c o past s r = rw c.told.ensures (few o past c.args.incoming c.hear-step.result.0 (c.hear-step.ensures.short o past s r))
