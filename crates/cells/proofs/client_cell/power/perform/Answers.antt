use Rattle.cells.proofs.client_cell.power.perform.Goals as goal

pub returns-in-Cut-clause-ends : goal.returns-in-Cut-clause-ends
returns-in-Cut-clause-ends g c o past servers s = rw c.in-Cut.is (c.cut.ensures.ends o past s)

pub returns-in-Restart-clause-ends : goal.returns-in-Restart-clause-ends
returns-in-Restart-clause-ends g c o past servers s = rw c.in-Restart.is (c.restart.ensures.ends o past servers s)

pub returns-in-Cut-clause-count : goal.returns-in-Cut-clause-count
returns-in-Cut-clause-count g c o past servers s = rw c.in-Cut.is (c.cut.ensures.count o past s)

pub returns-in-Restart-clause-count : goal.returns-in-Restart-clause-count
returns-in-Restart-clause-count g c o past servers s = rw c.in-Restart.is (c.restart.ensures.count o past servers s)
