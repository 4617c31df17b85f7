use Rattle.cells.proofs.client_cell.power.hear.Goals as goal

pub returns-in-Frame-clause-ends : goal.returns-in-Frame-clause-ends
returns-in-Frame-clause-ends g c o past s = rw c.in-Frame.is (c.step.ensures.ends o past s)

pub returns-in-Request-clause-ends : goal.returns-in-Request-clause-ends
returns-in-Request-clause-ends g c o past s = rw (c.in-Request.is, ← c.as_input.ensures) (c.step-done.ensures.ends o past s)

pub returns-in-Frame-clause-short : goal.returns-in-Frame-clause-short
returns-in-Frame-clause-short g c o past s r = rw c.in-Frame.is (c.step.ensures.short o past s r)

pub returns-in-Request-clause-short : goal.returns-in-Request-clause-short
returns-in-Request-clause-short g c o past s r = rw (c.in-Request.is, ← c.as_input.ensures) (c.step-done.ensures.short o past s r)
