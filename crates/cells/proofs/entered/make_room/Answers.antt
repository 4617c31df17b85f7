use Rattle.std.proofs.Common.{sym, ◌∙◌}
use Rattle.cells.proofs.entered.make_room.Goals as goal

pub returns-then-not-is_on-clause-ready : goal.returns-then-not-is_on-clause-ready
returns-then-not-is_on-clause-ready g c o past s = sym (c.is_on.ensures o past s) ∙ c.if-not-is_on.true

pub returns-in-Ok-clause-ready : goal.returns-in-Ok-clause-ready
returns-in-Ok-clause-ready g c o past s = sym (c.is_on.ensures o past s) ∙ c.if-not-is_on.false

pub returns-in-Err-clause-ready : goal.returns-in-Err-clause-ready
returns-in-Err-clause-ready g c o past s = sym (c.is_on.ensures o past s) ∙ c.if-not-is_on.false
