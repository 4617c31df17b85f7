use Rattle.std.proofs.lemmas.Result.{err_from_is_err_and}
use Rattle.server_core.specs.NodeKind.{server_kind}
use Rattle.cells.specs.ServerRules.{core}
use Rattle.cells.proofs.StepLemmas.{off_ends}
use Rattle.cells.proofs.ServerPowerLemmas.{step_ends, step_short, step_counts}
use Rattle.cells.proofs.server_cell.power.step.Goals as goal

pub returns-in_err-on-clause-ends : goal.returns-in_err-on-clause-ends
returns-in_err-on-clause-ends g c o past s =
    let p = err_from_is_err_and c.from_residual.result c.from_residual.ensures.1 in
    rw p.1 (off_ends (server_kind g.N.Notes.note o) (core o) past c.args.input c.args.power.now p.0 (rw p.2 (c.in_err-on.ensures.lent o past s)) s)

pub returns-clause-ends : goal.returns-clause-ends
returns-clause-ends g c o past s =
    let lent = c.in_ok-on.ensures.lent o past s in
    step_ends g.N.Notes.note o past c.args.input c.in_ok-on.field-0.now c.step.new.self c.step.result lent.2 (c.step.ensures.ends o past lent.1)
    (c.step.ensures.ranges o past lent.1)

pub returns-clause-count : goal.returns-clause-count
returns-clause-count g c o past s =
    let lent = c.in_ok-on.ensures.lent o past s in
    rw lent.0 (step_counts g.N.Notes.note o past c.args.input c.in_ok-on.field-0.now c.step.new.self c.step.result (c.step.ensures.ends o past lent.1))

pub returns-clause-short : goal.returns-clause-short
returns-clause-short g c o past s r =
    let lent = c.in_ok-on.ensures.lent o past s in
    step_short g.N.Notes.note o past c.args.input c.in_ok-on.field-0.now c.step.new.self c.step.result (c.step.ensures.ends o past lent.1) r
