use Rattle.std.proofs.lemmas.Result.{err_from_is_err_and}
use Rattle.server_core.specs.declared.input.Input.TheVariants as inputs
use Rattle.server_core.specs.Handles.{outs_of_end}
use Rattle.server_core.specs.NodeKind.{server_kind}
use Rattle.cells.specs.ServerRules.{core}
use Rattle.cells.proofs.StepLemmas.{off_ends}
use Rattle.cells.proofs.ServerPowerLemmas.{step_ends, step_counts}
use Rattle.cells.proofs.server_cell.power.end_write.Goals as goal

pub returns-in_err-on-clause-ends : goal.returns-in_err-on-clause-ends
returns-in_err-on-clause-ends g c o past s =
    let p = err_from_is_err_and c.from_residual.result c.from_residual.ensures.1 in
    rw p.1 (off_ends (server_kind g.N.Notes.note o) (core o) past (inputs.WriteDone c.args.ticket c.args.end) c.args.power.now p.0
    (rw p.2 (c.in_err-on.ensures.lent o past s)) s)

pub returns-clause-ends : goal.returns-clause-ends
returns-clause-ends g c o past s =
    let lent = c.in_ok-on.ensures.lent o past s in
    step_ends g.N.Notes.note o past (inputs.WriteDone c.args.ticket c.args.end) c.in_ok-on.field-0.now c.end_write.new.self
    (outs_of_end c.end_write.result) lent.2 (c.end_write.ensures.ends o past lent.1) (c.end_write.ensures.ranges o past lent.1)

pub returns-clause-count : goal.returns-clause-count
returns-clause-count g c o past s =
    let lent = c.in_ok-on.ensures.lent o past s in
    rw lent.0 (step_counts g.N.Notes.note o past (inputs.WriteDone c.args.ticket c.args.end) c.in_ok-on.field-0.now c.end_write.new.self
    (outs_of_end c.end_write.result) (c.end_write.ensures.ends o past lent.1))
