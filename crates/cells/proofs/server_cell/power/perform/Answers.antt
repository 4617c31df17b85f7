use Rattle.std.proofs.lemmas.Result.{err_from_is_err_and}
use Rattle.server_core.specs.declared.input.Input.TheVariants as inputs
use Rattle.cells.proofs.MoveLemmas.{unanswered}
use Rattle.server_core.specs.NodeKind.{server_kind}
use Rattle.cells.specs.ServerRules.{core}
use Rattle.cells.proofs.server_cell.power.perform.Goals as goal

pub returns-in_err-issue-in-Issue-clause-ends : goal.returns-in_err-issue-in-Issue-clause-ends
returns-in_err-issue-in-Issue-clause-ends g c o past me s =
    let p = err_from_is_err_and c.from_residual.result c.from_residual.ensures.1 in
    rw (c.in-Issue.is, p.1, p.2) (unanswered (server_kind g.N.Notes.note o) (core o) past (inputs.Issue c.in-Issue.job) c.in_err-issue-in-Issue.field-0.0 c.issue.new.power
    (c.in_err-issue-in-Issue.ensures.ends o past s))

pub returns-in_err-end_write-in-WriteDone-clause-ends : goal.returns-in_err-end_write-in-WriteDone-clause-ends
returns-in_err-end_write-in-WriteDone-clause-ends g c o past me s =
    let failed = c.in_err-end_write-in-WriteDone in
    let gone = c.from_residual-in_err-end_write-in-WriteDone in
    let p = err_from_is_err_and gone.result gone.ensures.1 in
    rw (c.in-WriteDone.is, p.1, p.2) (unanswered (server_kind g.N.Notes.note o) (core o) past
    (inputs.WriteDone c.in-WriteDone.ticket c.in-WriteDone.end) failed.field-0.0 c.end_write.new.power (failed.ensures.ends o past s))

pub returns-in-Cut-clause-ends : goal.returns-in-Cut-clause-ends
returns-in-Cut-clause-ends g c o past me s = rw c.in-Cut.is (c.cut.ensures.ends o past s)

pub returns-in-Restart-clause-ends : goal.returns-in-Restart-clause-ends
returns-in-Restart-clause-ends g c o past me s = rw c.in-Restart.is (c.restart.ensures.ends o past me s)

pub returns-in_err-issue-in-Issue-clause-count : goal.returns-in_err-issue-in-Issue-clause-count
returns-in_err-issue-in-Issue-clause-count g c o past me s =
    let p = err_from_is_err_and c.from_residual.result c.from_residual.ensures.1 in
    rw (c.in-Issue.is, p.1, p.2) (c.in_err-issue-in-Issue.ensures.count o past s)

pub returns-in_err-end_write-in-WriteDone-clause-count : goal.returns-in_err-end_write-in-WriteDone-clause-count
returns-in_err-end_write-in-WriteDone-clause-count g c o past me s =
    let gone = c.from_residual-in_err-end_write-in-WriteDone in
    let p = err_from_is_err_and gone.result gone.ensures.1 in
    rw (c.in-WriteDone.is, p.1, p.2) (c.in_err-end_write-in-WriteDone.ensures.count o past s)

pub returns-in-Cut-clause-count : goal.returns-in-Cut-clause-count
returns-in-Cut-clause-count g c o past me s = rw c.in-Cut.is (c.cut.ensures.count o past s)

pub returns-in-Restart-clause-count : goal.returns-in-Restart-clause-count
returns-in-Restart-clause-count g c o past me s = rw c.in-Restart.is (c.restart.ensures.count o past me s)
