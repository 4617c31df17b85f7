use Rattle.std.proofs.Common.{refl}
use Rattle.std.proofs.lemmas.Result.{err_from_is_err_and}
use Rattle.client_core.specs.Inputs.{Deliver}
use Rattle.client_core.specs.Answers.{sent_alone}
use Rattle.client_core.proofs.StepLemmas.{answers, fails}
use Rattle.client_core.proofs.client.node_core.ClientNodeCore.step.Goals as goal

pub returns-in_err-deliver-in-Deliver-clause-ends : goal.returns-in_err-deliver-in-Deliver-clause-ends
returns-in_err-deliver-in-Deliver-clause-ends g c o past s =
    let p = err_from_is_err_and c.from_residual-in_err-deliver-in-Deliver.result c.from_residual-in_err-deliver-in-Deliver.ensures.1 in
    rw (p.1, p.2, c.in-Deliver.is) (fails g.N.Notes.note o past (Deliver c.in-Deliver.frame) c.in_err-deliver-in-Deliver.field-0.0 c.args.self.now
    c.deliver.new.self (c.in_err-deliver-in-Deliver.ensures.ends o past s))

pub returns-in_err-deliver-in-Deliver-clause-ranges : goal.returns-in_err-deliver-in-Deliver-clause-ranges
returns-in_err-deliver-in-Deliver-clause-ranges g c o past s =
    let p = err_from_is_err_and c.from_residual-in_err-deliver-in-Deliver.result c.from_residual-in_err-deliver-in-Deliver.ensures.1 in
    rw (p.1, p.2, c.in-Deliver.is) (c.in_err-deliver-in-Deliver.ensures.ranges o past s)

pub returns-in_ok-deliver-in-Deliver-clause-ends : goal.returns-in_ok-deliver-in-Deliver-clause-ends
returns-in_ok-deliver-in-Deliver-clause-ends g c o past s =
    rw (c.sent-in-Deliver.ensures, c.in-Deliver.is) (answers g.N.Notes.note o past (Deliver c.in-Deliver.frame) c.args.self.now c.deliver.new.self
    (sent_alone c.in_ok-deliver-in-Deliver.field-0) refl (c.in_ok-deliver-in-Deliver.ensures.ends o past s))

pub returns-in_ok-deliver-in-Deliver-clause-ranges : goal.returns-in_ok-deliver-in-Deliver-clause-ranges
returns-in_ok-deliver-in-Deliver-clause-ranges g c o past s = rw c.in-Deliver.is (c.in_ok-deliver-in-Deliver.ensures.ranges o past s)
