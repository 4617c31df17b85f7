-- Each input takes a way of its own.
use Rattle.std.proofs.Common.{sym, subst}
use Rattle.node.specs.Steps.{Ends}
use Rattle.server_core.specs.declared.input.Input.TheVariants.{Issue, WriteDone}
use Rattle.server_core.specs.FrameEnds.{steps}
use Rattle.server_core.proofs.server.Server.step.Goals as goal

pub returns-in-Issue-clause-ends : goal.returns-in-Issue-clause-ends
returns-in-Issue-clause-ends g c o past s =
    subst (λ e. Ends (steps g.N.Notes.note o) past e c.args.self.now c.issue.new.self c.issued.result) (sym c.in-Issue.is)
    (subst (λ r. Ends (steps g.N.Notes.note o) past (Issue c.in-Issue.job) c.args.self.now c.issue.new.self r) (sym c.issued.ensures)
    (c.issue.ensures.ends o past s))

pub returns-in-WriteDone-clause-ends : goal.returns-in-WriteDone-clause-ends
returns-in-WriteDone-clause-ends g c o past s =
    subst (λ e. Ends (steps g.N.Notes.note o) past e c.args.self.now c.end_write.new.self c.ended.result) (sym c.in-WriteDone.is)
    (subst (λ r. Ends (steps g.N.Notes.note o) past (WriteDone c.in-WriteDone.ticket c.in-WriteDone.end) c.args.self.now c.end_write.new.self r)
    (sym c.ended.ensures) (c.end_write.ensures.ends o past s))

pub returns-in-Deliver-clause-ends : goal.returns-in-Deliver-clause-ends
returns-in-Deliver-clause-ends g c o past s = rw c.in-Deliver.is (c.deliver.ensures.ends o past s)

pub returns-in-Deliver-clause-ranges : goal.returns-in-Deliver-clause-ranges
returns-in-Deliver-clause-ranges g c o past s = rw c.in-Deliver.is (c.deliver.ensures.ranges o past s)

pub returns-in-CheckDone-clause-ends : goal.returns-in-CheckDone-clause-ends
returns-in-CheckDone-clause-ends g c o past s = rw c.in-CheckDone.is (c.end_check.ensures.ends o past s)
