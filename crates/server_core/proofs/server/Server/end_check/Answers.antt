-- What isn't a frame is heard as it comes.
use Rattle.std.proofs.Common.{refl}
use Rattle.server_core.specs.declared.input.Input.TheVariants as inputs
use Rattle.server_core.specs.declared.input.Input.TheVariants.{CheckDone}
use Rattle.server_core.specs.Hearing.{packets_heard}
use Rattle.server_core.proofs.FrameEndLemmas.{whole_ends}
use Rattle.server_core.proofs.server.Server.end_check.Goals as goal

pub returns-clause-ends : goal.returns-clause-ends
returns-clause-ends g c o past s =
    let a = c.args in
    whole_ends g.N.Notes.note o past (CheckDone a.boot a.attempt a.job a.report) (inputs.CheckDone a.boot a.attempt a.job a.report)
    a.self.now c.step.new.self c.step.result refl s (c.step.ensures o (packets_heard o past) s.core)
