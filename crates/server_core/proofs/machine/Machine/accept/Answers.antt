use Rattle.std.proofs.Common.{sym, subst}
use Rattle.server_core.specs.Request.{ToEnd}
use Rattle.server_core.specs.Handles.{Handled}
use Rattle.server_core.proofs.WriteLemmas.{end_handled}
use Rattle.server_core.proofs.machine.Machine.accept.Goals as goal

pub returns-in-WriteDone : goal.returns-in-WriteDone
returns-in-WriteDone c now h undue =
    let ticket = c.in-WriteDone.ticket in
    let end = c.in-WriteDone.end in
    rw c.in-WriteDone.is (subst (Handled now (ToEnd ticket end) c.args.self.now c.end_write.new.self) (sym c.ended.ensures)
    (end_handled now ticket end c.args.self.now c.end_write.new.self c.end_write.result (c.end_write.ensures.answer now h) (c.end_write.ensures.left now h)
    c.end_write.ensures.same))
