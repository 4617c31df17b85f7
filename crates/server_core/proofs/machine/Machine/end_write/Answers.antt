use Rattle.std.proofs.Common.{refl, sym, ◌∙◌}
use Rattle.server_core.specs.Request.{ToEnd}
use Rattle.server_core.proofs.EndLemmas.{end_of_other_boot}
use Rattle.server_core.proofs.UndueLemmas.{of_run}
use Rattle.server_core.proofs.machine.Machine.end_write.Goals as goal

pub returns-then-ticket-self-clause-left : goal.returns-then-ticket-self-clause-left
returns-then-ticket-self-clause-left c now h =
    let old = c.args.self.now in
    of_run old now (ToEnd c.args.ticket c.args.end) old.run h refl tt
    (end_of_other_boot now.server now.boot old.run now.run c.args.ticket c.args.end h.run_is (λ e. c.if-ticket-self.true (e ∙ sym h.boot_is)))
