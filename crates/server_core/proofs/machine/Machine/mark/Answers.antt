use Rattle.std.proofs.Common.{refl, sym, ◌∙◌, Some}
use Rattle.server_core.specs.Request.{ToMark}
use Rattle.server_core.proofs.IdleLemmas.{mark_elsewhere}
use Rattle.server_core.proofs.UndueLemmas.{of_run}
use Rattle.server_core.proofs.machine.Machine.mark.Goals as goal

pub returns-in_default-clause-left : goal.returns-in_default-clause-left
returns-in_default-clause-left c now h =
    let old = c.args.self.now in
    let kept = c.in-Some.now in
    of_run old now (ToMark c.args.run c.args.job) (Some kept) h refl tt
    (mark_elsewhere now.server now.boot old.run kept now.run c.args.run c.args.job c.in-Some.is h.run_is (sym c.is.ensures ∙ c.if-is.false)).0
