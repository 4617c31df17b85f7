use Rattle.std.proofs.Common.{refl, sym, subst, ◌∙◌, Some, rules}
use Rattle.server_core.specs.Request.{ToStop}
use Rattle.server_core.specs.Stands.{MachineIs}
use Rattle.server_core.specs.WordsAfter.{words_after}
use Rattle.server_core.proofs.IdleLemmas.{stop_elsewhere}
use Rattle.server_core.proofs.UndueLemmas.{of_run}
use Rattle.server_core.proofs.machine.Machine.stop.Goals as goal
use Rattle.server_core.proofs.machine.Machine.stop.Goals.{in_default-via-in-Some+else-is_writing, in_default-via-in-None-1}

pub returns-in_default-clause-left : goal.returns-in_default-clause-left
returns-in_default-clause-left c now h =
    let old = c.args.self.now in
    elim c.in_default.branch [
      | in_default-via-in-Some+else-is_writing w ↦ subst (λ m. MachineIs m (words_after now (ToStop c.args.run))) (sym w.self-is)
          (of_run old now (ToStop c.args.run) (Some w.in-Some.now) h refl tt
          (stop_elsewhere now.server now.boot old.run w.in-Some.now now.run c.args.run w.in-Some.is h.run_is (sym w.is_writing.ensures ∙ w.if-is_writing.false)))
      | in_default-via-in-None-1 w ↦ search rules
    ]
