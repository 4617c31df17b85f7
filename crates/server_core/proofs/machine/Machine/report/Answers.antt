use Rattle.std.proofs.Common.{inr, sym, subst, ◌∙◌}
use Rattle.std.proofs.lemmas.Bool.{eq-eqb}
use Rattle.server_core.specs.Request.{ToReport}
use Rattle.std.specs.Option.{option_map}
use Rattle.server_core.specs.Check.{Done, check_goes_on}
use Rattle.server_core.specs.KeptCheck.{with_progress}
use Rattle.server_core.specs.Stands.{OpenIs}
use Rattle.server_core.proofs.IdleLemmas.{work_elsewhere}
use Rattle.server_core.proofs.CheckedLemmas.{ready_is, report_kept, report_refused, report_taken}
use Rattle.server_core.proofs.machine.Machine.report.Goals as goal

pub returns-then-not-is_ready-clause-answer : goal.returns-then-not-is_ready-clause-answer
returns-then-not-is_ready-clause-answer c now h =
    inr (report_refused _ _ (eq-eqb c.args.boot now.boot (c.if-boot-self.false ∙ h.boot_is))
    (sym (ready_is now.server now.boot c.args.self.now.check now.check c.args.attempt c.args.job h.check_is) ∙ sym c.is_ready.ensures.value
    ∙ c.if-not-is_ready.true))

pub returns-clause-answer : goal.returns-clause-answer
returns-clause-answer c now h =
    report_taken _ _ (eq-eqb c.args.boot now.boot (c.if-boot-self.false ∙ h.boot_is))
    (sym (ready_is now.server now.boot c.args.self.now.check now.check c.args.attempt c.args.job h.check_is) ∙ sym c.is_ready.ensures.value
    ∙ c.if-not-is_ready.false)

pub returns-clause-left : goal.returns-clause-left
returns-clause-left c now h =
    let boot = c.if-boot-self.false ∙ h.boot_is in
    record {
      me = h.me;
      boot_is = h.boot_is;
      last_is = h.last_is;
      staged_is = h.staged_is;
      run_is = work_elsewhere now.server now.boot c.args.self.now.run now.run (ToReport c.args.boot c.args.attempt c.args.job c.args.report) h.run_is tt;
      check_is = subst (λ k. OpenIs now.server now.boot k (check_goes_on (ToReport c.args.boot c.args.attempt c.args.job c.args.report) now.check))
          (sym c.note.ensures)
          (subst (λ b. OpenIs now.server now.boot (option_map (with_progress c.args.job (Done c.args.report)) c.args.self.now.check)
          (check_goes_on (ToReport b c.args.attempt c.args.job c.args.report) now.check)) (sym boot)
          (report_kept now.server now.boot c.args.self.now.check now.check c.args.attempt c.args.job c.args.report h.check_is
          (sym c.is_ready.ensures.value ∙ c.if-not-is_ready.false)));
    }
