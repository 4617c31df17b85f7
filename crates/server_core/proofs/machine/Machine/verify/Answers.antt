use Rattle.std.proofs.Common.{true, sym, subst}
use Rattle.server_core.specs.Request.{ToVerify}
use Rattle.server_core.specs.Check.{opens, or_opened, check_goes_on}
use Rattle.server_core.specs.Stands.{OpenIs}
use Rattle.server_core.proofs.IdleLemmas.{work_elsewhere, check_elsewhere}
use Rattle.server_core.proofs.OpenedChecks.{opened_or}
use Rattle.server_core.proofs.machine.Machine.verify.Goals as goal

pub returns-clause-left : goal.returns-clause-left
returns-clause-left c now h =
    let x = ToVerify c.args.run c.args.attempt c.args.text.now in
    let o = opens true now.server now.boot now.last now.run now.check x in
    record {
      me = h.me;
      boot_is = h.boot_is;
      last_is = h.last_is;
      staged_is = h.staged_is;
      run_is = work_elsewhere now.server now.boot c.args.self.now.run now.run x h.run_is tt;
      check_is = subst (λ k. OpenIs now.server now.boot k (or_opened o (check_goes_on x now.check))) (sym c.keep.ensures)
          (opened_or now.server now.boot c.in_ok-frames.field-0.new c.args.self.now.check o (check_goes_on x now.check) (c.in_ok-frames.ensures.opened now h)
          (check_elsewhere now.server now.boot c.args.self.now.check now.check x h.check_is tt));
    }
