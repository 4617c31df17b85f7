use Rattle.server_core.specs.Request.{ToPassFully}
use Rattle.server_core.proofs.IdleLemmas.{work_elsewhere}
use Rattle.server_core.proofs.machine.Machine.pass.Goals as goal

pub returns : goal.returns
returns c now h =
    record {
      me = h.me;
      boot_is = h.boot_is;
      last_is = h.last_is;
      staged_is = h.staged_is;
      run_is = work_elsewhere now.server now.boot c.args.self.now.run now.run (ToPassFully c.args.attempt c.args.job) h.run_is tt;
      check_is = c.pass.ensures now.server now.boot now.check h.check_is;
    }
