use Rattle.std.proofs.Common.{ap, ◌∙◌}
use Rattle.std.specs.Option.{option_or}
use Rattle.server_core.specs.Request.{ToStage}
use Rattle.server_core.proofs.IdleLemmas.{work_elsewhere, check_elsewhere}
use Rattle.server_core.proofs.machine.Machine.stage.Goals as goal

pub returns-clause-left : goal.returns-clause-left
returns-clause-left c now h =
    record {
      me = h.me;
      boot_is = h.boot_is;
      last_is = h.last_is;
      staged_is = c.keep.ensures ∙ ap (option_or c.in_ok-frames.field-0.new) h.staged_is ∙ c.in_ok-frames.ensures.staged now h;
      run_is = work_elsewhere now.server now.boot c.args.self.now.run now.run (ToStage c.args.run c.args.text.now) h.run_is tt;
      check_is = check_elsewhere now.server now.boot c.args.self.now.check now.check (ToStage c.args.run c.args.text.now) h.check_is tt;
    }
