use Rattle.server_core.proofs.OpenedChecks.{fresh_kept, is_opened}
use Rattle.server_core.proofs.machine.Machine.opened.Goals as goal

pub returns-in-Ok-frames-clause-opened : goal.returns-in-Ok-frames-clause-opened
returns-in-Ok-frames-clause-opened c now h =
    is_opened now.server c.args.self.now.me now.boot c.args.run c.args.attempt c.args.jobs c.new-check.result c.in-Ok-frames.frames h.me
    (fresh_kept now.server now.boot c.args.run c.args.attempt c.args.jobs _ _ c.new-check.result c.new-check.ensures c.in-Ok.ensures c.as_slice.ensures)
    c.in-Ok-frames.ensures
