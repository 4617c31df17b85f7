use Rattle.std.proofs.Common.{sym, ◌∙◌}
use Rattle.net_world.specs.Trace.{client_opening}
use Rattle.net_world.specs.Asking.{entries}
use Rattle.net_world.proofs.NoSaveLemmas.{client_restart_on, client_restart_off}
use Rattle.net_world.proofs.world.World.cut_in_client_restart.Goals as goal

pub returns-then-runs : goal.returns-then-runs
returns-then-runs c landed w past stands =
    client_restart_on w past landed c.args.self.now stands (sym (c.runs.ensures (client_opening w) (entries w past) stands.client_is) ∙ c.if-runs.true)

pub returns-else-runs : goal.returns-else-runs
returns-else-runs c landed w past stands =
    client_restart_off w past landed c.args.self.now stands (sym (c.runs.ensures (client_opening w) (entries w past) stands.client_is) ∙ c.if-runs.false)
