use Rattle.std.proofs.Common.{sym, ◌∙◌, true, false}
use Rattle.net_world.specs.Trace.{client_opening}
use Rattle.net_world.specs.Asking.{entries}
use Rattle.net_world.proofs.MirrorEndsLemmas.{has_node}
use Rattle.net_world.proofs.RenewalEndsLemmas.{unlosable_is}
use Rattle.net_world.proofs.world.World.unlosable.Goals as goal

pub returns-then-runs-clause-why : goal.returns-then-runs-clause-why
returns-then-runs-clause-why c w past stands =
    sym (unlosable_is w past true true (has_node w past c.args.self.now.mirror.node c.if-is_none.ensures stands.mirror_is)
    (sym (c.runs.ensures (client_opening w) (entries w past) stands.client_is) ∙ c.if-runs.true))

pub returns-else-runs-clause-why : goal.returns-else-runs-clause-why
returns-else-runs-clause-why c w past stands =
    sym (unlosable_is w past true false (has_node w past c.args.self.now.mirror.node c.if-is_none.ensures stands.mirror_is)
    (sym (c.runs.ensures (client_opening w) (entries w past) stands.client_is) ∙ c.if-runs.false))
