use Rattle.std.proofs.Common.{sym, ◌∙◌}
use Rattle.net_world.specs.Trace.{mirror_opening}
use Rattle.net_world.specs.Frames.{of_mirror}
use Rattle.net_world.specs.Changes.{steps}
use Rattle.net_world.proofs.MirrorEndsLemmas.{there, runs_on, may_restart}
use Rattle.net_world.proofs.world.World.mirror_on.Goals as goal

pub returns-then-runs-clause-why : goal.returns-then-runs-clause-why
returns-then-runs-clause-why c w past stands =
    let has = there w past c.args.self.now.mirror.node _ c.in-Some.is stands.mirror_is in
    sym (runs_on w past has.0 (sym (c.runs.ensures mirror_opening (of_mirror (steps past)) has.1) ∙ c.if-runs.true))

pub returns-else-runs-clause-why : goal.returns-else-runs-clause-why
returns-else-runs-clause-why c w past stands =
    let has = there w past c.args.self.now.mirror.node _ c.in-Some.is stands.mirror_is in
    sym (may_restart w past has.0 (sym (c.runs.ensures mirror_opening (of_mirror (steps past)) has.1) ∙ c.if-runs.false))
