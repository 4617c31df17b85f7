use Rattle.std.proofs.Common.{◌∙◌, ap, length, List, ℕ, refl}
use Rattle.std.proofs.lemmas.Result.{err_from_is_err_and}
use Rattle.net_world.specs.Trace.{mirror_opening}
use Rattle.net_world.specs.Frames.{of_mirror}
use Rattle.net_world.specs.Changes.{steps}
use Rattle.messages.specs.declared.node.Node.TheVariants.{Mirror}
use Rattle.mirror_core.specs.History as mirror
use Rattle.net_world.specs.Happenings.{Restart}
use Rattle.net_world.proofs.MetLemmas.{none_added}
use Rattle.net_world.proofs.MirrorEndsLemmas.{there, may_restart, plain_ends, restart_plain, restart_ends, still_there}
use Rattle.net_world.proofs.world.World.restart_mirror.Goals as goal

pub returns : goal.returns
returns c w past stands =
    let has = there w past c.args.self.now.mirror.node _ c.in-Some.is stands.mirror_is in
    let h = c.in_ok-restart.ensures mirror_opening (of_mirror (steps past)) has.1 in
    plain_ends w past (Restart Mirror) mirror.Restart c.restart.new.node c.in-Ok.first c.plain.result c.args.self.now _ stands
    (still_there c.in-Some.is refl refl (none_added c.settle.ensures.same) refl refl refl)
    h.1
    (restart_plain w past (may_restart w past has.0 h.0))
    (c.in-Ok.ensures.first ∙ ap (λ (fs : List (List ℕ)). length fs) c.settle.ensures.same)
    c.plain.ensures

pub returns-in_err-restart : goal.returns-in_err-restart
returns-in_err-restart c w past stands =
    let p = err_from_is_err_and c.from_residual.result c.from_residual.ensures.1 in
    rw (p.1, p.2)
    (restart_ends w past c.restart.new.node c.in_err-restart.field-0.0 c.args.self.now _ stands
    (still_there c.in-Some.is refl refl (none_added c.settle.ensures.same) refl refl refl)
    (c.in_err-restart.ensures mirror_opening (of_mirror (steps past)) (there w past c.args.self.now.mirror.node _ c.in-Some.is stands.mirror_is).1))
